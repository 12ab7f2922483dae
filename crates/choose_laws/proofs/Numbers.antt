-- The numbers at the front of a list: some are followed by the others, and those of the chosen people are chosen from everybody's. Rests
-- on vectors' numbers, on the choice and on fetch_laws' Fronts.
use mathlib.Core.Path.{◌≡◌, refl}
use mathlib.Core.List.{List, [], ◌∷◌, ◌++◌, append_assoc}
use mathlib.Core.Bool.{true}
use Prim.Native.Nat.{ℕ, zero, suc, ◌+◌, ◌*◌, ◌≤◌}
use native.Mathlib.Omega.{arith}
use native.Mathlib.Nat.{suc-mul, zero-mul, suc-add, zero-add, mul_assoc}
use lib.ListN.{length, take, drop, length-drop}
use lib.Seq.{drop-drop, take_at, drop_at, length-take-le}
use Rattle.vectors.specs.Vectors.{shown_numbers}
use Rattle.fetch_laws.proofs.Fronts.{numbers_take, shown_numbers_numbers}
use Rattle.choice.specs.Choice.{ascending_from, chosen_parts}
use Rattle.choice.proofs.Choice.{ascends, part_inside}

shown_numbers_add : (t w a b : ℕ) (l : List ℕ) → shown_numbers t w (a + b) l ≡ shown_numbers t w a l ++ shown_numbers t w b (drop (a * w) l)
unfolding shown_numbers
shown_numbers_add t w zero b l = rw (zero-add b, zero-mul w)
shown_numbers_add t w (suc a) b l =
    let e : w + a * w ≡ suc a * w = omega (arith, suc-mul a w) in
    rw (suc-add a b, shown_numbers_add t w a b (drop w l), drop-drop (a * w) w l, e)

-- some of them from one on
take_shown_numbers : (t w a n : ℕ) (l : List ℕ) → a ≤ n → take a (shown_numbers t w n l) ≡ shown_numbers t w a l
unfolding shown_numbers
take_shown_numbers t w zero n l h = refl
take_shown_numbers t w (suc a) zero l h = absurd (omega arith)
take_shown_numbers t w (suc a) (suc n) l h = rw (take_shown_numbers t w a n (drop w l) (omega arith))

part_shown_numbers : (t w a b n : ℕ) (l : List ℕ) → a + b ≤ n → take b (drop a (shown_numbers t w n l)) ≡ shown_numbers t w b (drop (a * w) l)
unfolding shown_numbers
part_shown_numbers t w zero b n l h = rw (zero-mul w) (take_shown_numbers t w b n l (omega arith))
part_shown_numbers t w (suc a) b zero l h = absurd (omega arith)
part_shown_numbers t w (suc a) b (suc n) l h =
    let e : w + a * w ≡ suc a * w = omega (arith, suc-mul a w) in
    rw (part_shown_numbers t w a b n (drop w l) (omega arith), drop-drop (a * w) w l, e)

-- what the chosen people show is chosen from what everybody shows
pub shown_numbers_chosen_parts : (t w n least people : ℕ) (cs l m : List ℕ) → ascending_from least people cs ≡ true → people * (n * w) ≤ length l
    → shown_numbers t w (length cs * n) (chosen_parts (n * w) cs l ++ m) ≡ chosen_parts n cs (shown_numbers t w (people * n) l)
unfolding shown_numbers chosen_parts
shown_numbers_chosen_parts t w n least people [] l m h r = rw (zero-mul n)
shown_numbers_chosen_parts t w n least people (c ∷ cs) l m h r =
    let a = ascends least people c cs h in
    let p = part_inside c people (n * w) (length l) a.below r in
    let q = part_inside c people n (people * n) a.below (omega arith) in
    let part = take (n * w) (drop (c * (n * w)) l) in
    let rest = chosen_parts (n * w) cs l ++ m in
    let k : length part ≡ n * w = length-take-le (n * w) (drop (c * (n * w)) l) (rw length-drop (omega arith)) in
    let e : suc (length cs) * n ≡ n + length cs * n = omega (arith, suc-mul (length cs) n) in
    let front : shown_numbers t w n (part ++ rest) ≡ shown_numbers t w n (drop (c * (n * w)) l) =
    rw (
      shown_numbers_numbers t w n (part ++ rest),
      shown_numbers_numbers t w n (drop (c * (n * w)) l),
      numbers_take w n (part ++ rest) (drop (c * (n * w)) l) (take_at part rest (n * w) k),
    ) in
    rw (
      e,
      append_assoc part (chosen_parts (n * w) cs l) m,
      shown_numbers_add t w n (length cs * n) (part ++ rest),
      drop_at part rest (n * w) k,
      shown_numbers_chosen_parts t w n (suc c) people cs l m a.rest r,
      front,
      part_shown_numbers t w (c * n) n (people * n) l q,
      mul_assoc c n w,
    )
