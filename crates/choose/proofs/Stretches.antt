-- A stretch of neighbours, stored in one go: where their parts lie, and what is left to store. Rests on choice/specs/Choice and on stores.
use mathlib.Core.Path.{◌≡◌, ◌∙◌}
use mathlib.Core.List.{List, ◌∷◌, ◌++◌}
use mathlib.Core.Bool.{true}
use Prim.Native.Nat.{ℕ, zero, suc, ◌+◌, ◌-◌, ◌*◌, ◌<◌, ◌≤◌}
use native.Mathlib.Omega.{arith}
use native.Mathlib.Nat.{add-mul, mul-le-mul_right, add-sub_cancel_left}
use native.Mathlib.Numerals.{sub-one}
use lib.ListN.{length, get_or, take, drop, length-drop}
use lib.Seq.{sets, drop-cons, drop-drop, length-take-le, get_or-drop}
use Rattle.words.proofs.Stores.{sets_append}
use Rattle.stores.specs.Stores.{filled}
use Rattle.stores.proofs.Room.{filled_room}
use Rattle.choice.specs.Choice.{ascending_from, ascending, chosen_parts}
use Rattle.choice.proofs.Choice.{ascending_drop, ascending_below, neighbours}

-- the parts of k neighbours are one stretch of bytes, which lies among everybody's
pub stretch_inside : (people size m : ℕ) (cs : List ℕ) (i k : ℕ) → ascending people cs ≡ true → people * size ≤ m → 0 < k → i + k ≤ length cs
    → get_or cs (i + (k - 1)) 0 ≡ get_or cs i 0 + (k - 1) → get_or cs i 0 * size + k * size ≤ m
stretch_inside people size m cs i k h r z e g =
    let b = ascending_below 0 people (i + (k - 1)) cs h (omega arith) in
    let q : (get_or cs i 0 + k) * size ≤ people * size = mul-le-mul_right size (omega arith) in
    let d : (get_or cs i 0 + k) * size ≡ get_or cs i 0 * size + k * size = add-mul (get_or cs i 0) k size in
    omega arith

-- the room that is left after them
pub stretch_room : (size o i k n m : ℕ) → i + k ≤ n → o + (n - i) * size ≤ m → o + k * size + (n - (i + k)) * size ≤ m
stretch_room size o i k n m h r =
    let e : n - i ≡ k + (n - (i + k)) = omega arith in
    let d : (n - i) * size ≡ k * size + (n - (i + k)) * size = rw e (add-mul k (n - (i + k)) size) in
    omega arith

stretch_parts : (people size : ℕ) (cs : List ℕ) (i k : ℕ) (l : List ℕ) → ascending people cs ≡ true → 0 < k → i + k ≤ length cs
    → get_or cs (i + (k - 1)) 0 ≡ get_or cs i 0 + (k - 1)
    → chosen_parts size (drop i cs) l ≡ take (k * size) (drop (get_or cs i 0 * size) l) ++ chosen_parts size (drop (i + k) cs) l
stretch_parts people size cs i zero l h z e g = absurd (omega arith)
stretch_parts people size cs i (suc k) l h z e g = from_front (drop-cons cs i 0 (omega arith)) (ascending_drop 0 people i cs h)
  where
    from_front : drop i cs ≡ get_or cs i 0 ∷ drop (suc i) cs → ascending_from 0 people (drop i cs) ≡ true
        → chosen_parts size (drop i cs) l ≡ take (suc k * size) (drop (get_or cs i 0 * size) l) ++ chosen_parts size (drop (i + suc k) cs) l
    from_front q a =
        let p : k ≤ length (drop (suc i) cs) = rw (length-drop (suc i) cs) (omega arith) in
        let at-k : get_or (get_or cs i 0 ∷ drop (suc i) cs) k 0 ≡ get_or cs i 0 + k = rw (← q, get_or-drop i cs k 0) (rw sub-one at g) in
        let s : suc i + k ≡ i + suc k = omega arith in
        rw q (neighbours size 0 people (get_or cs i 0) k (drop (suc i) cs) l (rw q at a) p at-k ∙ rw (drop-drop k (suc i) cs, s))

-- what is left to store, before the stretch is stored and after
pub stretch_stored : (buf : List ℕ) (o people size : ℕ) (cs : List ℕ) (i k : ℕ) (l : List ℕ) → ascending people cs ≡ true
    → people * size ≤ length l → 0 < k → i + k ≤ length cs → get_or cs (i + (k - 1)) 0 ≡ get_or cs i 0 + (k - 1) → o + (length cs - i) * size ≤ length buf
    → sets buf o (chosen_parts size (drop i cs) l)
    ≡ sets (filled buf o (take (get_or cs i 0 * size + k * size - get_or cs i 0 * size) (drop (get_or cs i 0 * size) l))) (o + k * size)
    (chosen_parts size (drop (i + k) cs) l)
stretch_stored buf o people size cs i k l h r z e g room =
    let first = get_or cs i 0 * size in
    let n = k * size in
    let q = stretch_inside people size (length l) cs i k h r z e g in
    let w = stretch_room size o i k (length cs) (length buf) e room in
    let len : length (take n (drop first l)) ≡ n = length-take-le n (drop first l) (rw length-drop (omega arith)) in
    let f : filled buf o (take n (drop first l)) ≡ sets buf o (take n (drop first l)) = filled_room buf o (take n (drop first l)) (rw len (omega arith)) in
    rw (stretch_parts people size cs i k l h z e g, sets_append (take n (drop first l)) (chosen_parts size (drop (i + k) cs) l) buf o, len, add-sub_cancel_left, f)
