-- The first number of a list that is outside, or stood earlier: one turn of the loops, and the index that all turns come to. Rests on
-- specs/Repeats and specs/Engine.
use mathlib.Core.Path.{◌≡◌, refl, sym, ◌∙◌, ap}
use mathlib.Core.Logic.{◌⊎◌, ⊎_elim}
use mathlib.Core.List.{List, [], ◌∷◌, map}
use mathlib.Core.Bool.{Bool, true, false}
use Prim.Native.Nat.{ℕ, zero, suc, ◌+◌, ◌-◌, ◌<◌, ◌≤◌}
use native.Mathlib.Omega.{arith}
use native.Mathlib.Numerals.{add-one, sub-one}
use lib.Dec.{eqb, leb}
use lib.ListN.{length, get_or, take, drop, drop_of_length-le}
use lib.Seq.{drop-cons}
use Rattle.words.specs.Lists.{among}
use Rattle.words.specs.Pick.{pick}
use Rattle.words.specs.Words.{outside}
use Rattle.words.proofs.Places.{front}
use Rattle.repeats.specs.Repeats.{first_outside, repeat_after, first_repeat}
use Rattle.repeats.specs.Engine.{earlier, stood}

-- the first outside, where numbers are left
pub outside_turn : (xs : List ℕ) (size i : ℕ) → i < length xs
    → i + first_outside size (drop i xs) ≡ pick (outside size (get_or xs i 0)) i (i + 1 + first_outside size (drop (i + 1) xs))
unfolding first_outside
outside_turn xs size i h =
    rw (drop-cons xs i 0 h, add-one i) (by-test (outside size (get_or xs i 0)))
  where
    by-test : (b : Bool) → i + pick b 0 (suc (first_outside size (drop (suc i) xs))) ≡ pick b i (suc i + first_outside size (drop (suc i) xs))
    by-test true = omega arith
    by-test false = omega arith

-- and where none is
pub outside_end : (xs : List ℕ) (size i : ℕ) → length xs ≤ i → i + first_outside size (drop i xs) ≡ i
unfolding first_outside
outside_end xs size i h = rw (drop_of_length-le xs {i = i} h) (omega arith)

-- the earlier numbers, from the last of them on
pub among_turn : (x n : ℕ) (xs : List ℕ) → 0 < n
    → among x (earlier n xs) ≡ pick (eqb (get_or xs (n - 1) 0) x) true (among x (earlier (n - 1) xs))
unfolding among earlier
among_turn x zero xs h = absurd (omega arith)
among_turn x (suc n) xs h = rw sub-one

-- no number before an index stood earlier, and the one there did, or there is none: that index is the first
pub found : (xs : List ℕ) (b : ℕ) → b ≤ length xs → ((b ≡ length xs) ⊎ (stood xs b ≡ true)) → ((i : ℕ) → i < b → stood xs i ≡ false)
    → b ≡ first_repeat xs
unfolding first_repeat repeat_after stood earlier
found xs b l s f = sym (from b 0 (omega arith))
  where
    same : (c : Bool) → ◌≡◌ {A = ℕ} (pick c 0 0) 0
    same true = refl
    same false = refl

    last : repeat_after (earlier b xs) (drop b xs) ≡ 0
    last =
        ⊎_elim (λ v. rw (drop_of_length-le xs {i = b} (omega arith)))
        (λ v. front (repeat_after (earlier b xs)) xs b ∙ rw v (same (leb (length xs) b))) s

    from : (d i : ℕ) → i + d ≡ b → repeat_after (earlier i xs) (drop i xs) ≡ d
    from zero i e =
        let z : i ≡ b = omega arith in
        rw z last
    from (suc d) i e = rw (drop-cons xs i 0 (omega arith), f i (omega arith), from d (suc i) (omega arith))

-- a repeat among the first numbers is the first of all
repeat_after_early : (n : ℕ) (earlier xs : List ℕ) → n ≤ length xs → repeat_after earlier (take n xs) < n
    → repeat_after earlier (take n xs) ≡ repeat_after earlier xs
unfolding repeat_after
repeat_after_early zero earlier xs l h = absurd (omega arith)
repeat_after_early (suc n) earlier [] l h = absurd (omega arith)
repeat_after_early (suc n) earlier (x ∷ xs) l h =
    by-test (among x earlier) h (λ k. repeat_after_early n (x ∷ earlier) xs (omega arith) k)
  where
    by-test : (b : Bool) → pick b 0 (suc (repeat_after (x ∷ earlier) (take n xs))) < suc n
        → (repeat_after (x ∷ earlier) (take n xs) < n → repeat_after (x ∷ earlier) (take n xs) ≡ repeat_after (x ∷ earlier) xs)
        → pick b 0 (suc (repeat_after (x ∷ earlier) (take n xs))) ≡ pick b 0 (suc (repeat_after (x ∷ earlier) xs))
    by-test true k f = refl
    by-test false k f = ap suc (f (omega arith))

pub repeat_early : (n : ℕ) (xs : List ℕ) → n ≤ length xs → first_repeat (take n xs) < n → first_repeat (take n xs) ≡ first_repeat xs
unfolding first_repeat
repeat_early n xs l h = repeat_after_early n [] xs l h

-- the numbers of a part are a part of the numbers
pub map_part {ℓ} : {A : Type ℓ} (f : A → ℕ) (xs : List A) (n : ℕ) → map f (take n xs) ≡ take n (map f xs)
map_part f xs zero = refl
map_part f [] (suc n) = refl
map_part f (x ∷ xs) (suc n) = rw (map_part f xs n)
