-- Elements that pass, every one: nothing is wrong with vectors of nothing else. Rests on vectors' rule for elements that pass.
use mathlib.Core.Path.{◌≡◌, refl, sym}
use mathlib.Core.List.{List, [], ◌∷◌, map}
use mathlib.Core.Bool.{Bool, true, false, ◌&&◌}
use Prim.Native.Nat.{ℕ, zero, suc, ◌/◌, ◌<◌, ◌+◌}
use native.Mathlib.Omega.{arith}
use native.Mathlib.Numerals.{add-one}
use lib.Dec.{ltb}
use lib.ListN.{length, take, drop, get_or}
use borrow.Author.Tests.{lt-ltb, eq-eqb}
use Rattle.std.proofs.lemmas.List.{map-id}
use Rattle.words.specs.Pick.{pick}
use Rattle.vectors.specs.Engine.{passed, all_passed, AllOn}
use Rattle.vectors.proofs.Plain.{all_on, on_3, on_5, vector_on, and_pick}
use Rattle.vectors.specs.Vectors.{Sound}
use Rattle.build_given.specs.Given.{vectors_given, elements_number}
use lib.Seq.{drop-cons}

-- the missing mark passes, whatever the most is
pub missing_passes : (low high missing most x : ℕ) → missing < low → x ≡ missing → true ≡ passed low high missing most x
unfolding passed
missing_passes low high missing most x h e = rw (eq-eqb x missing e, lt-ltb x low (omega arith)) (by_most (ltb most x))
  where
    by_most : (b : Bool) → true ≡ pick b true true
    by_most true = refl
    by_most false = refl

-- one element more of those that are left
pub sweep_turn : (xs : List ℕ) (low high missing most i : ℕ) (b : Bool) → i < length xs
    → b && all_passed low high missing most (drop i xs)
    ≡ (b && passed low high missing most (get_or xs i 0)) && all_passed low high missing most (drop (i + 1) xs)
unfolding all_passed
sweep_turn xs low high missing most i true h = rw (drop-cons xs i 0 h, add-one i) (sym (and_pick (passed low high missing most (get_or xs i 0)) (all_passed low high missing most (drop (suc i) xs))))
sweep_turn xs low high missing most i false h = refl

-- elements that all go on: the first of them, and the others
on_take : (most t n : ℕ) (xs : List ℕ) → AllOn most t xs → AllOn most t (take n xs)
on_take most t zero xs h = tt
on_take most t (suc n) [] h = tt
on_take most t (suc n) (x ∷ xs) h = (h.0, on_take most t n xs h.1)

on_drop : (most t n : ℕ) (xs : List ℕ) → AllOn most t xs → AllOn most t (drop n xs)
on_drop most t zero xs h = h
on_drop most t (suc n) [] h = tt
on_drop most t (suc n) (x ∷ xs) h = on_drop most t n xs h.1

-- vectors of nothing else, however many and however long, are sound
vectors_on : (most t len n : ℕ) (xs : List ℕ) → AllOn most t xs → vectors_given most t len n xs ≡ Sound
unfolding vectors_given
vectors_on most t len zero xs h = refl
vectors_on most t len (suc n) xs h =
    rw (vector_on most t 0 0 (take len xs) (on_take most t len xs h)) (vectors_on most t len n (drop len xs) (on_drop most t len xs h))

elements_on : (most t len : ℕ) (xs : List ℕ) → AllOn most t xs → elements_number most t len xs ≡ 0
unfolding elements_number
elements_on most t len xs h = rw (vectors_on most t len (length xs / len) xs h)

pub integers_on : (most len : ℕ) (xs : List ℕ) → all_passed 0x80000001 0x80000007 0x80000000 most xs ≡ true → elements_number most 3 len xs ≡ 0
integers_on most len xs e = elements_on most 3 len xs (all_on 3 _ _ _ most (on_3 most) xs e)

-- floats are their bits
pub floats_on : (most len : ℕ) (xs : List ℕ) → all_passed 0x7F800002 0x7F800007 0x7F800001 most (map (λ x. x) xs) ≡ true → elements_number most 5 len xs ≡ 0
floats_on most len xs e = elements_on most 5 len xs (all_on 5 _ _ _ most (on_5 most) xs (rw map-id at e))
