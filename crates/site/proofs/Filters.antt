-- FILTER's answer by two indices: the first element that is no offset below the dictionary's size, and the first that stood earlier among those
-- before it. Rests on specs/Filters and on repeats' definitions.
use mathlib.Core.Path.{◌≡◌, refl, sym, ◌∙◌, ap}
use mathlib.Core.List.{List, [], ◌∷◌}
use mathlib.Core.Bool.{Bool, true, false}
use Prim.Native.Nat.{ℕ, suc, ◌+◌, ◌*◌, ◌/◌, ◌≤◌}
use native.Mathlib.Omega.{arith}
use native.Mathlib.Nat.{suc-mul, zero-mul, zero-add}
use lib.Dec.{ltb, leb-suc-suc}
use lib.ListN.{length, take}
use borrow.Author.Tests.{lt-ltb}
use Rattle.words.specs.Lists.{among}
use Rattle.words.specs.Pick.{pick}
use Rattle.words.specs.Words.{outside}
use Rattle.types.specs.Rows.{width_of}
use Rattle.vectors.specs.Vectors.{unsound, Sound}
use Rattle.repeats.specs.Repeats.{shown_elements, first_outside, repeat_after, first_repeat}
use Rattle.repeats.proofs.Elements.{length_elements, elements_front}
use Rattle.values.specs.Answers.{Answer}
use Rattle.site.specs.Filters.{filters, filtered}

-- n elements of w bytes from a place on, of which the first k are offsets, and the first repeat of those is the one at r
abbrev pub verdict : ℕ → ℕ → ℕ → ℕ → ℕ → Answer (Unit {0})
verdict w at r k n =
    pick (ltb r k) (unsound 11 (at + r * w)) (pick (ltb k n) (unsound 8 (at + k * w)) Sound)

-- one more element before them
verdict_more : (w at r k n : ℕ) → verdict w (at + w) r k n ≡ verdict w at (suc r) (suc k) (suc n)
verdict_more w at r k n =
    let p : at + suc r * w ≡ at + w + r * w = omega (arith, suc-mul r w) in
    let q : at + suc k * w ≡ at + w + k * w = omega (arith, suc-mul k w) in
    rw (leb-suc-suc (suc r) k, leb-suc-suc (suc k) n, p, q)

pub filters_verdict : (strings w at : ℕ) (earlier xs : List ℕ)
    → filters strings w at earlier xs
    ≡ verdict w at (repeat_after earlier (take (first_outside strings xs) xs)) (first_outside strings xs) (length xs)
unfolding filters first_outside repeat_after
filters_verdict strings w at earlier [] = refl
filters_verdict strings w at earlier (x ∷ xs) =
    by-outside (outside strings x) (filters_verdict strings w (at + w) (x ∷ earlier) xs ∙ verdict_more w at r k (length xs))
  where
    k : ℕ
    k = first_outside strings xs

    r : ℕ
    r = repeat_after (x ∷ earlier) (take k xs)

    e : at + 0 * w ≡ at
    e = omega (arith, zero-mul w)

    by-among : (b : Bool) → filters strings w (at + w) (x ∷ earlier) xs ≡ verdict w at (suc r) (suc k) (suc (length xs))
        → pick b (unsound 11 at) (filters strings w (at + w) (x ∷ earlier) xs)
        ≡ verdict w at (pick b 0 (suc r)) (suc k) (suc (length xs))
    by-among true on = rw (lt-ltb 0 (suc k) (omega arith), e)
    by-among false on = on

    by-outside : (b : Bool) → filters strings w (at + w) (x ∷ earlier) xs ≡ verdict w at (suc r) (suc k) (suc (length xs))
        → pick b (unsound 8 at) (pick (among x earlier) (unsound 11 at) (filters strings w (at + w) (x ∷ earlier) xs))
        ≡ verdict w at (repeat_after earlier (take (pick b 0 (suc k)) (x ∷ xs))) (pick b 0 (suc k)) (suc (length xs))
    by-outside true on = rw (lt-ltb 0 (suc (length xs)) (omega arith), e)
    by-outside false on = by-among (among x earlier) on

-- the elements of a part, by their count and the two indices
pub filtered_verdict : (s : List ℕ) (strings t w n k r : ℕ) → w ≡ width_of t → n ≡ length s / w → k ≡ first_outside strings (shown_elements t s)
    → k ≤ length s / width_of t → r ≡ first_repeat (shown_elements t (take (k * w) s))
    → filtered strings t s ≡ pick (ltb r k) (unsound 11 (r * w)) (pick (ltb k n) (unsound 8 (k * w)) Sound)
unfolding filtered shown_elements first_repeat
filtered_verdict s strings t w n k r ew en ek h er =
    let xs = shown_elements t s in
    let l : length xs ≡ n = length_elements t s ∙ rw (← ew) (sym en) in
    let f : shown_elements t (take (k * w) s) ≡ take k xs = rw ew (elements_front t k s h) in
    let q : r ≡ repeat_after [] (take k xs) = er ∙ ap first_repeat f in
    filters_verdict strings (width_of t) 0 [] xs ∙ rw (← ek, ← q, l, ← ew, zero-add (r * w), zero-add (k * w))
