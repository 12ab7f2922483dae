-- Laws of text up to its first zero byte: what is there as far as it was searched, that it holds no zero byte, and that a text with none is whole.
-- Rests on specs/Names and on words' `among`.
use mathlib.Core.Path.{◌≡◌, refl, ap}
use mathlib.Core.List.{List, [], ◌∷◌}
use mathlib.Core.Bool.{Bool, true, false}
use Prim.Native.Nat.{ℕ, zero, suc, ◌+◌, ◌-◌, ◌≤◌, min, max}
use mathlib.Core.Logic.{◌≢◌}
use native.Mathlib.Numerals.{sub-one, add-one}
use native.Mathlib.Omega.{arith}
use lib.Dec.{eqb, ltb}
use lib.ListN.{length, get_or, take, drop, length-take, length-drop, drop_of_length-le}
use lib.Seq.{take_all, take-nil}
use borrow.Author.Tests.{eq-eqb, ne_eqb, ltb-true, ltb-false}
use Rattle.words.specs.Pick.{pick}
use Rattle.words.specs.Lists.{among}
use Rattle.names.specs.Names.{before_zero, begin_of, stretch_of, name_of}

-- where a search stops: at once, or one byte later
pub zero_here : (b : ℕ) (bs : List ℕ) → b ≡ 0 → length (before_zero (b ∷ bs)) ≡ 0
unfolding before_zero
zero_here b bs e = rw (eq-eqb b 0 e)

pub zero_later : (b : ℕ) (bs : List ℕ) → b ≢ 0 → length (before_zero (b ∷ bs)) ≡ length (before_zero bs) + 1
unfolding before_zero
zero_later b bs e = rw (ne_eqb b 0 e, add-one)

-- what stands before it is the text's front
pub take_before : (l : List ℕ) → take (length (before_zero l)) l ≡ before_zero l
unfolding before_zero
take_before [] = refl
take_before (b ∷ bs) = by-test (eqb b 0) (take_before bs)
  where
    by-test : (t : Bool) → take (length (before_zero bs)) bs ≡ before_zero bs
        → take (length (pick t [] (b ∷ before_zero bs))) (b ∷ bs) ≡ pick t [] (b ∷ before_zero bs)
    by-test true on = refl
    by-test false on = ap (λ (l : List ℕ). b ∷ l) on

pub before_inside : (l : List ℕ) → length (before_zero l) ≤ length l
before_inside l = let e = ap length (take_before l) in omega (arith, e, length-take (length (before_zero l)) l)

-- a text with no zero byte is whole
pub free : (l : List ℕ) → among 0 l ≡ false → before_zero l ≡ l
unfolding before_zero among
free [] h = refl
free (b ∷ bs) h = by-test (eqb b 0) h (free bs)
  where
    by-test : (t : Bool) → pick t true (among 0 bs) ≡ false → (among 0 bs ≡ false → before_zero bs ≡ bs) → pick t [] (b ∷ before_zero bs) ≡ b ∷ bs
    by-test true h on = cc
    by-test false h on = ap (λ (l : List ℕ). b ∷ l) (on h)

-- what stands before the first zero byte has none, so that it is taken once
pub zero_free : (l : List ℕ) → among 0 (before_zero l) ≡ false
unfolding before_zero among
zero_free [] = refl
zero_free (b ∷ bs) = by-test (eqb b 0) refl (zero_free bs)
  where
    by-test : (t : Bool) → eqb b 0 ≡ t → among 0 (before_zero bs) ≡ false → among 0 (pick t [] (b ∷ before_zero bs)) ≡ false
    by-test true e on = refl
    by-test false e on = rw e on

pub before_again : (l : List ℕ) → before_zero (before_zero l) ≡ before_zero l
before_again l = free (before_zero l) (zero_free l)

-- the begin of a name but the first
pub begin_after : (ends : List ℕ) (i : ℕ) → (i ≡ 0 → ⊥) → get_or ends (i - 1) 0 ≡ begin_of ends i
begin_after ends zero h = absurd (h refl)
begin_after ends (suc i) h = rw sub-one

-- the name, by where its begin and its end lie in the text
pub name_is : (text ends : List ℕ) (i b e : ℕ) → b ≡ min (begin_of ends i) (length text) → e ≡ max (min (get_or ends i 0) (length text)) b
    → before_zero (take (e - b) (drop b text)) ≡ name_of text ends i
unfolding name_of stretch_of
name_is text ends i b e h k = ap before_zero (by-begin (ltb (length text) (begin_of ends i)) refl)
  where
    -- of what is there, the part up to the end
    by-end : (t : Bool) → ltb (length text) (get_or ends i 0) ≡ t → b ≡ begin_of ends i → b ≤ length text
        → take (e - b) (drop b text) ≡ take (get_or ends i 0 - b) (drop b text)
    by-end true q f l =
        let r = ltb-true _ _ q in
        rw (take_all (e - b) (drop b text) (rw length-drop (omega arith)), take_all (get_or ends i 0 - b) (drop b text) (rw length-drop (omega arith)))
    by-end false q f l =
        let r = ltb-false _ _ q in
        let z : e - b ≡ get_or ends i 0 - b = omega arith in
        rw z

    by-begin : (t : Bool) → ltb (length text) (begin_of ends i) ≡ t
        → take (e - b) (drop b text) ≡ take (get_or ends i 0 - begin_of ends i) (drop (begin_of ends i) text)
    by-begin true q =
        let l = ltb-true _ _ q in
        rw (drop_of_length-le text {i = b} (omega arith), drop_of_length-le text {i = begin_of ends i} (omega arith), take-nil {A = ℕ} (e - b), take-nil {A = ℕ} (get_or ends i 0 - begin_of ends i))
    by-begin false q =
        let l = ltb-false _ _ q in
        let f : b ≡ begin_of ends i = omega arith in
        rw (← f) (by-end (ltb (length text) (get_or ends i 0)) refl f (omega arith))
