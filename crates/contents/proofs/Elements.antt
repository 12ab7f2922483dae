-- Elements are shown by their own bytes, whatever stands around them; one by one, as they are asked for, they are those that a record shows. Rests on
-- specs/Fetched, on elements and on fetch_laws' Fronts.
use Rattle.std.specs.Prelude.{None, Some}
use mathlib.Core.Path.{◌≡◌, refl, sym, ◌∙◌, ap}
use mathlib.Core.List.{List, [], ◌∷◌}
use Prim.Native.Nat.{ℕ, zero, suc, ◌+◌, ◌*◌, ◌/◌, ◌≤◌}
use native.Mathlib.Omega.{arith}
use native.Mathlib.Nat.{suc-mul, zero-mul, zero-div, div-mul-le_self, div-one}
use lib.Dec.{leb, leb-zero, leb-suc-zero, leb-suc-suc}
use lib.ListN.{length, take, drop}
use lib.Seq.{drop-drop, take-take, length-take-le}
use Rattle.words.specs.Pick.{pick}
use Rattle.words.specs.Words.{le, number}
use Rattle.types.specs.Rows.{row_of, width_of}
use Rattle.types.specs.Elements.{shown}
use Rattle.vectors.specs.Vectors.{shown_numbers, elements_of}
use Rattle.fetch_laws.proofs.Fronts.{numbers_take, shown_numbers_numbers}
use Rattle.elements.specs.Elements.{shown_by, element_at}
use Rattle.contents.specs.Fetched.{shown_at}

pub elements_of_take : (t size : ℕ) (l m : List ℕ) → take size l ≡ take size m → elements_of t size l ≡ elements_of t size m
unfolding elements_of
elements_of_take t size l m h =
    let w = width_of t in
    let n = size / w in
    let few : n * w ≤ size = div-mul-le_self size w in
    let same : take (n * w) l ≡ take (n * w) m = sym (take-take (n * w) size l few) ∙ ap (take (n * w)) h ∙ take-take (n * w) size m few in
    rw (shown_numbers_numbers t w n l, shown_numbers_numbers t w n m, numbers_take w n l m same)

-- of no bytes there are no elements
pub elements_of_none : (t : ℕ) (l : List ℕ) → elements_of t 0 l ≡ []
unfolding elements_of shown_numbers
elements_of_none t l = rw (zero-div (width_of t))

-- one of the numbers at the front of a list
shown_at_shown_numbers : (t w n : ℕ) (l : List ℕ) (i : ℕ)
    → shown_at t (shown_numbers t w n l) i ≡ pick (leb n i) None (Some (shown_by t (shown t (number w (drop (i * w) l)))))
unfolding shown_numbers
shown_at_shown_numbers t w zero l i = rw leb-zero
shown_at_shown_numbers t w (suc n) l zero = rw (leb-suc-zero, zero-mul w)
shown_at_shown_numbers t w (suc n) l (suc i) =
    let e : w + i * w ≡ suc i * w = omega (arith, suc-mul i w) in
    rw (leb-suc-suc, shown_at_shown_numbers t w n (drop w l) i, drop-drop (i * w) w l, e)

-- so many bytes at the front of a list, as a part: its elements are those of the list
pub shown_at_elements_of : (t size : ℕ) (l : List ℕ) → size ≤ length l → (i : ℕ) → element_at t i (take size l) ≡ shown_at t (elements_of t size l) i
unfolding element_at elements_of
shown_at_elements_of t size l h i =
    let w = width_of t in
    let n = size / w in
    let front : shown_numbers t w n l ≡ shown_numbers t w n (take size l) =
    elements_of_take t size l (take size l) (sym (take-take size size l (omega arith))) in
    rw (length-take-le size l h, front) (sym (shown_at_shown_numbers t w n (take size l) i))

length_shown_numbers : (t w n : ℕ) (l : List ℕ) → length (shown_numbers t w n l) ≡ n
unfolding shown_numbers
length_shown_numbers t w zero l = refl
length_shown_numbers t w (suc n) l = rw (length_shown_numbers t w n (drop w l))

-- there are as many as the bytes hold whole
pub length_elements_of : (t size : ℕ) (l : List ℕ) → length (elements_of t size l) ≡ size / width_of t
unfolding elements_of
length_elements_of t size l = length_shown_numbers t (width_of t) (size / width_of t) l

-- the elements of text are its bytes
shown_text : (b : ℕ) (l : List ℕ) → shown 7 (number 1 (b ∷ l)) ≡ b
unfolding shown number le
shown_text b l = omega arith

text_bytes_lem : (n : ℕ) (l : List ℕ) → n ≤ length l → shown_numbers 7 1 n l ≡ take n l
unfolding shown_numbers
text_bytes_lem zero l h = refl
text_bytes_lem (suc n) [] h = absurd (omega arith)
text_bytes_lem (suc n) (b ∷ l) h = rw (shown_text b l, text_bytes_lem n l (omega arith))

pub elements_of_text : (size : ℕ) (l : List ℕ) → size ≤ length l → elements_of 7 size l ≡ take size l
unfolding elements_of width_of row_of
elements_of_text size l h = rw (div-one size) (text_bytes_lem size l h)
