-- The words of all people, person by person: the elements of one are those of its own bytes. Rests on specs/Words.
use mathlib.Core.Path.{◌≡◌, refl, sym, ◌∙◌}
use mathlib.Core.List.{List, [], ◌++◌}
use Prim.Native.Nat.{ℕ, zero, suc, ◌+◌, ◌-◌, ◌*◌, ◌/◌, ◌<◌, ◌≤◌}
use native.Mathlib.Omega.{arith}
use native.Mathlib.Nat.{add-div_left, div-div-eq-div-mul, div-eq_of_lt, div-mul-le_self, div-zero, mul-div_cancel, mul_comm, mul-zero, sub-zero, suc-mul, zero-mul}
use native.Mathlib.Numerals.{add-one}
use lib.ListN.{length, length-append, length-drop, length-take, take, drop}
use lib.Seq.{drop-append_seam, drop-drop, take-append_seam}
use Rattle.std.proofs.lemmas.List.{drop-append-le, take-append-drop, take-append-le}
use Rattle.words.specs.Words.{number}
use Rattle.types.specs.Rows.{width_of}
use Rattle.vectors.specs.Vectors.{shown_numbers, elements_of}
use Rattle.pieces.specs.Pieces.{followed}
use Rattle.vcf_calls.specs.Words.{vectors_of, call_words, part_words}
use Rattle.vcf_calls.specs.Engine.{person_text, column_of, columns_of}

take_shown : (t w a n : ℕ) (l : List ℕ) → a ≤ n → take a (shown_numbers t w n l) ≡ shown_numbers t w a l
unfolding shown_numbers
take_shown t w zero n l h = refl
take_shown t w (suc a) zero l h = absurd (omega arith)
take_shown t w (suc a) (suc n) l h = rw (take_shown t w a n (drop w l) (omega arith))

drop_shown : (t w a n : ℕ) (l : List ℕ) → a ≤ n → drop a (shown_numbers t w n l) ≡ shown_numbers t w (n - a) (drop (a * w) l)
unfolding shown_numbers
drop_shown t w zero n l h = rw (zero-mul w, sub-zero n)
drop_shown t w (suc a) zero l h = absurd (omega arith)
drop_shown t w (suc a) (suc n) l h =
    let e : w + a * w ≡ suc a * w = rw (suc-mul a w) (omega arith) in
    let s : suc n - suc a ≡ n - a = omega arith in
    rw (drop_shown t w a n (drop w l) (omega arith), drop-drop (a * w) w l, e, s)

-- what is made of the bytes at the front is the same, whatever follows them
shown_front : (t w n : ℕ) (a b : List ℕ) → n * w ≤ length a → shown_numbers t w n (a ++ b) ≡ shown_numbers t w n a
unfolding shown_numbers number
shown_front t w zero a b h = refl
shown_front t w (suc n) a b h =
    let q : w ≤ length a = omega (arith, suc-mul n w) in
    let r : n * w ≤ length (drop w a) = omega (arith, suc-mul n w, length-drop w a) in
    rw (take-append-le w a b q, drop-append-le w a b q, shown_front t w n (drop w a) b r)

-- the elements of a person's own bytes
person_shown : (t len : ℕ) (l : List ℕ) → 0 < width_of t → len * width_of t ≤ length l
    → elements_of t (length (take (len * width_of t) l)) (take (len * width_of t) l) ≡ shown_numbers t (width_of t) len l
unfolding elements_of
person_shown t len l p h =
    let w = width_of t in
    let e : length (take (len * w) l) ≡ len * w = rw length-take (omega arith) in
    let d : length (take (len * w) l) / w ≡ len = rw e (mul-div_cancel len p) in
    let q : len * w ≤ length (take (len * w) l) = omega arith in
    rw d (sym (rw take-append-drop at (shown_front t w len (take (len * w) l) (drop (len * w) l) q)))

columns_words : (t len n k : ℕ) (l : List ℕ) → 0 < width_of t → n * len ≤ k → n * (len * width_of t) ≤ length l
    → followed 0x09 (call_words n len (shown_numbers t (width_of t) k l)) ≡ columns_of t (len * width_of t) n l
unfolding followed call_words vectors_of column_of person_text columns_of
columns_words t len zero k l p h g = refl
columns_words t len (suc n) k l p h g =
    let w = width_of t in
    let e = suc-mul n len in
    let d = suc-mul n (len * w) in
    let r : n * (len * w) ≤ length (drop (len * w) l) = rw length-drop (omega arith) in
    let on = columns_words t len n (k - len) (drop (len * w) l) p (omega arith) r in
    rw (take_shown t w len k l (omega arith), drop_shown t w len k l (omega arith), on, person_shown t len l p (omega arith))

-- the law: the words of a part are its people's columns
pub part_columns : (t len : ℕ) (l : List ℕ) → 0 < len * width_of t
    → followed 0x09 (part_words t len l) ≡ columns_of t (len * width_of t) (length l / (len * width_of t)) l
unfolding part_words elements_of
part_columns t len l p =
    let w = width_of t in
    let e : length l / w / len ≡ length l / (len * w) = rw mul_comm (div-div-eq-div-mul (length l) w len) in
    let o : 0 < w = some (width_of t) p in
    let h : length l / (len * w) * len ≤ length l / w = rw (← e) (div-mul-le_self (length l / w) len) in
    rw e (columns_words t len (length l / (len * w)) (length l / w) l o h (div-mul-le_self (length l) (len * w)))
  where
    some : (w : ℕ) → 0 < len * w → 0 < w
    some zero q = let z = mul-zero len in absurd (omega arith)
    some (suc w) q = omega arith

-- where elements have no width, or people no elements, there are no words
pub part_none : (t len : ℕ) (l : List ℕ) → len * width_of t ≡ 0 → followed 0x09 (part_words t len l) ≡ []
unfolding part_words call_words vectors_of followed
part_none t len l h =
    let e : length l / width_of t / len ≡ 0 = rw (div-div-eq-div-mul (length l) (width_of t) len, mul_comm, h) (div-zero (length l)) in
    rw e

-- people taken chunk by chunk
pub columns_on : (t size : ℕ) (s x rest : List ℕ) → 0 < size → s ≡ x ++ rest → length x ≡ size
    → columns_of t size (length s / size) s ≡ column_of t x ++ columns_of t size (length rest / size) rest
unfolding columns_of
columns_on t size s x rest p e h =
    let n : length s / size ≡ suc (length rest / size) = rw (e, length-append, h) (add-div_left (length rest) p ∙ add-one _) in
    let a : take size (x ++ rest) ≡ x = rw h at (take-append_seam x rest) in
    let b : drop size (x ++ rest) ≡ rest = rw h at (drop-append_seam x rest) in
    rw (n, e, a, b)

pub no_columns : (t size : ℕ) (s : List ℕ) → length s < size → columns_of t size (length s / size) s ≡ []
unfolding columns_of
no_columns t size s h = rw (div-eq_of_lt h)
