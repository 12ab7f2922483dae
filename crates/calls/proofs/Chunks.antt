-- A list taken chunk by chunk: its numbers one by one, its people one by one, and whole groups of people. Rests on specs/Engine.
use mathlib.Core.Path.{◌≡◌, refl, sym, ◌∙◌}
use mathlib.Core.List.{List, [], ◌∷◌, ◌++◌}
use mathlib.Core.Bool.{Bool, true, false}
use Prim.Native.Nat.{ℕ, zero, suc, ◌+◌, ◌*◌, ◌/◌, ◌%◌, ◌<◌, ◌≤◌, max, min}
use native.Mathlib.Omega.{arith}
use native.Mathlib.Numerals.{add-one}
use native.Mathlib.Nat.{add-div_left, div-add-mod', div-eq_of_lt, div-one, mul-add-div_right, mul-add-mod_self_right, mul_assoc, mul_comm, mul-div_cancel, mul-div-le, mul-le-mul, mul-mod_left, mul-mod_right, mul-one, one-mul, suc-mul}
use lib.Dec.{ltb}
use lib.ListN.{drop, length, length-append, length-drop, length-take, take}
use lib.Seq.{drop-append_seam}
use borrow.Author.Tests.{ltb-true, ltb-false}
use Rattle.std.proofs.lemmas.List.{drop-append-le, take-append-drop, take-append-le}
use Rattle.words.specs.Words.{le, number}
use Rattle.types.specs.Rows.{width_of}
use Rattle.vectors.proofs.Plain.{block_one}
use Rattle.vectors.proofs.Turns.{vectors_fit}
use Rattle.vectors.specs.Vectors.{numbers}
use Rattle.calls.specs.Calls.{people, people_of}
use Rattle.calls.specs.Engine.{every, everyone}
use Rattle.calls.proofs.Laws.{people_append}

-- what is made of the bytes at the front is the same, whatever follows them
number_front : (w : ℕ) (a b : List ℕ) → w ≤ length a → number w (a ++ b) ≡ number w a
unfolding number
number_front w a b h = rw (take-append-le w a b h)

numbers_front : (w n : ℕ) (a b : List ℕ) → n * w ≤ length a → numbers w n (a ++ b) ≡ numbers w n a
unfolding numbers
numbers_front w zero a b h = refl
numbers_front w (suc n) a b h =
    let q : w ≤ length a = omega (arith, suc-mul n w) in
    let r : n * w ≤ length (drop w a) = omega (arith, suc-mul n w, length-drop w a) in
    rw (number_front w a b q, drop-append-le w a b q, numbers_front w n (drop w a) b r)

people_front : (w len n : ℕ) (a b : List ℕ) → n * (len * w) ≤ length a → people w len n (a ++ b) ≡ people w len n a
unfolding people
people_front w len zero a b h = refl
people_front w len (suc n) a b h =
    let q : len * w ≤ length a = omega (arith, suc-mul n (len * w)) in
    let r : n * (len * w) ≤ length (drop (len * w) a) = omega (arith, suc-mul n (len * w), length-drop (len * w) a) in
    rw (numbers_front w len a b q, drop-append-le (len * w) a b q, people_front w len n (drop (len * w) a) b r)

-- the first number, and those after it
pub every_cons : (w : ℕ) (a b : List ℕ) → 0 < w → length a ≡ w → every w (a ++ b) ≡ number w a ∷ every w b
unfolding every numbers
every_cons w a b p h =
    let e : length (a ++ b) / w ≡ suc (length b / w) = rw (length-append, h) (add-div_left (length b) p ∙ add-one _) in
    let q : w ≤ length a = omega arith in
    let d : drop w (a ++ b) ≡ b = rw h at (drop-append_seam a b) in
    rw (e, number_front w a b q, d)

pub every_end : (w : ℕ) (l : List ℕ) → length l < w → every w l ≡ []
unfolding every numbers
every_end w l h = rw (div-eq_of_lt h)

-- whole people, and those after them
pub everyone_append : (w len : ℕ) (a b : List ℕ) → 0 < len * w → length a % (len * w) ≡ 0
    → everyone w len (a ++ b) ≡ everyone w len a ++ everyone w len b
unfolding everyone
everyone_append w len a b p h =
    let e : length a / (len * w) * (len * w) ≡ length a = omega (arith, div-add-mod' (length a) (len * w)) in
    let d : length (a ++ b) / (len * w) ≡ length a / (len * w) + length b / (len * w) =
    rw length-append (rw e at (mul-add-div_right p (length a / (len * w)) (length b))) in
    let q : length a / (len * w) * (len * w) ≤ length a = omega arith in
    rw (d, people_append, people_front w len _ a b q, e, drop-append_seam a b)

-- one person, and those after it
pub everyone_cons : (w len : ℕ) (a b : List ℕ) → 0 < w → 0 < len * w → length a ≡ len * w
    → everyone w len (a ++ b) ≡ every w a ∷ everyone w len b
unfolding everyone every people
everyone_cons w len a b o p h =
    let q : length a % (len * w) ≡ 0 = rw h (self (len * w)) in
    let e : length a / (len * w) ≡ 1 = rw h (once (len * w) p) in
    let f : length a / w ≡ len = rw h (mul-div_cancel len o) in
    everyone_append w len a b p q ∙ rw (e, f)
  where
    self : (n : ℕ) → n % n ≡ 0
    self n = rw one-mul at (mul-mod_left 1 n)

    once : (n : ℕ) → 0 < n → n / n ≡ 1
    once n h = rw one-mul at (mul-div_cancel 1 h)

pub everyone_end : (w len : ℕ) (l : List ℕ) → length l < len * w → everyone w len l ≡ []
unfolding everyone people
everyone_end w len l h = rw (div-eq_of_lt h)

-- bytes are numbers of one
pub numbers_bytes : (l : List ℕ) → numbers 1 (length l) l ≡ l
unfolding numbers number le
numbers_bytes [] = refl
numbers_bytes (x ∷ l) = let e : x + 0 * 256 ≡ x = omega arith in rw (e, numbers_bytes l)

pub every_bytes : (l : List ℕ) → every 1 l ≡ l
unfolding every
every_bytes l = rw (div-one, numbers_bytes l)

-- a block of so many people, or of the last, is whole people, and so is what follows it
pub block_whole : (size k n : ℕ) → n % size ≡ 0 → min (size * k) n % size ≡ 0
block_whole size k n h = by-test (ltb (size * k) n) refl
  where
    by-test : (b : Bool) → ltb (size * k) n ≡ b → min (size * k) n % size ≡ 0
    by-test true q =
        let g : size * k < n = ltb-true _ _ q in
        let e : min (size * k) n ≡ size * k = omega arith in
        rw e (mul-mod_right size k)
    by-test false q =
        let g : n ≤ size * k = ltb-false _ _ q in
        let e : min (size * k) n ≡ n = omega arith in
        rw e h

pub rest_whole : (size x y : ℕ) → (x + y) % size ≡ 0 → x % size ≡ 0 → y % size ≡ 0
rest_whole size x y h g =
    let e : x / size * size ≡ x = omega (arith, div-add-mod' x size) in
    rw e at (sym (mul-add-mod_self_right (x / size) size y)) ∙ h

-- the people of a part are all that its front is, where that has room for so many
pub everyone_of : (t w len n : ℕ) (l : List ℕ) → w ≡ width_of t → n ≡ length l / w / len → 0 < len * w → n * (len * w) ≤ length l
    → everyone w len (take (n * (len * w)) l) ≡ people_of t len l
unfolding everyone people_of
everyone_of t w len n l a b p h =
    let e : length (take (n * (len * w)) l) ≡ n * (len * w) = rw length-take (omega arith) in
    let d : length (take (n * (len * w)) l) / (len * w) ≡ n = rw e (mul-div_cancel n p) in
    let q : n * (len * w) ≤ length (take (n * (len * w)) l) = omega arith in
    let f = rw take-append-drop at (people_front w len n (take (n * (len * w)) l) (drop (n * (len * w)) l) q) in
    rw d (sym f ∙ rw (b, a))

-- people that fit into so many bytes
pub people_fit : (n k len w m : ℕ) → 0 < n → n * len ≤ k → k * w ≤ m → (n * (len * w) ≤ m) × (len * w ≤ m)
people_fit n k len w m p h g =
    let q = vectors_fit n k len w m h g in
    (omega arith, block_one 0 n n (len * w) m p (omega arith) q)

-- the bytes of a block are few
pub block_fits : (len w m : ℕ) → w ≤ 4 → len * w ≤ m → 512 ≤ m → len * w * max (128 / len) 1 ≤ m
block_fits len w m h g q = by-test (ltb 1 (128 / len)) refl
  where
    by-test : (b : Bool) → ltb 1 (128 / len) ≡ b → len * w * max (128 / len) 1 ≤ m
    by-test true r =
        let k : 1 < 128 / len = ltb-true _ _ r in
        let e : max (128 / len) 1 ≡ 128 / len = omega arith in
        let d : len * w * (128 / len) ≡ w * (len * (128 / len)) = rw (mul_comm len w, mul_assoc) in
        let u : len * (128 / len) ≤ 128 = mul-div-le 128 len in
        let v : w * (len * (128 / len)) ≤ 4 * 128 = mul-le-mul h u in
        rw (e, d) (omega arith)
    by-test false r =
        let k : 128 / len ≤ 1 = ltb-false _ _ r in
        let e : max (128 / len) 1 ≡ 1 = omega arith in
        rw (e, mul-one) g
