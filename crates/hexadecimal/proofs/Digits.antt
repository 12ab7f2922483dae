-- What digits say of a line: each below 16, a byte from two, a number from eight; and one turn of each loop. Rests on specs/Hexadecimal.
use mathlib.Core.Path.{◌≡◌, refl}
use mathlib.Core.List.{List, [], ◌∷◌}
use mathlib.Core.Bool.{Bool, true, false}
use Prim.Native.Nat.{ℕ, zero, suc, ◌+◌, ◌-◌, ◌*◌, ◌/◌, ◌<◌, ◌≤◌}
use native.Mathlib.Nat.{add-zero, add_assoc}
use native.Mathlib.Numerals.{add-one, add-two, sub-one}
use native.Mathlib.Omega.{arith}
use lib.Dec.{leb, ltb}
use lib.ListN.{length, get_or, take, drop, length-drop, drop_of_length-le}
use lib.Seq.{drop-cons, drop-drop, get_or-drop}
use borrow.Author.Tests.{leb-false}
use Rattle.std.specs.List.{list_all}
use Rattle.std.proofs.lemmas.Bool.Decides.{nat_tests}
use Rattle.words.specs.Pick.{pick}
use Rattle.hexadecimal.specs.Hexadecimal.{digit, digits, byte, line_bytes, big, eights}

passed : (b r : Bool) → pick b false r ≡ true → (b ≡ false) × (r ≡ true)
passed true r h = (cc, cc)
passed false r h = (refl, h)

-- each character of a line of digits is below 16
pub digit_below : (s : List ℕ) (i : ℕ) → digits s ≡ true → i < length s → digit (get_or s i 0) < 16
unfolding digits
digit_below [] i h l = absurd (omega arith)
digit_below (c ∷ cs) zero h l = leb-false 16 (digit c) (passed (leb 16 (digit c)) _ h).0
digit_below (c ∷ cs) (suc i) h l = digit_below cs i (passed (leb 16 (digit c)) _ h).1 (omega arith)

-- the whole line by one test of each character
pub digits_all : (l : List ℕ) → digits l ≡ list_all (λ c. ltb (digit c) 16) l
unfolding digits
digits_all [] = refl
digits_all (c ∷ cs) = let on = digits_all cs in grind (arith, nat_tests)

pub paired_end : (s : List ℕ) (i : ℕ) → length s ≤ i → line_bytes (drop i s) ≡ []
unfolding line_bytes
paired_end s i h = rw (drop_of_length-le s {i = i} h)

pub eights_end : (n : ℕ) (l : List ℕ) → n ≡ 0 → eights n l ≡ []
unfolding eights
eights_end n l h = rw h

pub paired_turn : (s : List ℕ) (i : ℕ) → i + 1 < length s
    → line_bytes (drop i s) ≡ byte (get_or s i 0) (get_or s (i + 1) 0) ∷ line_bytes (drop (i + 2) s)
unfolding line_bytes
paired_turn s i h = rw (drop-cons s i 0 (omega arith), drop-cons s (suc i) 0 (omega arith), add-one i, add-two i)

pub length_line_bytes : (l : List ℕ) → length (line_bytes l) ≡ length l / 2
unfolding line_bytes
length_line_bytes [] = refl
length_line_bytes (h ∷ []) = refl
length_line_bytes (h ∷ l ∷ rest) = omega (arith, length_line_bytes rest)

pub eights_turn : (n at : ℕ) (s : List ℕ) → 0 < n → eights n (drop at s) ≡ big (take 8 (drop at s)) ∷ eights (n - 1) (drop (at + 8) s)
unfolding eights
eights_turn zero at s h = absurd (omega arith)
eights_turn (suc n) at s h = rw (sub-one, drop-drop 8 at s)

pub eights_next : (n i : ℕ) (s : List ℕ) → i < n → eights (n - i) (drop (8 * i) s) ≡ big (take 8 (drop (8 * i) s)) ∷ eights (n - (i + 1)) (drop (8 * (i + 1)) s)
eights_next n i s h =
    let m : n - (i + 1) ≡ n - i - 1 = omega arith in
    let e : 8 * (i + 1) ≡ 8 * i + 8 = omega arith in
    rw (m, e, eights_turn (n - i) (8 * i) s (omega arith))

pub length_eights : (n : ℕ) (l : List ℕ) → length (eights n l) ≡ n
unfolding eights
length_eights zero l = refl
length_eights (suc n) l = rw (length_eights n (drop 8 l))

-- the number of eight digits, by their four bytes
eight : (t : List ℕ) → 7 < length t
    → big (take 8 t)
    ≡ byte (get_or t 0 0) (get_or t 1 0) * 16777216
    + byte (get_or t 2 0) (get_or t 3 0) * 65536
    + byte (get_or t 4 0) (get_or t 5 0) * 256
    + byte (get_or t 6 0) (get_or t 7 0)
unfolding big byte
eight [] h = absurd (omega arith)
eight (c0 ∷ []) h = absurd (omega arith)
eight (c0 ∷ c1 ∷ []) h = absurd (omega arith)
eight (c0 ∷ c1 ∷ c2 ∷ []) h = absurd (omega arith)
eight (c0 ∷ c1 ∷ c2 ∷ c3 ∷ []) h = absurd (omega arith)
eight (c0 ∷ c1 ∷ c2 ∷ c3 ∷ c4 ∷ []) h = absurd (omega arith)
eight (c0 ∷ c1 ∷ c2 ∷ c3 ∷ c4 ∷ c5 ∷ []) h = absurd (omega arith)
eight (c0 ∷ c1 ∷ c2 ∷ c3 ∷ c4 ∷ c5 ∷ c6 ∷ []) h = absurd (omega arith)
eight (c0 ∷ c1 ∷ c2 ∷ c3 ∷ c4 ∷ c5 ∷ c6 ∷ c7 ∷ rest) h = omega arith

pub eight_at : (s : List ℕ) (at : ℕ) → at + 7 < length s
    → big (take 8 (drop at s))
    ≡ byte (get_or s at 0) (get_or s (at + 1) 0) * 16777216
    + byte (get_or s (at + 2) 0) (get_or s (at + 2 + 1) 0) * 65536
    + byte (get_or s (at + 4) 0) (get_or s (at + 4 + 1) 0) * 256
    + byte (get_or s (at + 6) 0) (get_or s (at + 6 + 1) 0)
eight_at s at h = rw (eight (drop at s) (rw length-drop (omega arith))) (simp (get_or-drop, add_assoc, add-zero))
