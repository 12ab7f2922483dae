-- QUAL's bits and the whole number that they are. The bits of a number from 0 to 16,777,215 by the language's own binary32 are read as that number; what
-- is read as a number above 0 has those very bits; so only the two zeros are read alike. Rests on specs/Qual and on the kit's lib.Ieee.
use mathlib.Core.Path.{◌≡◌, refl, sym, ◌∙◌}
use mathlib.Core.Logic.{◌⊎◌, inl, inr, ⊎_elim}
use mathlib.Core.Bool.{Bool, true, false}
use Prim.Native.Nat.{ℕ, zero, suc, ◌+◌, ◌-◌, ◌*◌, ◌/◌, ◌%◌, ◌^◌, ◌<◌, ◌≤◌}
use native.Mathlib.Nat.{zero-add, zero-mul, le_of_eq, lt_of_le_of_lt, mul-one, mul_assoc, mul_right_comm, mul-div_cancel, mul-mod_left, mod-eq_of_lt, div-add-mod', mul-le-mul_right, mul-le-mul_left, le_trans, lt_of_lt_of_le}
use native.Mathlib.Omega.{arith}
use lib.Dec.{ltb, leb, eqb, lit<, lit≤}
use lib.IntN.{pos}
use lib.Pow.{pow-add, pow_pos, pow_mono, shl_lt, shl-shr}
use lib.Ieee.{Float, nan, inf, fin, binary32, up, down, size, of_int, to_bits}
use lib.Ieee.Digits.{size-lt, size-le, size_reaches}
use lib.Ieee.Exact.{HasValue, round_exact}
use lib.Ieee.Fits.{down_pos}
use borrow.Author.Tests.{le-ltb, lt-leb, eq-eqb, ne_eqb, ltb-true, ltb-false, leb-false, eqb-true}
use Rattle.words.specs.Pick.{pick}
use Rattle.vcf_qual.specs.Qual.{whole_of, exponent_of, significand_of}
use Rattle.std.specs.Prelude.{Option, Some, None}

-- the bits of a significand of 24 digits, of which d stand below the point
abbrev bits_of : ℕ → ℕ → ℕ
bits_of d s = (149 - d) * 8388608 + s

read_bits : (d s : ℕ) → d ≤ 23 → 8388608 ≤ s → s < 16777216 → s % 2 ^ d ≡ 0 → whole_of (bits_of d s) ≡ Some (s / 2 ^ d)
unfolding whole_of
read_bits d s k g h z =
    let q = bits_of d s in
    let l : q < 2147483648 = omega arith in
    let m : q % 2147483648 ≡ q = mod-eq_of_lt l in
    let e : q / 8388608 % 256 ≡ 150 - d = omega arith in
    let f : 8388608 + q % 8388608 ≡ s = omega arith in
    let b : 150 - (150 - d) ≡ d = omega arith in
    rw (
      m,
      ne_eqb q 0 (λ u. omega arith),
      lt-leb 2147483648 q l,
      e,
      f,
      b,
      le-ltb (150 - d) 127 (omega arith),
      le-ltb 150 (150 - d) (omega arith),
      eq-eqb _ _ z,
    )

-- how bits that are read as a number stand: no bit but the sign's is set, or the number fills 24 digits with d zeros after it, and these are the significand
data Reading (q n : ℕ) : Type 0 where
  none : q % 2147483648 ≡ 0 → n ≡ 0 → Reading q n
  some : (d : ℕ) → d ≤ 23 → 8388608 ≤ n * 2 ^ d → n * 2 ^ d < 16777216 → q ≡ bits_of d (n * 2 ^ d) → Reading q n

-- a choice that came to a number: which way it went
was_zero : (b : Bool) (y : Option ℕ) (n : ℕ) → pick b (Some 0) y ≡ Some n → ((b ≡ true) × (n ≡ 0)) ⊎ ((b ≡ false) × (y ≡ Some n))
was_zero true y n h = inl (refl, cc)
was_zero false y n h = inr (refl, h)

no_other : (b : Bool) (y : Option ℕ) (n : ℕ) → pick b None y ≡ Some n → (b ≡ false) × (y ≡ Some n)
no_other true y n h = (cc, cc)
no_other false y n h = (refl, h)

was_number : (b : Bool) (m n : ℕ) → pick b (Some m) None ≡ Some n → (b ≡ true) × (m ≡ n)
was_number true m n h = (refl, cc)
was_number false m n h = (cc, cc)

whole_parts : (s one n : ℕ) → s % one ≡ 0 → s / one ≡ n → n * one ≡ s
whole_parts s one n z e = let f : s / one * one + s % one ≡ s = div-add-mod' s one in rw (← e) (omega arith)

reading : (q n : ℕ) → whole_of q ≡ Some n → Reading q n
unfolding whole_of
reading q n h = ⊎_elim (λ z. none (eqb-true _ _ z.0) z.1) (λ t. further t.1) (was_zero (eqb (q % 2147483648) 0) _ n h)
  where
    further : pick (leb 2147483648 q) None
        (pick (ltb (exponent_of q) 127) None
        (pick (ltb 150 (exponent_of q)) None
        (pick (eqb (significand_of q % 2 ^ (150 - exponent_of q)) 0) (Some (significand_of q / 2 ^ (150 - exponent_of q))) None))) ≡ Some n
        → Reading q n
    further h =
        let x = exponent_of q in
        let s = significand_of q in
        let one = 2 ^ (150 - x) in
        let a = no_other (leb 2147483648 q) _ n h in
        let b = no_other (ltb x 127) _ n a.1 in
        let c = no_other (ltb 150 x) _ n b.1 in
        let d = was_number (eqb (s % one) 0) _ n c.1 in
        let w : n * one ≡ s = whole_parts s one n (eqb-true _ _ d.0) d.1 in
        let l : q < 2147483648 = leb-false _ _ a.0 in
        let g : 127 ≤ x = ltb-false _ _ b.0 in
        let k : x ≤ 150 = ltb-false _ _ c.0 in
        some (150 - x) (omega arith) (rw w (omega arith)) (rw w (omega arith)) (rw w (omega arith))

-- what the language writes, in units of 2 ^ -149: a number below 2 ^ 24 is kept whole, and the field before its significand counts the digits behind that
sized : (s k : ℕ) → 8388608 ≤ s → s < 16777216 → size (s * 2 ^ k) ≡ 24 + k
sized s k g h =
    let n = s * 2 ^ k in
    let a : size n ≤ 24 + k = size-le n (24 + k) (shl_lt {a = s} 24 k h) in
    let b : 2 ^ (23 + k) ≤ n = rw (pow-add 2 23 k) (mul-le-mul_right (2 ^ k) g) in
    let c : n < 2 ^ size n = size-lt n in
    by-test (ltb (size n) (24 + k)) refl a b c
  where
    by-test : (t : Bool) → ltb (size (s * 2 ^ k)) (24 + k) ≡ t → size (s * 2 ^ k) ≤ 24 + k → 2 ^ (23 + k) ≤ s * 2 ^ k
        → s * 2 ^ k < 2 ^ size (s * 2 ^ k) → size (s * 2 ^ k) ≡ 24 + k
    by-test true t a b c =
        let e : size (s * 2 ^ k) < 24 + k = ltb-true _ _ t in
        let f : 2 ^ size (s * 2 ^ k) ≤ 2 ^ (23 + k) = pow_mono (omega arith) in
        absurd (omega arith)
    by-test false t a b c = let e : 24 + k ≤ size (s * 2 ^ k) = ltb-false _ _ t in omega arith

written : (n s k : ℕ) → n ≡ s * 2 ^ k → 8388608 ≤ s → s < 16777216 → (size n - 24) * 8388608 + n / 2 ^ (size n - 24) ≡ k * 8388608 + s
written n s k e g h =
    let z : size n - 24 ≡ k = rw (e, sized s k g h) (omega arith) in
    rw (z, e, shl-shr s k)

in_units : (m u d n l : ℕ) → 0 < d → m * u * 1 ≡ n * d → m * u * l / d ≡ n * l
in_units m u d n l p v =
    let e : m * u ≡ n * d = sym (mul-one (m * u)) ∙ v in
    rw (e, mul_right_comm n d l, mul-div_cancel (n * l) p)

float_bits_lem : (x : Float) (n d : ℕ) → HasValue x false n 1 → d ≤ 23 → 8388608 ≤ n * 2 ^ d → n * 2 ^ d < 16777216
    → to_bits binary32 x ≡ bits_of d (n * 2 ^ d)
unfolding to_bits
float_bits_lem nan n d v k g h = absurd v
float_bits_lem (inf t) n d v k g h = absurd v
float_bits_lem (fin t m e) n d v k g h =
    let a : m * up e * 2 ^ 149 / down e ≡ n * 2 ^ 149 = in_units m (up e) (down e) n (2 ^ 149) (down_pos e) v.1 in
    let b : d + (149 - d) ≡ 149 = omega arith in
    let c : n * 2 ^ 149 ≡ n * 2 ^ d * 2 ^ (149 - d) = rw (mul_assoc n (2 ^ d) (2 ^ (149 - d)), ← pow-add 2 d (149 - d), b) in
    rw (v.0, a, zero-add) (written (n * 2 ^ 149) (n * 2 ^ d) (149 - d) c g h)

kept_whole : (n : ℕ) → n < 16777216 → HasValue (of_int binary32 (pos n)) false n 1
unfolding of_int
kept_whole n l =
    let f = lt_of_lt_of_le (shl_lt {a = n} 24 149 l) (pow_mono {i = 24 + 149} {j = 149 + 128} (lit≤ tt)) in
    round_exact binary32 false n 1 n 149 (lit< tt) l f (sym (mul-one (n * 2 ^ 149)))

scaled_up : (n d : ℕ) → n ≤ n * 2 ^ d
scaled_up n d = le_trans (le_of_eq (sym (mul-one n))) (mul-le-mul_left n (pow_pos d))

number_bits : (n d : ℕ) → d ≤ 23 → 8388608 ≤ n * 2 ^ d → n * 2 ^ d < 16777216
    → to_bits binary32 (of_int binary32 (pos n)) ≡ bits_of d (n * 2 ^ d)
number_bits n d k g h = float_bits_lem (of_int binary32 (pos n)) n d (kept_whole n (lt_of_le_of_lt (scaled_up n d) h)) k g h

-- a number of z digits, moved up until it has 24
moved_up : (n z : ℕ) → 0 < z → z ≤ 24 → n < 2 ^ z → 2 ^ (z - 1) ≤ n → (8388608 ≤ n * 2 ^ (24 - z)) × (n * 2 ^ (24 - z) < 16777216)
moved_up n z p l u g =
    let e : z + (24 - z) ≡ 24 = omega arith in
    let f : z - 1 + (24 - z) ≡ 23 = omega arith in
    let a : 2 ^ (z - 1) * 2 ^ (24 - z) ≡ 8388608 = rw (← pow-add 2 (z - 1) (24 - z), f) in
    let b = mul-le-mul_right (2 ^ (24 - z)) g in
    let c = shl_lt {a = n} z (24 - z) u in
    (rw a at b, rw e at c)

-- the bits of a number are read as that number
pub whole_bits : (n : ℕ) → n < 16777216 → whole_of (to_bits binary32 (of_int binary32 (pos n))) ≡ Some n
whole_bits zero h = unfold whole_of of_int to_bits in refl
whole_bits (suc k) h = of_size (size (suc k)) (size-lt (suc k)) (size_reaches (suc k)) (size-le (suc k) 24 h)
  where
    of_size : (z : ℕ) → suc k < 2 ^ z → ((j : ℕ) → j < z → 2 ^ j ≤ suc k) → z ≤ 24
        → whole_of (to_bits binary32 (of_int binary32 (pos (suc k)))) ≡ Some (suc k)
    of_size zero u g l = absurd (omega arith)
    of_size (suc z) u g l =
        let d = 24 - suc z in
        let m = moved_up (suc k) (suc z) (omega arith) l u (g (suc z - 1) (omega arith)) in
        rw (
          number_bits (suc k) d (omega arith) m.0 m.1,
          read_bits d (suc k * 2 ^ d) (omega arith) m.0 m.1 (mul-mod_left (suc k) (2 ^ d)),
          shl-shr (suc k) d,
        )

-- what is read as a number above 0 has the bits of that number; what is read as 0 is one of the two zeros
pub bits_whole : (q n : ℕ) → whole_of q ≡ Some n → 0 < n → q ≡ to_bits binary32 (of_int binary32 (pos n))
bits_whole q n h p = by-reading (reading q n h)
  where
    by-reading : Reading q n → q ≡ to_bits binary32 (of_int binary32 (pos n))
    by-reading (none z e) = absurd (omega arith)
    by-reading (some d k g l e) = e ∙ sym (number_bits n d k g l)

pub bits_zero : (q : ℕ) → whole_of q ≡ Some 0 → q % 2147483648 ≡ 0
bits_zero q h = by-reading (reading q 0 h)
  where
    by-reading : Reading q 0 → q % 2147483648 ≡ 0
    by-reading (none z e) = z
    by-reading (some d k g l e) = let z = zero-mul (2 ^ d) in absurd (omega arith)

pub two_zeros : (q : ℕ) → q < 4294967296 → whole_of q ≡ Some 0 → (q ≡ 0) ⊎ (q ≡ 2147483648)
two_zeros q l h = let z = bits_zero q h in by-test (ltb q 2147483648) refl z
  where
    by-test : (b : Bool) → ltb q 2147483648 ≡ b → q % 2147483648 ≡ 0 → (q ≡ 0) ⊎ (q ≡ 2147483648)
    by-test true e z = let g : q < 2147483648 = ltb-true _ _ e in inl (sym (mod-eq_of_lt g) ∙ z)
    by-test false e z = let g : 2147483648 ≤ q = ltb-false _ _ e in inr (omega arith)

pub number_small : (q n : ℕ) → whole_of q ≡ Some n → n < 16777216
number_small q n h = by-reading (reading q n h)
  where
    by-reading : Reading q n → n < 16777216
    by-reading (none z e) = omega arith
    by-reading (some d k g l e) = lt_of_le_of_lt (scaled_up n d) l

-- two patterns that are read alike are the same, or the two zeros
pub alike : (q r n : ℕ) → whole_of q ≡ Some n → whole_of r ≡ Some n → (q ≡ r) ⊎ ((q % 2147483648 ≡ 0) × (r % 2147483648 ≡ 0))
alike q r zero h g = inr (bits_zero q h, bits_zero r g)
alike q r (suc n) h g = inl (bits_whole q (suc n) h (omega arith) ∙ sym (bits_whole r (suc n) g (omega arith)))
