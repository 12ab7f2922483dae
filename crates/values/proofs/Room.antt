-- Room for elements: products bounded, and the test by division that stands for the product. Rests on the kit's numbers.
use mathlib.Core.Path.{◌≡◌, refl}
use mathlib.Core.Bool.{Bool, true, false}
use Prim.Native.Nat.{ℕ, zero, suc, ◌+◌, ◌-◌, ◌*◌, ◌/◌, ◌<◌, ◌≤◌}
use native.Mathlib.Omega.{arith}
use native.Mathlib.Numerals.{sub-one}
use native.Mathlib.Nat.{suc-mul, mul-zero, le-div_iff_mul-le, mul-lt-mul_of_pos_right, mul-le-mul_left, lt_of_le_of_lt, le_of_lt}
use lib.Dec.{leb}
use borrow.Author.Tests.{leb-true, leb-false, le-leb, lt-leb}

-- a product of bounded numbers
pub prod : {a b : ℕ} (x y : ℕ) → 0 < y → a < x → b < y → a * b < x * y
prod {a} {b} x y p h g = lt_of_le_of_lt (mul-le-mul_left a (le_of_lt g)) (mul-lt-mul_of_pos_right h p)

-- n elements of w bytes fit between two places where the division says so
pub fits_over : (first n w end : ℕ) → 0 < w → first ≤ end → leb n ((end - first) / w) ≡ leb (first + n * w) end
fits_over first n w end p h = by-test (leb n ((end - first) / w)) refl
  where
    by-test : (b : Bool) → leb n ((end - first) / w) ≡ b → leb n ((end - first) / w) ≡ leb (first + n * w) end
    by-test true e =
        let q : n * w ≤ end - first = (le-div_iff_mul-le p).0 (leb-true _ _ e) in
        rw (e, le-leb (first + n * w) end (omega arith))
    by-test false e = by-room (leb (first + n * w) end) refl
      where
        by-room : (c : Bool) → leb (first + n * w) end ≡ c → leb n ((end - first) / w) ≡ leb (first + n * w) end
        by-room false k = rw (e, k)
        by-room true k =
            let r : first + n * w ≤ end = leb-true _ _ k in
            let q : n ≤ (end - first) / w = (le-div_iff_mul-le p).1 (omega arith) in
            let z : (end - first) / w < n = leb-false _ _ e in
            absurd (omega arith)

-- nothing fits before its start
pub fits_before : (first n w end : ℕ) → end < first → false ≡ leb (first + n * w) end
fits_before first n w end h = let q : end < first + n * w = omega arith in rw (lt-leb (first + n * w) end q)

-- elements of no width fit wherever they stand
pub fits_none : (first n w end : ℕ) → w ≡ 0 → first ≤ end → true ≡ leb (first + n * w) end
fits_none first n w end z h = let q : first + n * w ≤ end = rw (z, mul-zero) (omega arith) in rw (le-leb (first + n * w) end q)

-- room for n elements is room for the first and for the others
pub room : (at n w m : ℕ) → 0 < n → at + n * w ≤ m → at + w + (n - 1) * w ≤ m
room at zero w m h r = omega arith
room at (suc n) w m h r = rw sub-one (omega (arith, suc-mul n w))
