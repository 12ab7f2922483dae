-- 32 bits and the signed number that they are, also by way of 64 bits. Rests on the language's own reading of signed numbers.
use mathlib.Core.Path.{◌≡◌, ap, refl}
use mathlib.Core.List.{List, map}
use mathlib.Core.Bool.{false, true}
use Prim.Native.Nat.{ℕ, suc, ◌-◌, ◌≤◌, ◌<◌, ◌^◌}
use borrow.Author.Tests.{le-ltb, lt-ltb, leb-false}
use lib.IntN.{ℤ, pos, negsuc, ◌-ℤ◌, nat_abs, ◌+ℤ◌}
use lib.ListN.{get_or, get_or-map}
use lib.Signed.{mag, le_z, non_neg}
use mir.Syntax.{w32, w64}
use mir.Facts.{to_z-of_z, sfits_widen}
use mir.Val.{to_z, of_z, SFits, Fits}
use native.Mathlib.Omega.{arith}
use lib.Dec.{T}

-- bits with the sign bit set: 2 ^ 32 less
pub less : (n : ℕ) → n < 2 ^ 32 → to_z w64 n -ℤ pos 4294967296 ≡ negsuc (2 ^ 32 - suc n)
less n h =
    let p : n < 2 ^ 63 = omega arith in
    let q : n < 4294967296 = omega arith in
    simp (lt-ltb n (2 ^ 63) p, lt-ltb n 4294967296 q)

pub high : (n : ℕ) → 2 ^ 31 ≤ n → to_z w32 n ≡ negsuc (2 ^ 32 - suc n)
high n h = simp (le-ltb n (2 ^ 31) h)

-- a negative number, written and read back, at 64 bits and at 32
pub negative_64 : (n : ℕ) → 2 ^ 31 ≤ n → n < 2 ^ 32 → to_z w64 (of_z w64 (negsuc (2 ^ 32 - suc n))) ≡ negsuc (2 ^ 32 - suc n)
negative_64 n l h = to_z-of_z {w = w64} {z = negsuc (2 ^ 32 - suc n)} (record { sfits = omega arith })

pub negative_32 : (n : ℕ) → 2 ^ 31 ≤ n → n < 2 ^ 32 → to_z w32 (of_z w32 (negsuc (2 ^ 32 - suc n))) ≡ negsuc (2 ^ 32 - suc n)
negative_32 n l h = to_z-of_z {w = w32} {z = negsuc (2 ^ 32 - suc n)} (record { sfits = omega arith })

-- a signed number read back
pub back : (z : ℤ) → SFits w32 z → to_z w32 (of_z w32 z) ≡ z
back z f = to_z-of_z {w = w32} {z = z} f

pub back_wide : (z : ℤ) → SFits w32 z → to_z w64 (of_z w64 (to_z w32 (of_z w32 z))) ≡ z
back_wide z f = rw (back z f) (to_z-of_z {w = w64} {z = z} (sfits_widen {w = w32} {w' = w64} {z = z} tt f))

pub back_64 : (n : ℕ) → n < 2 ^ 32 → to_z w64 (of_z w64 (pos n)) ≡ pos n
back_64 n h = to_z-of_z {w = w64} {z = pos n} (record { sfits = omega arith })

-- the bits of a number that is read from a lent list, and of each number of a list
pub bits_back : (z : ℤ) → mag z < 2 ^ 31 → of_z w32 (to_z w32 (of_z w32 z)) ≡ of_z w32 z
bits_back z h = ap (of_z w32) (back z (record { sfits = h }))

pub bits_at : (zs : List ℤ) (i : ℕ) → get_or (map (of_z w32) zs) i 0 ≡ of_z w32 (get_or zs i (pos 0))
bits_at zs i = get_or-map (of_z w32) zs i (pos 0)

-- from 0 up: the number itself
pub up : (z : ℤ) → SFits w32 z → le_z (pos 0) z ≡ true → T (non_neg z) × Fits w32 (nat_abs z)
up (pos n) f h = let x = f.sfits in (tt, record { fits = omega arith })
up (negsuc n) f h = let z : ◌≡◌ {A = ℕ} 0 1 = cc in absurd (omega arith)

pub up_bits : (z : ℤ) → le_z (pos 0) z ≡ true → nat_abs z ≡ of_z w32 z
up_bits (pos n) h = refl
up_bits (negsuc n) h = let z : ◌≡◌ {A = ℕ} 0 1 = cc in absurd (omega arith)

-- below 0: 2 ^ 32 more
pub down : (z : ℤ) → SFits w32 z → le_z (pos 0) z ≡ false → z +ℤ pos 4294967296 ≡ pos (of_z w32 z)
down (pos n) f h = let x = leb-false 0 n h in absurd (omega arith)
down (negsuc n) f h =
    let x = f.sfits in
    let q : suc n ≤ 4294967296 = omega arith in
    rw (le-ltb 4294967296 (suc n) q)

pub down_fits : (z : ℤ) → SFits w32 z → le_z (pos 0) z ≡ false → of_z w32 z < 2 ^ 32
down_fits (pos n) f h = let x = f.sfits in omega arith
down_fits (negsuc n) f h = omega arith
