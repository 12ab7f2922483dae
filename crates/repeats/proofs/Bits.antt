-- One bit of a number, set where it was not: it is then set, no other bit changes, and the number has no more bits. Rests on the kit's numbers.
use mathlib.Core.Path.{◌≡◌, refl, sym, ◌∙◌, ap}
use mathlib.Core.Logic.{◌≢◌}
use Prim.Native.Nat.{ℕ, zero, suc, ◌+◌, ◌*◌, ◌/◌, ◌%◌, ◌^◌, ◌<◌}
use native.Mathlib.Omega.{arith}
use native.Mathlib.Nat.{pow-succ', div-div-eq-div-mul, add-div_right, div-one, one-mul}
use lib.Pow.{pow_pos, shl_exact}

-- a bit further up is a bit of the half
half : (v b : ℕ) → v / 2 ^ suc b ≡ v / 2 / 2 ^ b
half v b = rw (pow-succ' 2 b) (sym (div-div-eq-div-mul v 2 (2 ^ b)))

-- one bit of 32, as the code makes it
pub one_bit : (b : ℕ) → b < 32 → 1 * 2 ^ b % 2 ^ 32 ≡ 2 ^ b
one_bit b h = shl_exact {a = 1} 1 b 32 (omega arith) (omega arith) ∙ one-mul (2 ^ b)

pub set_same : (v b : ℕ) → v / 2 ^ b % 2 ≡ 0 → (v + 2 ^ b) / 2 ^ b % 2 ≡ 1
set_same v b h = rw (add-div_right v (pow_pos b)) (omega arith)

pub set_other : (v b c : ℕ) → b ≢ c → v / 2 ^ b % 2 ≡ 0 → (v + 2 ^ b) / 2 ^ c % 2 ≡ v / 2 ^ c % 2
set_other v zero zero n h = absurd (n refl)
set_other v zero (suc c) n h =
    let e : (v + 1) / 2 ≡ v / 2 = omega (arith, rw (div-one v) at h) in
    rw (half (v + 1) c, half v c, e)
set_other v (suc b) zero n h =
    rw (pow-succ' 2 b, div-one (v + 2 * 2 ^ b), div-one v) (omega arith)
set_other v (suc b) (suc c) n h =
    let e : (v + 2 * 2 ^ b) / 2 ≡ v / 2 + 2 ^ b = omega arith in
    rw (pow-succ' 2 b, half (v + 2 * 2 ^ b) c, half v c, e) (set_other (v / 2) b c (λ s. n (ap suc s)) (rw (half v b) at h))

pub set_below : (n b v : ℕ) → b < n → v < 2 ^ n → v / 2 ^ b % 2 ≡ 0 → v + 2 ^ b < 2 ^ n
set_below zero b v l k h = absurd (omega arith)
set_below (suc n) zero v l k h =
    let e = pow-succ' 2 n in
    let d = rw (div-one v) at h in
    omega (arith, e, d)
set_below (suc n) (suc b) v l k h =
    let e = pow-succ' 2 n in
    let i : v / 2 < 2 ^ n = omega (arith, e) in
    let g = set_below n b (v / 2) (omega arith) i (rw (half v b) at h) in
    omega (arith, e, g, pow-succ' 2 b)
