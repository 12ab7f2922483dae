-- Each conversion of positions undoes the other, to VCF and back as to bits and back, and is exactly one more or one less on every position there is.
-- Rests on specs/Positions.
use Rattle.std.proofs.Common.{◌≡◌, ℕ, ◌+◌, ◌%◌, ◌^◌, ◌<◌, ℤ, pos, negsuc, refl, arith, to_z-of_z, w32, Fits, SFits, of_z, ap, to_z, ◌∙◌}
use mir.Facts.{of_z-to_z, Fits-of_z, sfits_to_z, to_z_pos}
use Rattle.positions.specs.Positions.{pos_of, pos_bits, one_based, zero_based}
use Rattle.positions.specs.declared.BcfPosition.{BcfPosition}

-- a position through its bits: k more, in 32 bits
pub steps : (k : ℕ) {z r : ℤ} {b s : ℕ} → SFits w32 z → b ≡ of_z w32 (to_z w32 (of_z w32 z)) → s ≡ (b + k) % 2 ^ 32 → r ≡ to_z w32 s
    → to_z w32 (of_z w32 r) ≡ to_z w32 ((of_z w32 z + k) % 2 ^ 32)
steps k {z} {r} {b} {s} f e q u =
    let h : s < 2 ^ 32 = omega arith in
    let v : b ≡ of_z w32 z = e ∙ ap (of_z w32) (to_z-of_z {w = w32} {z = z} f) in
    rw (u, to_z-of_z {w = w32} {z = to_z w32 s} (sfits_to_z {w = w32} {n = s} (record { fits = h })), q, v)

-- there and back
pub pos_bits_pos_of : (b : ℕ) → b < 2 ^ 32 → pos_bits (pos_of b) ≡ b
unfolding pos_bits pos_of
pos_bits_pos_of b h = of_z-to_z {w = w32} (record { fits = h })

-- a position has 32 bits, and 32 bits are a position
pub pos_bits_bound : (p : BcfPosition) → SFits w32 p.0 → pos_bits p < 2 ^ 32
unfolding pos_bits
pos_bits_bound p f = (Fits-of_z {w = w32} {z = p.0} f).fits

pub pos_of_fits : (b : ℕ) → b < 2 ^ 32 → SFits w32 (pos_of b).0
unfolding pos_of
pos_of_fits b h = sfits_to_z {w = w32} {n = b} (record { fits = h })

pub pos_of_pos_bits : (p : BcfPosition) → SFits w32 p.0 → pos_of (pos_bits p) ≡ p
unfolding pos_bits pos_of
pos_of_pos_bits p f = rw (to_z-of_z {w = w32} {z = p.0} f)

pub zero_one : (z : ℤ) → SFits w32 z → zero_based (one_based z) ≡ z
unfolding one_based zero_based
zero_one z f =
    let b : of_z w32 z < 4294967296 = (Fits-of_z {w = w32} {z = z} f).fits in
    let e : ((of_z w32 z + 1) % 2 ^ 32 + 4294967295) % 2 ^ 32 ≡ of_z w32 z = omega arith in
    let g : Fits w32 ((of_z w32 z + 1) % 2 ^ 32) = record { fits = omega arith } in
    rw (of_z-to_z {w = w32} g, e) (to_z-of_z {w = w32} {z = z} f)

pub one_zero : (z : ℤ) → SFits w32 z → one_based (zero_based z) ≡ z
unfolding one_based zero_based
one_zero z f =
    let b : of_z w32 z < 4294967296 = (Fits-of_z {w = w32} {z = z} f).fits in
    let e : ((of_z w32 z + 4294967295) % 2 ^ 32 + 1) % 2 ^ 32 ≡ of_z w32 z = omega arith in
    let g : Fits w32 ((of_z w32 z + 4294967295) % 2 ^ 32) = record { fits = omega arith } in
    rw (of_z-to_z {w = w32} g, e) (to_z-of_z {w = w32} {z = z} f)

-- POS −1 to 2147483646: one more
pub one_more : (n : ℕ) → n < 2147483647 → one_based (pos n) ≡ pos (n + 1)
unfolding one_based
one_more n h =
    let e : (n + 1) % 2 ^ 32 ≡ n + 1 = omega arith in
    rw e (to_z_pos w32 (omega arith))

pub one_first : one_based (negsuc 0) ≡ pos 0
unfolding one_based
one_first = refl
