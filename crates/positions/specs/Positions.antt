-- One-based and zero-based positions. Rests on the language's own reading of 32 bits as a signed number.
use Rattle.std.specs.Prelude.{ℕ, ◌+◌, ◌%◌, ◌^◌, ℤ}
use Rattle.std.specs.Int.{w32}
use Rattle.std.proofs.Common.{to_z, of_z}
use Rattle.positions.specs.declared.BcfPosition.{BcfPosition}

-- the position that 32 bits are, as a signed number, and the bits of a position
unfoldable pub pos_of : ℕ → BcfPosition
pos_of b = record { 0 = to_z w32 b }

unfoldable pub pos_bits : BcfPosition → ℕ
pos_bits p = of_z w32 p.0

-- one more, in 32 bits: of the largest number, which is no position, the smallest, so that each conversion undoes the other
unfoldable pub one_based : ℤ → ℤ
one_based z = to_z w32 ((of_z w32 z + 1) % 2 ^ 32)

-- one less, in 32 bits: 2 ^ 32 - 1 more
unfoldable pub zero_based : ℤ → ℤ
zero_based z = to_z w32 ((of_z w32 z + 4294967295) % 2 ^ 32)
