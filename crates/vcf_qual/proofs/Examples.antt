-- The bits of some numbers, of a fraction, of a negative number and of none: what the definitions say is computed. Rests on specs/Qual.
use mathlib.Core.Path.{◌≡◌, refl}
use mathlib.Core.List.{[], ◌∷◌}
use mathlib.Core.Bool.{true, false}
use Rattle.decimal.specs.Decimal.{in_decimal, decimal}
use Rattle.vcf_qual.specs.Qual.{whole_of, printable, qual_text}
use Rattle.std.specs.Prelude.{Some, None}

pub record Worked : Type 0 where
  pub nought : whole_of 0 ≡ Some 0
  pub minus_nought : whole_of 0x80000000 ≡ Some 0
  pub one : whole_of 0x3F800000 ≡ Some 1
  pub most : whole_of 0x4B7FFFFF ≡ Some 16777215
  pub over : whole_of 0x4B800000 ≡ None
  pub half : whole_of 0x3F000000 ≡ None
  pub one_and_half : whole_of 0x3FC00000 ≡ None
  pub least : whole_of 1 ≡ None
  pub minus_one : whole_of 0xBF800000 ≡ None
  pub infinite : whole_of 0x7F800000 ≡ None
  pub missing : printable 0x7F800001 ≡ true
  pub missing_text : qual_text 0x7F800001 ≡ 0x2E ∷ []
  pub none : printable 0x7FC00000 ≡ false
  pub ten_text : qual_text 0x41200000 ≡ 0x31 ∷ 0x30 ∷ []
  pub nought_text : qual_text 0x80000000 ≡ 0x30 ∷ []

pub worked : Worked
unfolding whole_of printable qual_text in_decimal decimal
worked =
    record {
      nought = refl;
      minus_nought = refl;
      one = refl;
      most = refl;
      over = refl;
      half = refl;
      one_and_half = refl;
      least = refl;
      minus_one = refl;
      infinite = refl;
      missing = refl;
      missing_text = refl;
      none = refl;
      ten_text = refl;
      nought_text = refl;
    }
