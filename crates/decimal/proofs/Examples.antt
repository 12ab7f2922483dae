-- Small and large numbers as text, and texts put: what the definitions say is computed. Rests on specs/Decimal.
use mathlib.Core.Path.{◌≡◌, refl}
use mathlib.Core.List.{[], ◌∷◌}
use lib.ListN.{length}
use Rattle.std.specs.Prelude.{Some, None}
use Rattle.decimal.specs.Decimal.{in_decimal, decimal, value, placed}
use Rattle.stores.specs.Stores.{filled}

pub record Worked : Type 0 where
  pub none : decimal 0 ≡ 0x30 ∷ []
  pub ten : decimal 10 ≡ 0x31 ∷ 0x30 ∷ []
  pub more : decimal 60309 ≡ 0x36 ∷ 0x30 ∷ 0x33 ∷ 0x30 ∷ 0x39 ∷ []
  pub most : length (decimal 18446744073709551615) ≡ 20
  pub read : value (0x34 ∷ 0x30 ∷ 0x37 ∷ []) ≡ 407
  pub fits : placed 4 2 (decimal 17) ≡ Some 4
  pub past : placed 4 3 (decimal 17) ≡ None
  pub put : filled (7 ∷ 7 ∷ 7 ∷ 7 ∷ []) 1 (decimal 17) ≡ 7 ∷ 0x31 ∷ 0x37 ∷ 7 ∷ []
  pub kept : filled (7 ∷ 7 ∷ []) 1 (decimal 17) ≡ 7 ∷ 7 ∷ []

pub worked : Worked
unfolding in_decimal decimal value placed filled
worked =
    record {
      none = refl;
      ten = refl;
      more = refl;
      most = refl;
      read = refl;
      fits = refl;
      past = refl;
      put = refl;
      kept = refl;
    }
