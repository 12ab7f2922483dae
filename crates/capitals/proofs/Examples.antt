-- Small texts, worked: what the definitions say is computed. Rests on specs/Capitals.
use mathlib.Core.Path.{◌≡◌, refl}
use mathlib.Core.List.{[], ◌∷◌}
use Rattle.capitals.specs.Capitals.{capital, capitals, high_first}

pub record Worked : Type 0 where
  -- `09AF`
  pub two_bytes : capitals (0x09 ∷ 0xAF ∷ []) ≡ 0x30 ∷ 0x39 ∷ 0x41 ∷ 0x46 ∷ []
  pub no_byte : capitals [] ≡ []
  pub number : high_first 0x0102A0FF ≡ 0x01 ∷ 0x02 ∷ 0xA0 ∷ 0xFF ∷ []

pub worked : Worked
unfolding capital capitals high_first
worked = record { two_bytes = refl; no_byte = refl; number = refl }
