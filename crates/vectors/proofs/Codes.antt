-- GT's largest code: what 01 says of a code is one comparison. Rests on specs/Sound.
use mathlib.Core.Path.{◌≡◌, refl}
use mathlib.Core.Bool.{Bool, true, false}
use Prim.Native.Nat.{ℕ, ◌+◌, ◌*◌, ◌/◌, ◌<◌, ◌≤◌}
use native.Mathlib.Omega.{arith}
use lib.Dec.{ltb}
use borrow.Author.Tests.{ltb-true, ltb-false}
use Rattle.words.specs.Pick.{pick}
use Rattle.vectors.specs.Sound.{highest, code_most}

-- a code up to the most is not negative, and its allele is below the count: v / 2 is at most the count, 0 being missing
pub code_sound : (alleles t v : ℕ) → v ≤ code_most alleles t → (v ≤ highest t) × (v / 2 ≤ alleles)
unfolding code_most
code_sound alleles t v h = by_count (ltb alleles (highest t / 2)) refl h
  where
    by_count : (b : Bool) → ltb alleles (highest t / 2) ≡ b → v ≤ pick b (alleles * 2 + 1) (highest t)
        → (v ≤ highest t) × (v / 2 ≤ alleles)
    by_count true e g = let q : alleles < highest t / 2 = ltb-true _ _ e in (omega arith, omega arith)
    by_count false e g = let q : highest t / 2 ≤ alleles = ltb-false _ _ e in (g, omega arith)

-- and the other way round
pub sound_code : (alleles t v : ℕ) → v ≤ highest t → v / 2 ≤ alleles → v ≤ code_most alleles t
unfolding code_most
sound_code alleles t v h g = by_count (ltb alleles (highest t / 2)) refl
  where
    by_count : (b : Bool) → ltb alleles (highest t / 2) ≡ b → v ≤ pick b (alleles * 2 + 1) (highest t)
    by_count true e = omega arith
    by_count false e = h
