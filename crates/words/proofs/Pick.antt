-- Laws of the choice by a test. Rests on specs/Pick.
use mathlib.Core.Path.{◌≡◌, refl}
use mathlib.Core.Bool.{Bool, true, false}
use Prim.Native.Nat.{ℕ, ◌<◌}
use native.Mathlib.Omega.{arith}
use Rattle.words.specs.Pick.{pick}

-- a choice between two that are the same
pub pick_same {ℓ} : {A : Type ℓ} (b : Bool) (x : A) → pick b x x ≡ x
pick_same true x = refl
pick_same false x = refl

-- a choice of true and false is the test itself
pub pick_test : (b : Bool) → pick b true false ≡ b
pick_test true = refl
pick_test false = refl

-- where a test gives a number above 0, and 0 is given, the test failed and what follows gives 0
pub pick_zero : (b : Bool) (p x : ℕ) → 0 < p → pick b p x ≡ 0 → (b ≡ false) × (x ≡ 0)
pick_zero true p x some h = absurd (omega arith)
pick_zero false p x some h = (refl, h)
