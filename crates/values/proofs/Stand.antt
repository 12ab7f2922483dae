-- Which types may stand at a use: one with a width, whatever its length says; type 0 as a bare 00 alone. Rests on specs/Values.
use mathlib.Core.Path.{◌≡◌, refl}
use mathlib.Core.Bool.{Bool, true, false}
use Prim.Native.Nat.{ℕ, zero, suc, ◌<◌}
use native.Mathlib.Omega.{arith}
use lib.Dec.{eqb}
use borrow.Author.Tests.{eqb-true, ne_eqb}
use Rattle.words.specs.Pick.{pick}
use Rattle.types.specs.Rows.{row_of, width_of, allowed}
use Rattle.types.specs.declared.Use.{Use}
use Rattle.values.specs.Values.{may_stand}

pub may_stand_wide : (role : Use) (t n : ℕ) → allowed (row_of t) role ≡ true → 0 < width_of t → may_stand role t n ≡ true
unfolding may_stand width_of row_of
may_stand_wide role zero n e h = absurd (omega arith)
may_stand_wide role (suc t) n e h = rw (e, ne_eqb (suc t) 0 (omega arith))

pub may_stand_zero : (role : Use) (n : ℕ) → may_stand role 0 n ≡ true → (allowed (row_of 0) role ≡ true) × (n ≡ 0)
unfolding may_stand
may_stand_zero role n h = by_tests (allowed (row_of 0) role) (eqb n 0) refl refl h
  where
    by_tests : (a b : Bool) → allowed (row_of 0) role ≡ a → eqb n 0 ≡ b → pick a b false ≡ true → (allowed (row_of 0) role ≡ true) × (n ≡ 0)
    by_tests true true p q e = (p, eqb-true n 0 q)
    by_tests true false p q e = let z : ◌≡◌ {A = ℕ} 0 1 = cc in absurd (omega arith)
    by_tests false b p q e = let z : ◌≡◌ {A = ℕ} 0 1 = cc in absurd (omega arith)
