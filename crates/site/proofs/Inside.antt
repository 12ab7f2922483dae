-- A step stays in its block: for a value, and for elements that were judged. Rests on specs/Steps.
use Prim.Native.Nat.{ℕ, ◌≤◌}
use native.Mathlib.Omega.{arith}
use Rattle.values.specs.Answers.{ValueInside, Answer}
use Rattle.vectors.specs.Vectors.{Sound}
use Rattle.std.specs.Prelude.{Err, Ok}
use Rattle.values.specs.declared.Value.{Value}
use Rattle.site.specs.Steps.{StepInside, value_step, judged_step}

pub value_inside : (v : Answer Value) (at next end : ℕ) → at ≤ next → ValueInside next end v → StepInside at end (value_step v)
value_inside (Err r) at next end h i = tt
value_inside (Ok v) at next end h i = (omega arith, omega arith)

pub judged_inside : (j : Answer (Unit {0})) (at first stop end : ℕ) → at ≤ stop → stop ≤ end → StepInside at end (judged_step first stop j)
judged_inside Sound at first stop end h i = (h, omega arith)
judged_inside (Err r) at first stop end h i = tt
