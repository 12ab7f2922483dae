-- A field and a step stay in their block, and one turn of the walk over fields. Rests on specs/Fetch and on site's steps.
use mathlib.Core.Path.{◌≡◌}
use mathlib.Core.List.{List}
use Prim.Native.Nat.{ℕ, ◌-◌, ◌<◌, ◌≤◌, max}
use native.Mathlib.Omega.{arith}
use lib.ListN.{drop}
use Rattle.values.specs.Answers.{ValueInside, Answer}
use Rattle.site.specs.Steps.{StepInside, then}
use Rattle.site.proofs.Turns.{times_turn}
use Rattle.fetch.specs.Fields.{value_field, FoundInside}
use Rattle.fetch.specs.Engine.{field_step, passing, past, or_none}
use Rattle.fetch.specs.declared.Found.{Found}
use Rattle.std.specs.Prelude.{Err, Ok}
use Rattle.values.specs.declared.Value.{Value}
use Rattle.fetch.specs.declared.Kind.{Kind}

-- a value's field stands where the value does, and after whatever comes before it
pub value_found : (key : ℕ) (v : Answer Value) (at next end : ℕ) → at ≤ next → ValueInside next end v → FoundInside at end (value_field key v)
value_found key (Err r) at next end h i = tt
value_found key (Ok v) at next end h i = (omega arith, i.1, i.2)

-- the same for an earlier place and a later end
pub found_on : (f : Answer Found) (at from end stop : ℕ) → from ≤ at → end ≤ stop → FoundInside at end f → FoundInside from stop f
found_on (Err r) at from end stop h e i = tt
found_on (Ok x) at from end stop h e i = (omega arith, i.1, omega arith)

-- a field that stands whole, of a place on and before an end, if it is one
pub none_inside : (f : Answer Found) (at end stop : ℕ) → end ≤ stop → FoundInside at end f → FoundInside 0 stop (or_none f)
none_inside (Err r) at end stop e i = tt
none_inside (Ok x) at end stop e i = (omega arith, i.1, omega arith)

pub found_step : (f : Answer Found) (at end : ℕ) → FoundInside at end f → StepInside at end (field_step f)
found_step (Err r) at end i = tt
found_step (Ok x) at end i = (omega arith, omega arith)

-- a step from where a step came to
pub step_on : (p : Answer ℕ) (from at end : ℕ) → from ≤ at → at ≤ max from end → StepInside at end p → StepInside from end p
step_on (Err r) from at end h e i = tt
step_on (Ok q) from at end h e i = (omega arith, omega arith)

-- past a field, where some are left to pass
pub past_turn : (kind : Kind) (people : ℕ) (s : List ℕ) (n at : ℕ) → 0 < n
    → past kind people n at (drop at s) ≡ then at (drop at s) (passing kind people at (drop at s)) (past kind people (n - 1))
unfolding past
past_turn kind people s n at h = times_turn (passing kind people) s n at h
