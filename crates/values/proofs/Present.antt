-- A value's elements by place: the end of the block is the end of the slice. Rests on specs/Values.
use mathlib.Core.Path.{◌≡◌}
use mathlib.Core.List.{List}
use Prim.Native.Nat.{ℕ, ◌+◌, ◌-◌, ◌≤◌}
use native.Mathlib.Omega.{arith}
use lib.ListN.{length, drop, length-drop}
use Rattle.types.specs.declared.Use.{Use}
use Rattle.values.specs.Values.{present, with_elements, described}

pub present_at : (vectors at : ℕ) (role : Use) (s : List ℕ) → at ≤ length s
    → present vectors role at (drop at s) ≡ with_elements vectors (length s) (described role at (drop at s))
unfolding present
present_at vectors at role s h = let e : at + (length s - at) ≡ length s = omega arith in rw (length-drop at s, e)
