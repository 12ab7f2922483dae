-- GT's part of a slice that does not hold all of it: nothing, or what is there; and its place. Rests on specs/Formats.
use mathlib.Core.Path.{◌≡◌}
use mathlib.Core.List.{List, []}
use Prim.Native.Nat.{ℕ, ◌+◌, ◌-◌, ◌<◌, ◌≤◌}
use native.Mathlib.Omega.{arith}
use lib.ListN.{length, take, drop, length-drop, drop_of_length-le}
use lib.Seq.{take_all, take-nil}
use Rattle.genotypes.specs.Formats.{gt_part_at}
use Rattle.genotypes.specs.declared.Gt.{Gt}

-- a part that starts past the slice is empty
pub part_past : (s : List ℕ) (first n : ℕ) → length s < first → take n (drop first s) ≡ []
part_past s first n h = let q : length s ≤ first = omega arith in rw (drop_of_length-le s q) (take-nil {A = ℕ} n)

-- a part that goes past the slice is all that is there
pub part_rest : (s : List ℕ) (first n : ℕ) → length s < first + n → take (length s - first) (drop first s) ≡ take n (drop first s)
part_rest s first n h =
    rw (take_all (length s - first) (drop first s) (rw length-drop (omega arith)), take_all n (drop first s) (rw length-drop (omega arith)))

-- where GT's part stands: at GT's place, or at the slice's end
pub place_inside : (g : Gt) (s : List ℕ) → g.first ≤ length s → gt_part_at g s ≡ g.first
unfolding gt_part_at
place_inside g s h = omega arith

pub place_past : (g : Gt) (s : List ℕ) → length s < g.first → gt_part_at g s ≡ length s
unfolding gt_part_at
place_past g s h = omega arith
