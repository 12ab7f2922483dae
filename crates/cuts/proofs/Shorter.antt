-- A chosen record is no longer than the record it is chosen from. Rests on choose's sizes.
use mathlib.Core.Path.{◌≡◌}
use mathlib.Core.List.{List}
use mathlib.Core.Bool.{true}
use Prim.Native.Nat.{ℕ, ◌-◌, ◌≤◌}
use native.Mathlib.Omega.{arith}
use lib.ListN.{length, take, drop, length-drop}
use lib.Seq.{length-take-le}
use Rattle.fixed.specs.declared.Site.{Site}
use Rattle.choice.specs.Choice.{ascending}
use Rattle.choose.specs.Chosen.{kept_formats, chosen_record}
use Rattle.choice.proofs.Choice.{length_ascending}
use Rattle.choice.proofs.Sizes.{size_inside}
use Rattle.choose.proofs.Written.{size_block, length_chosen_record}

pub chosen_shorter : (t : Site) (cs s : List ℕ) → t.border ≤ t.length → t.length ≤ length s → ascending t.people cs ≡ true
    → length (chosen_record t cs s) ≤ t.length
chosen_shorter t cs s b l asc =
    let block = drop t.border (take t.length s) in
    let few = length_ascending 0 t.people cs asc in
    let size = size_block t cs s asc in
    let short = size_inside t.people (length cs) (kept_formats cs t.formats) t.border block (omega (arith, few)) in
    let long : length block ≡ t.length - t.border = rw (length-drop, length-take-le t.length s l) in
    let whole = length_chosen_record t cs s (omega arith) in
    omega (arith, size, short, long, whole)
