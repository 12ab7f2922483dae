-- `calls::few_of` meets its contract. The loop's invariant: those of each half are counted before the place, and no counter is above it.
use mathlib.Core.Path.{◌≡◌}
use Prim.Native.Nat.{◌≤◌}
use lib.ListN.{take}
use Rattle.calls.specs.Calls.{how_many}
use Rattle.calls.specs.Engine.{halves}
use Rattle.calls.proofs.few_of.Given as goal

abbrev pub invariant-loop-x : goal.invariant-loop-x
invariant-loop-x l =
    (l.few.none ≡ how_many 0 (take l.x-index (halves l.part)))
    × (l.few.first ≡ how_many 1 (take l.x-index (halves l.part)))
    × (l.few.second ≡ how_many 2 (take l.x-index (halves l.part)))
    × (l.few.third ≡ how_many 3 (take l.x-index (halves l.part)))
    × (l.few.ends ≡ how_many 0x81 (take l.x-index l.part))
    × (l.few.none ≤ l.x-index)
    × (l.few.first ≤ l.x-index)
    × (l.few.second ≤ l.x-index)
    × (l.few.third ≤ l.x-index)
    × (l.few.ends ≤ l.x-index)
