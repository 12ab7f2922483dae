use Rattle.std.proofs.Common.{◌≡◌, map, of_z, take}
use Rattle.std.specs.List.{list_all}
use Rattle.std.specs.Int.{w32}
use Rattle.encode.specs.Engine.{taken}
use Rattle.encode.proofs.takes_all.Given as goal

abbrev pub invariant-loop-z : goal.invariant-loop-z
invariant-loop-z g l = l.good ≡ list_all (taken g.row.MOST g.row.LEAST) (take l.z-index (map (of_z w32) l.values))
