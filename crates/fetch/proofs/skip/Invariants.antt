-- `fetch::skip` meets its contract. The loop's invariant: the fields from the start on are those that are left, from a place in the block.
use mathlib.Core.Path.{◌≡◌}
use Prim.Native.Nat.{◌-◌, ◌≤◌, max}
use lib.ListN.{drop, length}
use Rattle.fetch.specs.Engine.{past}
use Rattle.fetch.proofs.skip.Given as goal

abbrev pub invariant-loop : goal.invariant-loop
invariant-loop l =
    (past l.kind l.people l.count l.from (drop l.from l.block) ≡ past l.kind l.people (l.count - l.counter) l.at (drop l.at l.block)) × (l.from ≤ l.at) × (l.at ≤ max l.from (length l.block))
