-- `choose::stretch` meets its contract. The loop's invariant: there are that many people from the place on.
use Rattle.std.proofs.Common.{◌+◌, ◌≤◌, length}
use Rattle.choose.proofs.stretch.Given as goal

abbrev pub invariant-loop-k : goal.invariant-loop-k
invariant-loop-k l = l.i + l.k ≤ length l.choice

abbrev pub decreases-loop-k : goal.decreases-loop-k
decreases-loop-k l = l.k
