-- `calls::sum_pairs` meets its contract. The loop's invariant: the counters before the place are the sums.
use mathlib.Core.Path.{◌≡◌}
use Prim.Native.Nat.{ℕ, ◌<◌}
use lib.ListN.{get_or, length}
use Rattle.calls.specs.Engine.{folded}
use Rattle.calls.proofs.sum_pairs.Given as goal

abbrev pub invariant-loop-i : goal.invariant-loop-i
invariant-loop-i l = (length l.counts ≡ 65) × ((j : ℕ) → j < l.i → get_or l.counts j 0 ≡ get_or (folded l.pairs) j 0)
