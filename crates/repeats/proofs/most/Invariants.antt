-- `repeats::most` meets its contract. The loop's invariant: none of those before is larger.
use Rattle.std.proofs.Common.{ℕ, ◌<◌, ◌≤◌, get_or}
use Rattle.repeats.proofs.most.Given as goal

abbrev pub invariant-loop-i : goal.invariant-loop-i
invariant-loop-i g l =
    (j : ℕ) → j < l.i → get_or (g.N.Numbers.shown l.numbers) j 0 ≤ l.most
