-- `repeats::windows` meets its contract. The loop's invariant: the bound is the first repeat among the windows before.
use Rattle.repeats.specs.Engine.{Below}
use Rattle.repeats.proofs.windows.Given as goal

abbrev pub invariant-loop-window : goal.invariant-loop-window
invariant-loop-window g l =
    Below l.window l.bound (g.N.Numbers.shown l.numbers)
