-- `repeats::is_repeat` meets its contract. The loop's invariant: those that are left decide.
use Rattle.std.proofs.Common.{◌≡◌}
use Rattle.words.specs.Lists.{among}
use Rattle.repeats.specs.Engine.{earlier, stood}
use Rattle.repeats.proofs.is_repeat.Given as goal

abbrev pub invariant-loop-j : goal.invariant-loop-j
invariant-loop-j g l =
    let xs = g.N.Numbers.shown l.numbers in
    stood xs l.i ≡ among l.x (earlier l.j xs)
