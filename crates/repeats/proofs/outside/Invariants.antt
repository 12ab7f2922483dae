-- `repeats::outside` meets its contract. The loop's invariant: the numbers that are left decide.
use Rattle.std.proofs.Common.{◌≡◌, ◌+◌, drop}
use Rattle.repeats.specs.Repeats.{first_outside}
use Rattle.repeats.proofs.outside.Given as goal

abbrev pub invariant-loop-i : goal.invariant-loop-i
invariant-loop-i g l =
    let xs = g.N.Numbers.shown l.numbers in
    first_outside l.size xs ≡ l.i + first_outside l.size (drop l.i xs)
