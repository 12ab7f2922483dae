-- `repeats::sweep` meets its contract. The loop's invariant: the bits say which of the window's offsets stood before, and none of the window's
-- did twice.
use Rattle.std.proofs.Common.{◌≡◌, length}
use Rattle.repeats.specs.Engine.{earlier, Fresh}
use Rattle.repeats.proofs.Notes.{Notes}
use Rattle.repeats.proofs.sweep.Given as goal

abbrev pub invariant-loop-i : goal.invariant-loop-i
invariant-loop-i g l =
    let xs = g.N.Numbers.shown l.numbers in record {
      length : length l.bits ≡ 131072;
      notes : Notes l.window l.bits (earlier l.i xs);
      fresh : Fresh l.window xs l.i;
    }
