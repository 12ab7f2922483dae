-- `repeats::sweep` meets its contract.
use Rattle.std.proofs.Common.{refl, arith}
use Rattle.repeats.specs.Engine.{earlier}
use Rattle.repeats.proofs.Notes.{notes_none}
use Rattle.repeats.proofs.sweep.Goals as goal

pub loop-i-init : goal.loop-i-init
unfolding earlier
loop-i-init g c =
    record {
      length = refl;
      notes = notes_none c.args.window 131072 refl;
      fresh = λ j h. absurd (omega arith);
    }
