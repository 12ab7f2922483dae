-- `runs::answer` meets its contract.
use Rattle.std.proofs.Common.{length}
use Rattle.stores.specs.Stores.{fits}
use Rattle.runs.proofs.Moves.{answered}
use Rattle.runs.proofs.answer.Goals as goal

pub returns : goal.returns
returns g c =
    let a = c.args in
    answered (g.P.Program.says a.program.now) (g.P.Program.says c.step.new.self) a.line.now a.out.now c.step.new.out a.waiting c.in-Some.n c.make_room.result (fits (length c.step.new.out) c.in-Some.n c.ROOM.result)
    (g.W.Write.contents a.output.now) (g.W.Write.contents c.make_room.new.output) (rw c.in-Some.is at c.step.ensures) c.make_room.ensures.inside
    c.make_room.ensures.written
