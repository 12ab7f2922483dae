-- `runs::finish` meets its contract.
use Rattle.runs.proofs.Moves.{finished_written}
use Rattle.runs.proofs.finish.Goals as goal

pub returns : goal.returns
returns g c = λ e.
    let a = c.args in
    finished_written (g.P.Program.says a.program.now) a.out.now c.finish.new.out a.waiting c.in-Some.n (g.W.Write.contents a.output.now)
    (g.W.Write.contents c.write_waiting.new.output) (rw c.in-Some.is at c.finish.ensures) (rw e at c.write_waiting.ensures.written)
