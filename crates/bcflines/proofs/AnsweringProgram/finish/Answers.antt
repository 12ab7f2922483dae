-- The line program's step of an input's end meets a run's contract.
use Rattle.std.proofs.Common.{sym, ◌∙◌}
use Rattle.bcflines.proofs.Says.{finished_says}
use Rattle.bcflines.proofs.AnsweringProgram.finish.Goals as goal

pub returns : goal.returns
returns c =
    let a = c.args in
    finished_says a.waiting a.out.now c.finish.new.out a.self.now.stage c.in_ok-next.next (sym c.finish.ensures.told ∙ c.in_ok-next.was)
    (rw c.in_ok-next.was at c.finish.ensures.inside) c.finish.ensures.written
