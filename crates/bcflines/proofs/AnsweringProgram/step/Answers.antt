-- The line program's step meets a run's contract.
use Rattle.std.proofs.Common.{sym, ◌∙◌, length}
use Rattle.bcflines.proofs.Says.{stepped_says}
use Rattle.bcflines.proofs.AnsweringProgram.step.Goals as goal

pub returns : goal.returns
returns c =
    let a = c.args in
    stepped_says (length a.self.now.frame) a.waiting a.out.now c.step.new.out a.line.now a.self.now.stage c.in_ok-next.next
    (sym c.step.ensures.told ∙ c.in_ok-next.was) (rw c.in_ok-next.was at c.step.ensures.inside) c.step.ensures.written
