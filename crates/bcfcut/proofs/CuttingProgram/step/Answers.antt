-- The cutting program's step meets a run's contract.
use Rattle.std.proofs.Common.{sym, ◌∙◌, length}
use Rattle.cuts.specs.Steps.{step_room}
use Rattle.bcfcut.proofs.Says.{stepped_says}
use Rattle.bcfcut.proofs.CuttingProgram.step.Goals as goal

pub returns : goal.returns
returns c =
    let a = c.args in
    let p = a.self.now in
    stepped_says (step_room (length p.choice) (length p.frame) (length p.chosen) (length a.out.now) a.waiting p.stage) a.waiting a.out.now c.step.new.out p.choice
    c.step.new.choice a.line.now p.stage c.in_ok-next.next (sym c.step.ensures.told ∙ c.in_ok-next.was) (rw c.in_ok-next.was at c.step.ensures.inside)
    c.step.ensures.written c.step.ensures.people
