-- `frames::record_step` meets its contract.
use Rattle.std.proofs.Common.{◌∙◌, arith}
use Rattle.frames.specs.Frames.{answer_line}
use Rattle.frames.proofs.Steps.{answer_behind}
use Rattle.frames.proofs.Behind.{said_behind, said_lost}
use Rattle.frames.proofs.record_step.Goals as goal

pub returns-in_err-n : goal.returns-in_err-n
returns-in_err-n c =
    let a = c.args in
    let there = answer_behind a.frame.now a.out.now a.line.now a.waiting a.facts c.requires.0 c.requires.1 in
    absurd (said_lost c.answer_line.result _ (c.answer_line.ensures.told ∙ there.0) c.in_err-n.was)

pub returns : goal.returns
returns c =
    let a = c.args in
    let q = c.answer_line.ensures in
    let there = answer_behind a.frame.now a.out.now a.line.now a.waiting a.facts c.requires.0 c.requires.1 in
    let p = said_behind c.answer_line.result a.out.now (answer_line a.facts a.line.now) c.answer_line.new.out a.waiting c.in_ok-n.n (omega arith) (q.told ∙ there.0)
    c.in_ok-n.was q.inside (q.written ∙ there.1) in
    record { value = rw p.0; step_inside = p.1; out_after = p.2; frame_after = q.decoded ∙ there.2 }
