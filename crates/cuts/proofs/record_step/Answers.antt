-- `cuts::record_step` meets its contract.
use Rattle.std.proofs.Common.{◌∙◌, take, arith}
use Rattle.frames.proofs.Behind.{said_behind, said_lost}
use Rattle.cuts.specs.Cuts.{cut_line}
use Rattle.cuts.proofs.Steps.{cut_behind}
use Rattle.cuts.proofs.record_step.Goals as goal

pub returns-in_err-n : goal.returns-in_err-n
returns-in_err-n c =
    let a = c.args in
    let there = cut_behind a.frame.now a.chosen.now a.out.now a.waiting a.facts (take a.people a.choice.now) a.line.now c.requires.0 c.requires.1 c.requires.2 in
    absurd (said_lost c.cut_line.result _ (c.cut_line.ensures.told ∙ there.0) c.in_err-n.was)

pub returns : goal.returns
returns c =
    let a = c.args in
    let q = c.cut_line.ensures in
    let cs = take a.people a.choice.now in
    let there = cut_behind a.frame.now a.chosen.now a.out.now a.waiting a.facts cs a.line.now c.requires.0 c.requires.1 c.requires.2 in
    let p = said_behind c.cut_line.result a.out.now (cut_line a.facts cs a.line.now) c.cut_line.new.out a.waiting c.in_ok-n.n (omega arith) (q.told ∙ there.0)
    c.in_ok-n.was q.inside (q.written ∙ there.1) in
    record { value = rw p.0; step_inside = p.1; out_after = p.2; frame_after = q.decoded ∙ there.2; chosen_after = q.kept ∙ there.3 }
