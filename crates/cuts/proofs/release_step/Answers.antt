-- `cuts::release_step` meets its contract.
use Rattle.std.proofs.Common.{◌∙◌, arith}
use Rattle.frames.proofs.Behind.{said_behind, said_lost}
use Rattle.cuts.specs.Release.{release_line}
use Rattle.cuts.proofs.Steps.{release_behind}
use Rattle.cuts.proofs.release_step.Goals as goal

pub returns-in_err-n : goal.returns-in_err-n
returns-in_err-n c =
    let a = c.args in
    let there = release_behind a.out.now a.waiting a.facts a.people c.requires.1 in
    absurd (said_lost c.release_line.result _ (c.release_line.ensures.told ∙ there.0) c.in_err-n.was)

pub returns : goal.returns
returns c =
    let a = c.args in
    let q = c.release_line.ensures in
    let there = release_behind a.out.now a.waiting a.facts a.people c.requires.1 in
    let p = said_behind c.release_line.result a.out.now (release_line a.facts a.people) c.release_line.new.out a.waiting c.in_ok-n.n (omega arith) (q.told ∙ there.0)
    c.in_ok-n.was q.inside (q.written ∙ there.1) in
    record { value = rw p.0; step_inside = p.1; out_after = p.2 }
