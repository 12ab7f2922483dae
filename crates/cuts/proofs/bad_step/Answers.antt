-- `cuts::bad_step` meets its contract.
use Rattle.std.proofs.Common.{◌∙◌, arith}
use Rattle.frames.specs.Text.{bad_line}
use Rattle.frames.proofs.Behind.{said_behind, said_lost}
use Rattle.cuts.proofs.Steps.{bad_behind}
use Rattle.cuts.proofs.bad_step.Goals as goal

pub returns-in_err-n : goal.returns-in_err-n
returns-in_err-n c =
    let there = bad_behind c.args.out.now c.args.waiting c.requires in
    absurd (said_lost c.say_bad.result _ (c.say_bad.ensures.told ∙ there.0) c.in_err-n.was)

pub returns : goal.returns
returns c =
    let a = c.args in
    let q = c.say_bad.ensures in
    let there = bad_behind a.out.now a.waiting c.requires in
    let p = said_behind c.say_bad.result a.out.now bad_line c.say_bad.new.out a.waiting c.in_ok-n.n (omega arith) (q.told ∙ there.0) c.in_ok-n.was q.inside
    (q.written ∙ there.1) in
    record { value = rw p.0; step_inside = p.1; out_after = p.2 }
