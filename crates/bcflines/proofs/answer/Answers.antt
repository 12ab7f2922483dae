-- `bcflines::answer` meets its contract: a run of the line program.
use Rattle.std.proofs.Common.{arith}
use Rattle.std.proofs.Math.ListN.{replicate}
use Rattle.std.proofs.lemmas.List.{length-replicate}
use Rattle.bcflines.proofs.Says.{ran_printed}
use Rattle.bcflines.proofs.answer.Goals as goal

pub returns-then-written : goal.returns-then-written
returns-then-written g c =
    let a = c.args in
    ran_printed (replicate 60001 0) c.run-written.result (g.R.Read.remaining a.input.now) (g.W.Write.contents a.output.now) (g.W.Write.contents c.run-written.new.output) (rw length-replicate (omega arith)) c.run-written.ensures
