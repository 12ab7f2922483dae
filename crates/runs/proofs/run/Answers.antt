-- `runs::run` meets its contract.
use Rattle.std.proofs.Common.{◌<◌, length, refl, arith, rules, ◌∙◌}
use Rattle.lines.proofs.Pieces.{whole_none}
use Rattle.runs.specs.Runs.{said_of}
use Rattle.runs.specs.Engine.{left}
use Rattle.runs.proofs.Moves.{gone_none, gone_piece, ran_end, ran_ended}
use Rattle.runs.proofs.run.Goals as goal

pub loop-init : goal.loop-init
loop-init g c =
    let a = c.args in
    record {
      held = omega arith;
      whole = whole_none;
      piece = refl;
      room = refl;
      gone = gone_none (g.P.Program.says a.program.now) a.line.now a.out.now (g.R.Read.remaining a.input.now) (g.W.Write.contents a.output.now);
    }

pub returns-then-is_ended : goal.returns-then-is_ended
returns-then-is_ended g c =
    let a = c.args in
    let l = c.loop in
    ran_ended (said_of (g.P.Program.says a.program.now) (length a.line.now)) (g.P.Program.says l.program) l.line l.out l.kept c.finish.result
    (g.R.Read.remaining a.input.now) (g.R.Read.remaining l.input) (g.W.Write.contents a.output.now) (g.W.Write.contents l.output)
    (g.W.Write.contents c.finish.new.output) l.invariant.gone (rw c.if-is_ended.true at c.is_ended.ensures) c.finish.ensures

pub returns-in-End : goal.returns-in-End
returns-in-End g c =
    let a = c.args in
    let l = c.loop in
    let first : 0 < length a.piece.now = search rules in
    let z : 0 < length c.next_piece.new.piece = omega (arith, first, c.next_piece.auto.piece, l.invariant.piece) in
    ran_end (said_of (g.P.Program.says a.program.now) (length a.line.now)) (g.P.Program.says l.program) l.line l.out c.next_piece.new.piece l.kept c.finish-in-End.result
    (g.R.Read.remaining a.input.now) (g.R.Read.remaining l.input) (g.R.Read.remaining c.next_piece.new.input) (g.W.Write.contents a.output.now) (g.W.Write.contents l.output)
    (g.W.Write.contents c.finish-in-End.new.output) z l.invariant.gone (rw c.in-End.is at c.next_piece.ensures.taken) c.finish-in-End.ensures

pub loop-preserved : goal.loop-preserved
loop-preserved g c =
    let a = c.args in
    let l = c.loop in
    let p = rw c.in-Some.is at c.answer_piece.ensures in
    record {
      held = p.held.0;
      whole = p.held.1;
      piece = c.next_piece.auto.piece ∙ l.invariant.piece;
      room = c.answer_piece.auto.line ∙ l.invariant.room;
      gone = gone_piece (said_of (g.P.Program.says a.program.now) (length a.line.now))
          (left (g.P.Program.says c.answer_piece.new.program) c.answer_piece.new.line c.answer_piece.new.out c.in-Some.then) (g.P.Program.says l.program) l.line l.out
          c.next_piece.new.piece l.kept c.in-Bytes.n (g.R.Read.remaining a.input.now) (g.R.Read.remaining l.input) (g.R.Read.remaining c.next_piece.new.input)
          (g.W.Write.contents a.output.now) (g.W.Write.contents l.output) (g.W.Write.contents c.answer_piece.new.output) l.invariant.held l.invariant.whole l.invariant.gone
          (rw c.in-Bytes.is at c.next_piece.ensures.taken) p.moved;
    }
