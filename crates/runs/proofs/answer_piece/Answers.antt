-- `runs::answer_piece` meets its contract.
use Rattle.std.proofs.Common.{◌≡◌, ◌∙◌, sym, ◌++◌, arith}
use Rattle.lines.specs.Lines.{taken, taken_into}
use Rattle.lines.specs.declared.Taken.TheVariants.{Line, Part}
use Rattle.lines.proofs.Pieces.{whole_none, length_into}
use Rattle.runs.specs.Engine.{left, left_in}
use Rattle.runs.proofs.Lines.{next_line, piece_held}
use Rattle.runs.proofs.Moves.{moved_on, line_moved, piece_moved}
use Rattle.runs.proofs.answer_piece.Goals as goal

pub loop-line-smaller : goal.loop-line-smaller
loop-line-smaller g c =
    let l = c.loop-line in
    let piece = c.args.piece.now in
    let t : taken l.line l.held piece l.at ≡ Line c.in-Line.len c.in-Line.next = sym c.take.ensures.told ∙ c.in-Line.is in
    omega (arith, next_line l.line l.held piece l.at c.in-Line.len c.in-Line.next piece l.invariant.held l.invariant.whole t)

pub loop-line-preserved : goal.loop-line-preserved
loop-line-preserved g c =
    let a = c.args in
    let l = c.loop-line in
    let piece = a.piece.now in
    let n = c.in-Line.next in
    let t : taken l.line l.held piece l.at ≡ Line c.in-Line.len n = sym c.take.ensures.told ∙ c.in-Line.is in
    let w = c.take.ensures.written in
    let k = c.in_ok-waiting-in-Line.waiting in
    let there = next_line l.line l.held piece l.at c.in-Line.len n piece l.invariant.held l.invariant.whole t in
    let said = rw w at (rw c.in_ok-waiting-in-Line.was at c.answer.ensures) in
    let m = line_moved (g.P.Program.says l.program) (g.P.Program.says c.answer.new.program) l.line l.out c.answer.new.out l.held l.waiting k piece l.at c.in-Line.len n
    (g.W.Write.contents l.output) (g.W.Write.contents c.answer.new.output) l.invariant.held l.invariant.whole t said in
    record {
      at = omega (arith, there);
      held = omega arith;
      whole = whole_none;
      room = rw w (length_into l.line l.held piece l.at ∙ l.invariant.room);
      moved = rw w (moved_on (λ more. left (g.P.Program.says a.program.now) a.line.now a.out.now a.kept (piece ++ more))
          (left_in (g.P.Program.says l.program) l.line l.out l.held l.waiting piece l.at)
          (left_in (g.P.Program.says c.answer.new.program) (taken_into l.line l.held piece l.at) c.answer.new.out 0 k piece n) (g.W.Write.contents a.output.now)
          (g.W.Write.contents l.output) (g.W.Write.contents c.answer.new.output) l.invariant.moved m);
    }

pub returns-in-Part-clause-held : goal.returns-in-Part-clause-held
returns-in-Part-clause-held g c =
    let l = c.loop-line in
    let piece = c.args.piece.now in
    let t : taken l.line l.held piece l.at ≡ Part c.in-Part.held = sym c.take.ensures.told ∙ c.in-Part.is in
    let z = c.requires.0 in
    let h = piece_held l.line l.held piece l.at c.in-Part.held piece (omega (arith, l.invariant.room, z)) l.invariant.held l.invariant.whole t in
    rw c.take.ensures.written (rw (length_into l.line l.held piece l.at) h.2, h.1)

pub returns-in-Part-clause-moved : goal.returns-in-Part-clause-moved
returns-in-Part-clause-moved g c =
    let a = c.args in
    let l = c.loop-line in
    let piece = a.piece.now in
    let t : taken l.line l.held piece l.at ≡ Part c.in-Part.held = sym c.take.ensures.told ∙ c.in-Part.is in
    let m = piece_moved (g.P.Program.says l.program) l.line l.out l.held l.waiting piece l.at c.in-Part.held (g.W.Write.contents l.output)
    (omega (arith, l.invariant.room, c.requires.0)) l.invariant.held l.invariant.whole t in
    rw c.take.ensures.written (moved_on (λ more. left (g.P.Program.says a.program.now) a.line.now a.out.now a.kept (piece ++ more))
    (left_in (g.P.Program.says l.program) l.line l.out l.held l.waiting piece l.at)
    (left (g.P.Program.says l.program) (taken_into l.line l.held piece l.at) l.out (record { held = c.in-Part.held; waiting = l.waiting })) (g.W.Write.contents a.output.now)
    (g.W.Write.contents l.output) (g.W.Write.contents l.output) l.invariant.moved m)

pub returns-clause-held : goal.returns-clause-held
returns-clause-held g c = (omega arith, whole_none)
