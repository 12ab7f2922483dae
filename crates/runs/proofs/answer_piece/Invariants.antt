-- `runs::answer_piece` meets its contract. The loop's invariant: what was still to be written is written, or still to be, from a place of the piece on.
use Rattle.std.proofs.Common.{◌≡◌, ◌-◌, ◌≤◌, ◌++◌, length, take}
use Rattle.lines.proofs.Pieces.{Whole}
use Rattle.runs.specs.Engine.{left, left_in, Moved}
use Rattle.runs.proofs.answer_piece.Given as goal

abbrev pub invariant-loop-line : goal.invariant-loop-line
invariant-loop-line g l = record {
  at : l.at ≤ length l.piece;
  held : l.held ≤ length l.line;
  whole : Whole (take l.held l.line);
  room : length l.line ≡ length l.initial.line;
  moved : Moved (λ more. left (g.P.Program.says l.fn.program) l.fn.line l.fn.out l.fn.kept (l.piece ++ more)) (left_in (g.P.Program.says l.program) l.line l.out l.held l.waiting l.piece l.at) (g.W.Write.contents l.fn.output) (g.W.Write.contents l.output);
}

abbrev pub decreases-loop-line : goal.decreases-loop-line
decreases-loop-line g l = length l.piece - l.at
