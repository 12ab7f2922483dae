-- `runs::run` meets its contract. The loop's invariant: what is said of the input is written, or still to be, whatever of it was read.
use Rattle.std.proofs.Common.{◌≡◌, ◌≤◌, length, take}
use Rattle.lines.proofs.Pieces.{Whole}
use Rattle.runs.specs.Runs.{said_of}
use Rattle.runs.specs.Engine.{left, Gone}
use Rattle.runs.proofs.run.Given as goal

abbrev pub invariant-loop : goal.invariant-loop
invariant-loop g l = record {
  held : l.kept.held ≤ length l.line;
  whole : Whole (take l.kept.held l.line);
  piece : length l.piece ≡ length l.fn.piece;
  room : length l.line ≡ length l.fn.line;
  gone : Gone (said_of (g.P.Program.says l.fn.program) (length l.fn.line)) (left (g.P.Program.says l.program) l.line l.out l.kept) (g.R.Read.remaining l.fn.input) (g.R.Read.remaining l.input) (g.W.Write.contents l.fn.output) (g.W.Write.contents l.output);
}
