-- `pump::next_piece` meets its contract: where nothing was read and a line is held, the piece is the line feed that it lacks.
use Rattle.std.proofs.Common.{arith, ◌≡◌, ◌<◌, length, inr}
use Rattle.pump.proofs.Ends.{ended, fed}
use Rattle.pump.proofs.next_piece.Goals as goal

pub returns-clause-taken : goal.returns-clause-taken
returns-clause-taken g c =
    let b = c.in-Ok.ensures.bytes in
    let z : c.in-Ok.n ≡ 0 = omega (arith, c.if-n-gt0.false) in
    let r : 0 < length c.read.new.buf = omega (arith, c.if-piece-eq0.false) in
    let e = ended _ _ (rw z at b.0) (b.1 z r) in
    (omega arith, inr (e.0, e.1, omega (arith, c.if-held-eq0.false), fed _ r))
