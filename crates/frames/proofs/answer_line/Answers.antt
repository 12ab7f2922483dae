-- `frames::answer_line` meets its contract. By what the line is: bad, too long for the buffer, or bytes that are read.
use mathlib.Core.Path.{sym, ap}
use native.Mathlib.Omega.{arith}
use lib.Seq.{length-take-le}
use borrow.Author.Tests.{lt-ltb, le-ltb}
use Rattle.hexadecimal.specs.Hexadecimal.{frame_of, answered}
use Rattle.hexadecimal.specs.declared.LineError.TheVariants.{Bad, NoRoom}
use Rattle.frames.specs.Frames.{line_said, line_said_in, decoded}
use Rattle.std.proofs.Common.{◌≡◌, ◌∙◌, Some, Err, length}
use Rattle.frames.proofs.Answers.{frame_bad, frame_short, frame_fits, answer_bytes, answer_bad}
use Rattle.frames.proofs.answer_line.Goals as goal

pub returns-then-out-lt-TEXT_ROOM : goal.returns-then-out-lt-TEXT_ROOM
unfolding line_said line_said_in decoded
returns-then-out-lt-TEXT_ROOM c =
    let h = lt-ltb _ _ c.if-out-lt-TEXT_ROOM.true in
    record { told = rw h; inside = tt; written = rw h; decoded = rw h }

pub slice_bounds-put_record-end : goal.slice_bounds-put_record-end
slice_bounds-put_record-end c =
    let i = rw c.in-Ok.is at c.decode.ensures.inside in
    omega (arith, i, c.decode.auto.buf)

pub slice_bounds-put_record-end-in-Ok : goal.slice_bounds-put_record-end-in-Ok
slice_bounds-put_record-end-in-Ok c =
    let i = rw c.in-Ok.is at c.decode.ensures.inside in
    sym (length-take-le _ _ (omega (arith, i, c.decode.auto.buf)))

pub returns-in-Ok : goal.returns-in-Ok
unfolding line_said line_said_in decoded
returns-in-Ok c =
    let a = c.args in
    let h = le-ltb _ _ c.if-out-lt-TEXT_ROOM.false in
    let n = c.in-Ok.n in
    let k = sym (rw c.in-Ok.is at c.decode.ensures.told) in
    let w = c.decode.ensures.written in
    let e = answer_bytes a.facts a.line.now a.frame.now _ n k w in
    let p = c.put_record.ensures in record {
      told = rw (h, frame_fits _ n (frame_of a.line.now) _ _ k, e) (ap Some p.value);
      inside = omega (arith, p.upper_bound, c.if-out-lt-TEXT_ROOM.false);
      written = rw (h, frame_fits _ n (frame_of a.line.now) _ _ k, e) p.out_after;
      decoded = rw h w;
    }

pub returns-in-Err-Bad : goal.returns-in-Err-Bad
unfolding line_said line_said_in decoded
returns-in-Err-Bad c =
    let a = c.args in
    let h = le-ltb _ _ c.if-out-lt-TEXT_ROOM.false in
    let k : answered (length a.frame.now) (frame_of a.line.now) ≡ Err Bad = sym c.decode.ensures.told ∙ c.in-Err-Bad.is ∙ ap Err c.in-Err-Bad.field-0-is in
    let z = frame_bad _ (frame_of a.line.now) k in
    let e = answer_bad a.facts a.line.now z in
    let p = c.put_bad.ensures in record {
      told = rw (h, e, z) (ap Some p.0);
      inside = omega (arith, p.0, c.if-out-lt-TEXT_ROOM.false);
      written = rw (h, e, z) p.1;
      decoded = rw h c.decode.ensures.written;
    }

pub returns-in-Err-NoRoom : goal.returns-in-Err-NoRoom
unfolding line_said line_said_in decoded
returns-in-Err-NoRoom c =
    let a = c.args in
    let h = le-ltb _ _ c.if-out-lt-TEXT_ROOM.false in
    let k : answered (length a.frame.now) (frame_of a.line.now) ≡ Err NoRoom = sym c.decode.ensures.told ∙ c.in-Err-NoRoom.is ∙ ap Err c.in-Err-NoRoom.field-0-is in record {
      told = rw (h, frame_short _ (frame_of a.line.now) _ _ k);
      inside = tt;
      written = rw (h, frame_short _ (frame_of a.line.now) _ _ k);
      decoded = rw h c.decode.ensures.written;
    }
