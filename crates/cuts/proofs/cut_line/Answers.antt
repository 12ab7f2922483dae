-- `cuts::cut_line` meets its contract. By what the line is: bad, or bytes of a record, which always have room.
use mathlib.Core.Path.{◌≡◌, ◌∙◌, ap, sym}
use mathlib.Core.List.{List}
use mathlib.Core.Option.{some}
use Prim.Native.Nat.{ℕ, ◌≤◌}
use native.Mathlib.Omega.{arith}
use lib.ListN.{length, take}
use lib.Seq.{length-take-le}
use Rattle.hexadecimal.specs.Hexadecimal.{frame_of, answered}
use Rattle.hexadecimal.specs.declared.LineError.TheVariants.{Bad, NoRoom}
use Rattle.std.specs.Prelude.{Err}
use Rattle.hexadecimal.proofs.Frames.{told}
use Rattle.frames.proofs.Answers.{frame_bad}
use Rattle.cuts.specs.Cuts.{cut, cut_out, cut_from, cut_kept}
use Rattle.cuts.proofs.Cuts.{cut_bytes, cut_bad, said_as, said_in_as}
use Rattle.hexadecimal.proofs.Rooms.{frame_most, frame_room_lem}
use Rattle.cuts.proofs.Rooms.{rooms}
use Rattle.cuts.proofs.cut_line.Goals as goal

pub slice_bounds-say_record-end : goal.slice_bounds-say_record-end
slice_bounds-say_record-end c =
    let i = rw c.in-Ok.is at c.decode.ensures.inside in
    let q : c.in-Ok.n ≤ length c.decode.new.buf = omega (arith, i, c.decode.auto.buf) in
    q

pub slice_bounds-say_record-end-in-Ok : goal.slice_bounds-say_record-end-in-Ok
slice_bounds-say_record-end-in-Ok c =
    let i = rw c.in-Ok.is at c.decode.ensures.inside in
    let q : c.in-Ok.n ≤ length c.decode.new.buf = omega (arith, i, c.decode.auto.buf) in
    sym (length-take-le _ _ q)

pub say_record-requires : goal.say_record-requires
say_record-requires c =
    let a = c.args in
    let room = sym c.is_roomy.ensures ∙ c.if-not-is_roomy.false in
    let rs = rooms a.frame.now a.chosen.now a.out.now room in
    let n = c.in-Ok.n in
    let k = sym (rw c.in-Ok.is at c.decode.ensures.told) in
    let w = c.decode.ensures.written in
    let bs = take n c.decode.new.buf in
    let known : frame_of a.line.now ≡ some bs = told a.frame.now (frame_of a.line.now) n k ∙ ap (λ (b : List ℕ). some (take n b)) (sym w) in
    (frame_most a.line.now bs known, rs.1, rs.2)

pub returns-in-Ok : goal.returns-in-Ok
unfolding cut cut_out cut_from cut_kept
returns-in-Ok c =
    let a = c.args in
    let room = sym c.is_roomy.ensures ∙ c.if-not-is_roomy.false in
    let rs = rooms a.frame.now a.chosen.now a.out.now room in
    let n = c.in-Ok.n in
    let k = sym (rw c.in-Ok.is at c.decode.ensures.told) in
    let w = c.decode.ensures.written in
    let bs = take n c.decode.new.buf in
    let known : frame_of a.line.now ≡ some bs = told a.frame.now (frame_of a.line.now) n k ∙ ap (λ (b : List ℕ). some (take n b)) (sym w) in
    let e = cut_bytes a.facts a.choice.now a.line.now bs known in
    let p = c.say_record.ensures in record {
      told = rw (room, e) p.value;
      inside = p.text_inside;
      written = rw (room, e) p.out_after;
      decoded = rw room w;
      kept = rw (room, known) p.chosen_after;
    }

pub returns-in-Err-Bad : goal.returns-in-Err-Bad
unfolding cut cut_out cut_from cut_kept
returns-in-Err-Bad c =
    let a = c.args in
    let room = sym c.is_roomy.ensures ∙ c.if-not-is_roomy.false in
    let rs = rooms a.frame.now a.chosen.now a.out.now room in
    let k : answered (length a.frame.now) (frame_of a.line.now) ≡ Err Bad = sym c.decode.ensures.told ∙ c.in-Err-Bad.is ∙ ap Err c.in-Err-Bad.field-0-is in
    let none = frame_bad _ (frame_of a.line.now) k in
    let e = cut_bad a.facts a.choice.now a.line.now none in
    let p = c.say_bad.ensures in record {
      told = rw room (p.told ∙ said_as a.out.now _ _ rs.2 e);
      inside = p.inside;
      written = rw room (p.written ∙ said_in_as a.out.now _ _ rs.2 e);
      decoded = rw room c.decode.ensures.written;
      kept = rw (room, none);
    }

pub returns-in-Err-NoRoom : goal.returns-in-Err-NoRoom
returns-in-Err-NoRoom c =
    let a = c.args in
    let room = sym c.is_roomy.ensures ∙ c.if-not-is_roomy.false in
    let rs = rooms a.frame.now a.chosen.now a.out.now room in
    let k : answered (length a.frame.now) (frame_of a.line.now) ≡ Err NoRoom = sym c.decode.ensures.told ∙ c.in-Err-NoRoom.is ∙ ap Err c.in-Err-NoRoom.field-0-is in
    absurd (frame_room_lem _ a.line.now rs.0 k)

pub returns-then-not-is_roomy : goal.returns-then-not-is_roomy
unfolding cut cut_out cut_from cut_kept
returns-then-not-is_roomy c =
    let room = sym c.is_roomy.ensures ∙ c.if-not-is_roomy.true in
    record { told = rw room; inside = tt; written = rw room; decoded = rw room; kept = rw room }
