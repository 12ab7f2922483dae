-- `build_front::put_front` meets its contract.
use mathlib.Core.Path.{◌∙◌, sym}
use Rattle.build_front.proofs.Fronts.{front_stored, front_room, front_short}
use Rattle.build_front.proofs.put_front.Goals as goal

pub returns-then-buf-lt-ID : goal.returns-then-buf-lt-ID
returns-then-buf-lt-ID c = sym (front_short _ _ _ _ _ c.if-buf-lt-ID.true)

pub returns : goal.returns
returns c =
    let a = c.args in
    let room = c.if-buf-lt-ID.false in
    c.put_number-4.ensures.written
    ∙ rw (c.put_number-3.ensures.written, c.put_number-2.ensures.written, c.put_number.ensures.written, c.put.ensures.written)
    (front_stored a.buf.now a.chrom a.pos a.rlen a.qual room)
    ∙ sym (front_room a.buf.now a.chrom a.pos a.rlen a.qual room)
