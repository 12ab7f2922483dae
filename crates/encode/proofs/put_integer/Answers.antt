-- `encode::put_integer` meets its contract.
use Rattle.std.proofs.Common.{◌≡◌, ◌∙◌, sym, ◌+◌, ◌<◌, length, arith}
use Rattle.words.specs.Words.{bytes}
use Rattle.words.proofs.Words.{length_bytes}
use Rattle.types.specs.Rows.{width_of}
use Rattle.types.specs.Elements.{narrowest}
use Rattle.stores.proofs.Room.{fits_short, filled_short, room_short, room_there, fits_on, filled_on}
use Rattle.encode.specs.Encode.{integer_bytes}
use Rattle.encode.proofs.Lengths.{length_integer_bytes}
use Rattle.encode.proofs.Widest.{narrowest_range}
use Rattle.encode.proofs.put_integer.Goals as goal

pub returns-then-not-has_room : goal.returns-then-not-has_room
returns-then-not-has_room c =
    let a = c.args in
    let w : c.from.result ≡ width_of (narrowest a.bits) = c.from.ensures ∙ c.row_of-row.ensures.width_value.0 ∙ rw c.narrowest_type-code.ensures in
    let q = room_short _ _ _ (sym c.has_room.ensures ∙ c.if-not-has_room.true) in
    let s : length a.buf.now < a.at + length (integer_bytes a.bits) = omega (arith, q, length_integer_bytes a.bits) in
    record { told = sym (fits_short _ _ _ s); written = sym (filled_short _ _ _ s) }

pub overflow_add-buf : goal.overflow_add-buf
overflow_add-buf c = omega (arith, narrowest_range c.args.bits)

pub bounds-buf-at : goal.bounds-buf-at
bounds-buf-at c =
    omega (arith, room_there _ _ _ (sym c.has_room.ensures ∙ c.if-not-has_room.false))

pub overflow_add-at : goal.overflow_add-at
overflow_add-at c =
    omega (arith, room_there _ _ _ (sym c.has_room.ensures ∙ c.if-not-has_room.false))

pub returns : goal.returns
unfolding integer_bytes
returns c =
    let a = c.args in
    let w : c.row_of-row.result.width ≡ width_of (narrowest a.bits) = c.row_of-row.ensures.width_value.0 ∙ rw c.narrowest_type-code.ensures in
    let n = length_integer_bytes a.bits in
    let q = room_there _ _ _ (sym c.has_room.ensures ∙ c.if-not-has_room.false) in
    let d : 16 + c.narrowest_type-code.result ≡ 16 + narrowest a.bits = rw c.narrowest_type-code.ensures in
    let bs = bytes (width_of (narrowest a.bits)) a.bits in
    let m = length_bytes (width_of (narrowest a.bits)) a.bits in
    let p = c.put_number.ensures in record {
      told = p.told ∙ rw (n, w) (fits_on a.buf.now a.at _ _);
      written = p.written ∙ rw (d, w) (filled_on a.buf.now a.at (16 + narrowest a.bits) bs (omega (arith, q)));
    }
