-- `encode::put_elements` meets its contract.
use Rattle.std.proofs.Common.{◌≡◌, ◌∙◌, sym, ◌+◌, ◌<◌, ◌≤◌, length, map, arith}
use Rattle.std.proofs.Math.Nat.{mul-le-mul_left}
use Rattle.stores.proofs.Room.{fits_short, fits_room, filled_short, filled_room, room_short, room_there}
use Rattle.types.specs.Rows.{width_of}
use Rattle.encode.specs.Encode.{elements_bytes}
use Rattle.encode.proofs.Lengths.{length_elements}
use Rattle.encode.proofs.put_elements.Goals as goal

pub overflow_mul-values : goal.overflow_mul-values
overflow_mul-values g c =
    let h : c.from.result ≤ 4 = omega arith in
    omega (arith, mul-le-mul_left (length c.args.values.now) h)

pub returns-then-not-has_room : goal.returns-then-not-has_room
returns-then-not-has_room g c =
    let a = c.args in
    let n = length_elements g.T.Given.shown a.code c.from.result a.values.now (c.from.ensures ∙ c.row_of-row.ensures.width_value.0) in
    let q = room_short _ _ _ (sym c.has_room.ensures ∙ c.if-not-has_room.true) in
    let s : length a.buf.now < a.at + length (elements_bytes a.code (map g.T.Given.shown a.values.now)) = omega (arith, q, n) in
    record { told = sym (fits_short _ _ _ s); written = sym (filled_short _ _ _ s) }

pub put_each-requires : goal.put_each-requires
put_each-requires g c =
    let w : c.from.result ≡ width_of c.args.code = c.from.ensures ∙ c.row_of-row.ensures.width_value.0 in
    rw w at (room_there _ _ _ (sym c.has_room.ensures ∙ c.if-not-has_room.false))

pub returns : goal.returns
returns g c =
    let a = c.args in
    let n = length_elements g.T.Given.shown a.code c.from.result a.values.now (c.from.ensures ∙ c.row_of-row.ensures.width_value.0) in
    let q = room_there _ _ _ (sym c.has_room.ensures ∙ c.if-not-has_room.false) in
    let s : a.at + length (elements_bytes a.code (map g.T.Given.shown a.values.now)) ≤ length a.buf.now = omega (arith, q, n) in
    record { told = sym (fits_room _ _ _ s); written = c.put_each.ensures ∙ sym (filled_room _ _ _ s) }
