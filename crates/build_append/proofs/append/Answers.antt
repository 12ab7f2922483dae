-- `build_append::append` meets its contract.
use Rattle.std.proofs.Common.{◌≡◌, ◌∙◌, ap, sym, map, ◌+◌, ◌*◌, ◌<◌, ◌≤◌, length, arith}
use Rattle.std.proofs.Math.Nat.{mul-le-mul_left}
use Rattle.std.proofs.lemmas.List.{length-map}
use Rattle.types.specs.Rows.{width_of}
use Rattle.encode.specs.Encode.{value_bytes}
use Rattle.encode.proofs.Lengths.{length_value_bytes}
use Rattle.shown.specs.Values.{written_as}
use Rattle.build_append.specs.Append.{first_of, field_bytes}
use Rattle.build_append.proofs.Numbers.{append_room}
use Rattle.build_append.proofs.Writing.{kind_wide, field_size, field_stored, written_by, written_kept}
use Rattle.build_append.proofs.append.Goals as goal

pub overflow_cast-len : goal.overflow_cast-len
overflow_cast-len g c =
    let vs = c.args.values.now in
    let u = c.first_of-number.ensures ∙ ap (first_of c.args.rules) c.room_number.ensures in
    let room = append_room _ _ _ _ _ u c.if-number-eq0.true in
    let t : c.from.result ≡ width_of (written_as g.T.Element.kind (map g.T.Element.shown vs)) = c.from.ensures ∙ c.row_of-row.ensures.width_value.0 ∙ ap width_of c.code-code.ensures in
    let w : 1 ≤ c.from.result = rw t (kind_wide g.T.Element.kind (map g.T.Element.shown vs)) in
    let q = mul-le-mul_left (length vs) w in
    let l : c.vector_length-len.result < 4294967296 = c.vector_length-len.ensures.upper_bound (omega (arith, room.0, q)) in
    omega (arith, l)

pub put_value-requires-clause-room : goal.put_value-requires-clause-room
put_value-requires-clause-room g c =
    let xs = map g.T.Element.shown c.args.values.now in
    let u = c.first_of-number.ensures ∙ ap (first_of c.args.rules) c.room_number.ensures in
    let room = append_room _ _ _ _ _ u c.if-number-eq0.true in
    let t : width_of c.code-code.result ≡ c.from.result = sym (c.from.ensures ∙ c.row_of-row.ensures.width_value.0) in
    let m : length (value_bytes c.code-code.result c.vector_length-len.result xs) ≡ c.descriptor_size.result + length c.args.values.now * c.from.result = length_value_bytes c.code-code.result c.vector_length-len.result xs ∙ rw (length-map, t, ← c.descriptor_size.ensures.value) in
    omega (arith, room.1, m, c.put_head.auto)

pub returns-then-number-eq0 : goal.returns-then-number-eq0
returns-then-number-eq0 g c =
    let a = c.args in
    let k = g.T.Element.kind in
    let bs = field_bytes a.field k (map g.T.Element.shown a.values.now) in
    let u = c.first_of-number.ensures ∙ ap (first_of a.rules) c.room_number.ensures in
    let e = c.vector_length-len.ensures.value in
    let h = c.head_size-first.ensures.value in
    let s = field_size g.T.Element.shown a.field k _ _ _ _ _ a.values.now e c.code-code.ensures (c.from.ensures ∙ c.row_of-row.ensures.width_value.0) h c.descriptor_size.ensures.value in
    record {
      told = written_by _ _ _ _ _ bs s u;
      written = c.put_value.ensures
          ∙ rw c.put_head.ensures (field_stored g.T.Element.shown a.buf.now a.at a.rules a.field k _ _ _ _ _ a.values.now e c.code-code.ensures h s u c.if-number-eq0.true);
    }

pub returns-else-number-eq0 : goal.returns-else-number-eq0
returns-else-number-eq0 g c =
    let a = c.args in
    let k = g.T.Element.kind in
    let bs = field_bytes a.field k (map g.T.Element.shown a.values.now) in
    let u = c.first_of-number.ensures ∙ ap (first_of a.rules) c.room_number.ensures in
    let s = field_size g.T.Element.shown a.field k _ _ _ _ _ a.values.now c.vector_length-len.ensures.value c.code-code.ensures (c.from.ensures ∙ c.row_of-row.ensures.width_value.0) c.head_size-first.ensures.value c.descriptor_size.ensures.value in
    record { told = written_by _ _ _ _ _ bs s u; written = written_kept _ _ _ _ _ bs s u c.if-number-eq0.false }
