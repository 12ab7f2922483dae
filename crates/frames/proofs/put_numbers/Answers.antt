-- `frames::put_numbers` meets its contract.
use Rattle.std.proofs.Common.{◌≡◌, ◌∙◌, ◌∷◌, Some, ◌+◌, ◌≤◌, length, get_or, set, take, length-append, length-set, arith}
use Rattle.std.proofs.lemmas.List.Edits.{sets}
use Rattle.decimal.specs.Decimal.{decimal}
use Rattle.decimal.proofs.Decimal.{twenty}
use Rattle.stores.proofs.Room.{filled_room}
use Rattle.frames.specs.Text.{spaced}
use Rattle.frames.proofs.Texts.{placed_room, spaced_more, number_stored}
use Rattle.frames.proofs.put_numbers.Goals as goal

pub loop-n-preserved : goal.loop-n-preserved
loop-n-preserved c =
    let a = c.args in
    let l = c.loop-n in
    let ns = a.numbers.now in
    let i = l.n-index in
    let digits = decimal (get_or ns i 0) in
    let o = set l.out l.at 0x20 in
    let g : length o ≡ length a.out.now = rw length-set l.auto.out in
    let few : length digits ≤ 20 = twenty (get_or ns i 0) (c.type_inv.numbers i).fits in
    let q : l.at + 1 + length digits ≤ length o = omega arith in
    let told : c.put_decimal.result ≡ Some (l.at + 1 + length digits) = c.put_decimal.ensures.told ∙ placed_room (length o) (l.at + 1) digits q in
    let v : c.unwrap_or-at.result ≡ l.at + 1 + length digits = rw told at c.unwrap_or-at.ensures in
    let w : c.put_decimal.new.buf ≡ sets o (l.at + 1) digits = c.put_decimal.ensures.written ∙ filled_room o (l.at + 1) digits q in
    let more = spaced_more ns i c.loop-n-test.true in
    let long = length-append (spaced (take i ns)) (0x20 ∷ digits) in
    record {
      place = rw (v, more) (omega (arith, long));
      room = omega arith;
      stored = rw (w, more, l.invariant.stored, l.invariant.place) (number_stored a.out.now (spaced (take i ns)) digits a.from);
    }
