-- `choose::Kept::put_fields` meets its contract.
use Rattle.std.proofs.Common.{◌≡◌, ◌+◌, ◌-◌, ◌∙◌, length, take, drop, length-drop, sym, arith}
use lib.Seq.{take_all}
use Rattle.choice.proofs.Sizes.{size_turn}
use Rattle.choose.proofs.Written.{field_stored}
use Rattle.choose.proofs.Kept.put_fields.Goals as goal

pub loop-preserved : goal.loop-preserved
loop-preserved c =
    let a = c.args in
    let kept = a.self.now in
    let l = c.loop in
    let n = a.count - l.counter in
    let i = rw c.in-Ok.is at c.field_at.ensures.found_inside in
    let h = sym c.field_at.ensures.value ∙ c.in-Ok.is in
    let left : n - 1 ≡ a.count - (l.counter + 1) = omega arith in
    let size = size_turn kept.people (length kept.choice.now) n l.at a.block.now (omega arith) h (omega (arith, i)) in
    let stored = field_stored l.buf l.o kept.people kept.choice.now n l.at a.block.now kept.ascends (omega arith) h (omega (arith, i)) (omega (arith, i)) (omega (arith, i)) in
    let rest = drop c.in-Ok.field-0.place a.block.now in
    let all : take (length a.block.now - c.in-Ok.field-0.place) rest ≡ rest = take_all (length a.block.now - c.in-Ok.field-0.place) rest (rw length-drop (omega arith)) in
    (l.invariant.0 ∙ stored ∙ rw (c.put_field.ensures, c.part_size-size.ensures.0, all, left), rw (c.put_field.auto.buf, c.part_size-size.ensures.0, ← left) (omega (arith, l.invariant.1, size)))
