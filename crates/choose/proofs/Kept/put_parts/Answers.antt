-- `choose::Kept::put_parts` meets its contract.
use Rattle.std.proofs.Common.{length, ◌∙◌, arith}
use Rattle.choose.proofs.Stretches.{stretch_inside, stretch_room, stretch_stored}
use Rattle.choose.proofs.Kept.put_parts.Goals as goal

pub overflow_mul-first : goal.overflow_mul-first
overflow_mul-first c =
    let a = c.args in
    let kept = a.self.now in
    let s = c.stretch-k.ensures in
    omega (arith, stretch_inside kept.people a.size (length a.parts.now) kept.choice.now c.loop-i.i c.stretch-k.result kept.ascends c.requires.0 s.result_nonzero.0 s.result_nonzero.1 s.result_value)

pub overflow_add-first : goal.overflow_add-first
overflow_add-first c =
    let a = c.args in
    let kept = a.self.now in
    let s = c.stretch-k.ensures in
    omega (arith, stretch_inside kept.people a.size (length a.parts.now) kept.choice.now c.loop-i.i c.stretch-k.result kept.ascends c.requires.0 s.result_nonzero.0 s.result_nonzero.1 s.result_value)

pub slice_bounds-put-end : goal.slice_bounds-put-end
slice_bounds-put-end c =
    let a = c.args in
    let kept = a.self.now in
    let s = c.stretch-k.ensures in
    omega (arith, stretch_inside kept.people a.size (length a.parts.now) kept.choice.now c.loop-i.i c.stretch-k.result kept.ascends c.requires.0 s.result_nonzero.0 s.result_nonzero.1 s.result_value)

pub loop-i-preserved : goal.loop-i-preserved
loop-i-preserved c =
    let a = c.args in
    let kept = a.self.now in
    let l = c.loop-i in
    let s = c.stretch-k.ensures in
    let room = stretch_room a.size l.o l.i c.stretch-k.result (length kept.choice.now) (length l.buf) s.result_nonzero.1 l.invariant.1 in
    let stored = stretch_stored l.buf l.o kept.people a.size kept.choice.now l.i c.stretch-k.result a.parts.now kept.ascends c.requires.0 s.result_nonzero.0 s.result_nonzero.1 s.result_value l.invariant.1 in
    (l.invariant.0 ∙ stored ∙ rw c.put.ensures.written, rw c.put.auto.buf room, s.result_nonzero.1, omega arith)
