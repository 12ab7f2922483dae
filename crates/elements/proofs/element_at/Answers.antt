-- `elements::element_at` meets its contract.
use mathlib.Core.Path.{◌∙◌}
use Prim.Native.Nat.{◌*◌}
use native.Mathlib.Omega.{arith}
use borrow.Author.Tests.{le-leb, lt-leb}
use Rattle.words.proofs.Words.{number_at}
use Rattle.elements.specs.Elements.{element_at}
use Rattle.elements.proofs.Elements.{element_inside}
use Rattle.elements.proofs.element_at.Goals as goal

pub returns-then-over-index : goal.returns-then-over-index
unfolding element_at
returns-then-over-index c =
    simp (← c.row_of-row.ensures.width_value.0, ← c.over.ensures.value, le-leb _ _ c.if-over-index.true)

pub overflow_mul-at : goal.overflow_mul-at
overflow_mul-at c = omega (arith, element_inside c.args.index _ c.row_of-row.result.width _ c.if-over-index.false c.over.ensures.b_bound)

pub overflow_add-stop : goal.overflow_add-stop
overflow_add-stop c = omega (arith, element_inside c.args.index _ c.row_of-row.result.width _ c.if-over-index.false c.over.ensures.b_bound)

pub slice_bounds-word-end : goal.slice_bounds-word-end
slice_bounds-word-end c = omega (arith, element_inside c.args.index _ c.row_of-row.result.width _ c.if-over-index.false c.over.ensures.b_bound)

pub returns : goal.returns
unfolding element_at
returns c =
    let a = c.args in
    let row = c.row_of-row in
    let e = c.word.ensures ∙ number_at a.part.now (a.index * row.result.width) row.result.width row.ensures.width_value.1 in
    simp (← row.ensures.width_value.0, ← c.over.ensures.value, lt-leb _ _ c.if-over-index.false, ← e, ← c.shown_bits.ensures, c.number_shown.ensures)
