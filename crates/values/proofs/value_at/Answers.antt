-- `values::value_at` meets its contract. The end of the block is the end of the slice: law `present_at`.
use mathlib.Core.Path.{sym, ◌∙◌}
use Prim.Native.Nat.{◌+◌, ◌*◌, ◌^◌, ◌≤◌}
use lib.ListN.{length}
use native.Mathlib.Omega.{arith}
use borrow.Author.Tests.{leb-true}
use Rattle.values.proofs.Present.{present_at}
use Rattle.values.proofs.Room.{prod}
use Rattle.values.proofs.value_at.Goals as goal

pub overflow_mul-count : goal.overflow_mul-count
overflow_mul-count c =
    let q = prod {a = c.args.vectors} {b = c.in_ok-code.field-0.len} (2 ^ 32) (2 ^ 32) (omega arith) (omega arith) (omega arith) in
    omega arith

pub elements_fit-requires : goal.elements_fit-requires
elements_fit-requires c = tt

pub overflow_mul-result : goal.overflow_mul-result
overflow_mul-result c =
    let a = c.args in
    let w = c.row_of-row.result.width in
    let h : c.in_ok-code.field-0.first + a.vectors * c.in_ok-code.field-0.len * w ≤ length a.block.now = leb-true _ _ (sym c.elements_fit.ensures ∙ c.if-elements_fit.true) in
    omega arith

pub overflow_add-result : goal.overflow_add-result
overflow_add-result c =
    let a = c.args in
    let w = c.row_of-row.result.width in
    let h : c.in_ok-code.field-0.first + a.vectors * c.in_ok-code.field-0.len * w ≤ length a.block.now = leb-true _ _ (sym c.elements_fit.ensures ∙ c.if-elements_fit.true) in
    omega arith

pub returns-then-elements_fit : goal.returns-then-elements_fit
returns-then-elements_fit c =
    let a = c.args in
    let w = c.row_of-row.result.width in
    let h : c.in_ok-code.field-0.first + a.vectors * c.in_ok-code.field-0.len * w ≤ length a.block.now = leb-true _ _ (sym c.elements_fit.ensures ∙ c.if-elements_fit.true) in
    let i = rw c.in_ok-code.was at c.descriptor_at.ensures.descriptor_inside in record {
      value = simp (
        present_at a.vectors a.at a.role a.block.now (omega (arith, i)),
        ← c.descriptor_at.ensures.value,
        c.in_ok-code.was,
        ← c.row_of-row.ensures.width_value.0,
        ← c.elements_fit.ensures,
        c.if-elements_fit.true,
      );
      value_inside = (i.0, omega arith, h);
    }

pub returns : goal.returns
returns c =
    let a = c.args in
    let w = c.row_of-row.result.width in
    let i = rw c.in_ok-code.was at c.descriptor_at.ensures.descriptor_inside in record {
      value = simp (
        present_at a.vectors a.at a.role a.block.now (omega (arith, i)),
        ← c.descriptor_at.ensures.value,
        c.in_ok-code.was,
        ← c.row_of-row.ensures.width_value.0,
        ← c.elements_fit.ensures,
        c.if-elements_fit.false,
      );
      value_inside = tt;
    }
