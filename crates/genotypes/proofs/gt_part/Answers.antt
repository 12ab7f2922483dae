-- `genotypes::gt_part` meets its contract.
use mathlib.Core.Path.{sym, ◌∙◌}
use Prim.Native.Nat.{◌+◌, ◌*◌, ◌^◌, ◌<◌, ◌≤◌}
use native.Mathlib.Omega.{arith}
use native.Mathlib.Nat.{add-sub_cancel_left, sub_self}
use lib.ListN.{length}
use borrow.Author.Tests.{leb-true, leb-false}
use Rattle.types.specs.Rows.{width_of}
use Rattle.values.proofs.Room.{prod}
use Rattle.genotypes.proofs.Parts.{part_past, part_rest, place_inside, place_past}
use Rattle.genotypes.proofs.gt_part.Goals as goal

pub overflow_mul-count : goal.overflow_mul-count
overflow_mul-count c =
    let a = c.args in
    let q = prod {a = a.people} {b = a.gt.len} (2 ^ 32) (2 ^ 32) (omega arith) (omega arith) (omega arith) in
    omega arith

pub overflow_mul-stop : goal.overflow_mul-stop
overflow_mul-stop c =
    let a = c.args in
    let h : a.gt.first + a.people * a.gt.len * c.row_of-row.result.width ≤ length a.s.now = leb-true _ _ (sym c.elements_fit.ensures ∙ c.if-elements_fit.true) in
    omega arith

pub overflow_add-stop : goal.overflow_add-stop
overflow_add-stop c =
    let a = c.args in
    let h : a.gt.first + a.people * a.gt.len * c.row_of-row.result.width ≤ length a.s.now = leb-true _ _ (sym c.elements_fit.ensures ∙ c.if-elements_fit.true) in
    omega arith

pub slice_bounds-result-end : goal.slice_bounds-result-end
slice_bounds-result-end c =
    let a = c.args in
    let h : a.gt.first + a.people * a.gt.len * c.row_of-row.result.width ≤ length a.s.now = leb-true _ _ (sym c.elements_fit.ensures ∙ c.if-elements_fit.true) in
    omega arith

pub returns-then-elements_fit : goal.returns-then-elements_fit
returns-then-elements_fit c =
    let a = c.args in
    let h : a.gt.first + a.people * a.gt.len * c.row_of-row.result.width ≤ length a.s.now = leb-true _ _ (sym c.elements_fit.ensures ∙ c.if-elements_fit.true) in
    record {
      result_value = rw (add-sub_cancel_left, c.row_of-row.ensures.width_value.0);
      ref_ptr_value = rw (place_inside a.gt a.s.now (omega arith));
    }

pub returns-then-end-first : goal.returns-then-end-first
returns-then-end-first c =
    let a = c.args in
    let h = c.if-end-first.true in
    record {
      result_value = rw (sub_self, part_past a.s.now a.gt.first (a.people * a.gt.len * width_of a.gt.code) h);
      ref_ptr_value = rw (place_past a.gt a.s.now h);
    }

pub returns : goal.returns
returns c =
    let a = c.args in
    let w = c.row_of-row.result.width in
    let h : length a.s.now < a.gt.first + a.people * a.gt.len * w = leb-false _ _ (sym c.elements_fit.ensures ∙ c.if-elements_fit.false) in
    record {
      result_value = rw (← c.row_of-row.ensures.width_value.0) (part_rest a.s.now a.gt.first (a.people * a.gt.len * w) h);
      ref_ptr_value = rw (place_inside a.gt a.s.now (omega arith));
    }
