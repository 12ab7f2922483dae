-- `fetch::field_of` meets its contract.
use native.Mathlib.Omega.{arith}
use lib.ListN.{length, length-take}
use borrow.Author.Tests.{le-leb, lt-leb}
use Rattle.fetch.proofs.Account.{field_number}
use Rattle.fetch.proofs.Fields.{none_inside}
use Rattle.fetch.proofs.field_of.Goals as goal

pub returns-then-count_of-number : goal.returns-then-count_of-number
returns-then-count_of-number c =
    let a = c.args in
    record {
      value = simp (field_number a.kind a.number a.site a.s.now, ← c.count_of.ensures, le-leb _ _ c.if-count_of-number.true);
      found_inside = tt;
    }

pub returns-then-is_format : goal.returns-then-is_format
returns-then-is_format c =
    let a = c.args in
    let s = a.s.now in
    let t = a.site in
    let e = c.up_to.ensures.result_value in record {
      value = rw (
        field_number a.kind a.number t s,
        ← c.count_of.ensures,
        lt-leb _ _ c.if-count_of-number.false,
        ← c.is_format.ensures,
        c.if-is_format.true,
        ← e,
        c.or.ensures,
        c.field_in.ensures.value,
      );
      found_inside = rw c.or.ensures
          (none_inside c.field_in.result t.border (length c.up_to.result.now) (length s) (rw (e, length-take) (omega arith)) c.field_in.ensures.found_inside);
    }

pub returns : goal.returns
returns c =
    let a = c.args in
    let s = a.s.now in
    let t = a.site in
    let e = c.up_to-2.ensures.result_value in record {
      value = rw (
        field_number a.kind a.number t s,
        ← c.count_of.ensures,
        lt-leb _ _ c.if-count_of-number.false,
        ← c.is_format.ensures,
        c.if-is_format.false,
        ← e,
        c.or-2.ensures,
        c.field_in-2.ensures.value,
      );
      found_inside = rw c.or-2.ensures
          (none_inside c.field_in-2.result 32 (length c.up_to-2.result.now) (length s) (rw (e, length-take) (omega arith)) c.field_in-2.ensures.found_inside);
    }
