-- `vcf_calls::put_calls` meets its contract.
use native.Mathlib.Omega.{arith}
use mathlib.Core.Path.{◌∙◌}
use Prim.Native.Nat.{◌*◌, ◌/◌, ◌<◌}
use lib.ListN.{length}
use Rattle.std.specs.Slice.Iter.{chunks_exact_rest}
use Rattle.types.specs.Rows.{width_of}
use Rattle.pieces.proofs.Put.{none_put, put_some, put_all}
use Rattle.vcf_calls.specs.Engine.{column_of, columns_of}
use Rattle.vcf_calls.proofs.People.{columns_on, no_columns, part_columns, part_none}
use Rattle.vcf_calls.proofs.put_calls.Goals as goal

pub returns-then-size-eq0 : goal.returns-then-size-eq0
returns-then-size-eq0 c =
    let a = c.args in
    let w = c.from-width.ensures ∙ c.row_of.ensures.width_value.0 in
    let p = none_put a.buf.now a.to (omega arith) in
    rw (part_none a.code a.len a.part.now (rw (← w) c.if-size-eq0.true)) (record { next = p.0; written = p.1 })

pub loop-person-preserved : goal.loop-person-preserved
loop-person-preserved c =
    let l = c.loop-person in
    let a = c.args in
    let size = a.len * c.from-width.result in
    let h = c.in-Some.ensures.steps in
    let e = columns_on a.code size _ _ _ (omega arith) h.1.0 (h.1.1 ∙ l.invariant.1) in
    let rest = chunks_exact_rest c.next.new.self in (
      put_some _ _ _ l.buf l.next (column_of a.code c.in-Some.person.now) (columns_of a.code size (length rest / size) rest) (omega arith) (rw e at l.invariant.0)
          (c.put_any-next.ensures.next, c.put_any-next.ensures.written),
      h.0 ∙ l.invariant.1,
    )

pub returns : goal.returns
returns c =
    let l = c.loop-person in
    let a = c.args in
    let w = c.from-width.ensures ∙ c.row_of.ensures.width_value.0 in
    let size = a.len * c.from-width.result in
    let rest = chunks_exact_rest l.person-iterator in
    let h : length rest < size = let h = c.in-None.ensures.steps.1 in omega arith in
    let q : 0 < a.len * width_of a.code = rw (← w) (omega arith) in
    let p = put_all _ _ _ l.buf l.next (rw (no_columns a.code size rest h) at l.invariant.0) in
    rw (part_columns a.code a.len a.part.now q, ← w) (record { next = p.0; written = p.1 })
