-- `vcf_site::put_alts` meets its contract.
use mathlib.Core.Path.{◌∙◌, sym}
use Prim.Native.Nat.{◌-◌, ◌≤◌}
use native.Mathlib.Omega.{arith}
use lib.ListN.{take, drop}
use Rattle.pieces.specs.Pieces.{followed}
use Rattle.pieces.proofs.Put.{then_put}
use Rattle.vcf_site.specs.Columns.{allele_parts}
use Rattle.vcf_site.proofs.Parts.{no_alleles, alleles_refused, alleles_on, none_listed, listed_on}
use Rattle.vcf_site.proofs.put_alts.Goals as goal

pub returns-then-count-eq0 : goal.returns-then-count-eq0
returns-then-count-eq0 c =
    let a = c.args in
    rw (c.if-count-eq0.true, no_alleles a.people a.block.now a.from, none_listed 0x2C) (record {
      next = c.put_byte.ensures.next;
      written = c.put_byte.ensures.written;
    })

pub returns-in_default : goal.returns-in_default
returns-in_default c =
    let a = c.args in
    let e = alleles_refused a.people a.block.now a.from a.count _ (sym c.field_at.ensures.value ∙ c.in_default.is) in
    rw (e, none_listed 0x2C) (record {
      next = c.put_byte-in_default.ensures.next;
      written = c.put_byte-in_default.ensures.written;
    })

pub slice_bounds-put_part-count : goal.slice_bounds-put_part-count
slice_bounds-put_part-count c =
    let i = rw c.in-Ok.is at c.field_at.ensures.found_inside in
    omega (arith, i)

pub slice_bounds-put_part-start : goal.slice_bounds-put_part-start
slice_bounds-put_part-start c =
    let i = rw c.in-Ok.is at c.field_at.ensures.found_inside in
    omega (arith, i)

pub slice_bounds-put_part-end : goal.slice_bounds-put_part-end
slice_bounds-put_part-end c =
    let i = rw c.in-Ok.is at c.field_at.ensures.found_inside in
    omega (arith, i)

pub returns : goal.returns
returns c =
    let a = c.args in
    let place = c.in-Ok.field-0.place in
    let stop = c.in-Ok.field-0.stop in
    let i = rw c.in-Ok.is at c.field_at.ensures.found_inside in
    let k : a.from ≤ stop = omega (arith, i) in
    let e = alleles_on a.people a.block.now a.from a.count _ _ _ place stop (omega arith) k (sym c.field_at.ensures.value ∙ c.in-Ok.is) in
    let part = take (stop - place) (drop place a.block.now) in
    let rest = followed 0x2C (allele_parts a.people a.block.now stop (a.count - 1)) in
    rw (e, listed_on 0x2C) (record {
      next = ((then_put a.buf.now a.to part rest (omega arith) (c.put_part-next.ensures.next, c.put_part-next.ensures.written) (c.put_further.ensures.next, c.put_further.ensures.written))).0;
      written = ((then_put a.buf.now a.to part rest (omega arith) (c.put_part-next.ensures.next, c.put_part-next.ensures.written) (c.put_further.ensures.next, c.put_further.ensures.written))).1;
    })
