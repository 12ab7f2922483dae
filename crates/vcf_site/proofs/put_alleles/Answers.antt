-- `vcf_site::put_alleles` meets its contract.
use mathlib.Core.List.{◌∷◌, ◌++◌, []}
use Prim.Native.Nat.{◌-◌, ◌≤◌}
use native.Mathlib.Omega.{arith}
use lib.ListN.{length, take, drop}
use Rattle.pieces.specs.Pieces.{listed}
use Rattle.pieces.proofs.Put.{all_to_put, put_some, put_last, none_put}
use Rattle.vcf_site.specs.Columns.{allele_parts, alleles_text}
use Rattle.vcf_site.proofs.put_alleles.Goals as goal

pub returns-in_default : goal.returns-in_default
unfolding alleles_text
returns-in_default c =
    let a = c.args in
    rw (← c.field_of.ensures.value, c.in_default.is) (record {
      next = (none_put a.buf.now a.to (omega arith)).0;
      written = (none_put a.buf.now a.to (omega arith)).1;
    })

pub slice_bounds-put_part-count : goal.slice_bounds-put_part-count
slice_bounds-put_part-count c =
    let i = rw c.in-Ok.is at c.field_of.ensures.found_inside in
    omega (arith, i)

pub slice_bounds-put_part-start : goal.slice_bounds-put_part-start
slice_bounds-put_part-start c =
    let i = rw c.in-Ok.is at c.field_of.ensures.found_inside in
    omega (arith, i)

pub slice_bounds-put_part-end : goal.slice_bounds-put_part-end
slice_bounds-put_part-end c =
    let i = rw c.in-Ok.is at c.field_of.ensures.found_inside in
    omega (arith, i)

pub returns : goal.returns
unfolding alleles_text
returns c =
    let a = c.args in
    let place = c.in-Ok.field-0.place in
    let stop = c.in-Ok.field-0.stop in
    let ref = take (stop - place) (drop place a.s.now) in
    let alt = listed 0x2C (allele_parts a.site.people (take a.site.border a.s.now) stop (a.site.alleles - 1)) in
    let h : length a.buf.now ≤ 18446744073709551615 = omega (arith, c.well_formed) in
    let t = all_to_put a.buf.now a.to (0x09 ∷ (ref ++ (0x09 ∷ alt))) (omega (arith, c.ranges)) in
    let u = put_some _ _ _ _ _ (0x09 ∷ []) (ref ++ (0x09 ∷ alt)) h t (c.put_byte-next.ensures.next, c.put_byte-next.ensures.written) in
    let x = put_some _ _ _ _ _ ref (0x09 ∷ alt) h u (c.put_part-next.ensures.next, c.put_part-next.ensures.written) in
    let y = put_some _ _ _ _ _ (0x09 ∷ []) alt h x (c.put_byte-next-2.ensures.next, c.put_byte-next-2.ensures.written) in
    let p = rw (c.up_to.ensures.result_value, c.saturating_sub.ensures, c.from.ensures) at c.put_alts.ensures in
    rw (← c.field_of.ensures.value, c.in-Ok.is) (record {
      next = ((put_last _ _ _ _ _ alt y (p.next, p.written))).0;
      written = ((put_last _ _ _ _ _ alt y (p.next, p.written))).1;
    })
