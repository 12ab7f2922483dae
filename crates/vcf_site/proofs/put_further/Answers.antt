-- `vcf_site::put_further` meets its contract.
use mathlib.Core.Path.{◌≡◌, ◌∙◌, sym}
use mathlib.Core.List.{◌∷◌, ◌++◌, []}
use Prim.Native.Nat.{◌+◌, ◌-◌, ◌≤◌}
use native.Mathlib.Omega.{arith}
use native.Mathlib.Nat.{sub-zero}
use lib.ListN.{take, drop}
use Rattle.pieces.specs.Pieces.{followed}
use Rattle.pieces.proofs.Put.{all_to_put, put_some, put_all}
use Rattle.vcf_site.specs.Columns.{allele_parts}
use Rattle.vcf_site.proofs.Parts.{no_alleles, alleles_refused, alleles_on, none_followed, followed_on}
use Rattle.vcf_site.proofs.put_further.Goals as goal

pub loop-init : goal.loop-init
loop-init c = rw sub-zero (all_to_put _ _ _ (omega arith))

pub returns-in_default : goal.returns-in_default
returns-in_default c =
    let l = c.loop in
    let a = c.args in
    let n = a.count - l.counter in
    let e = alleles_refused a.people a.block.now l.at n _ (sym c.field_at.ensures.value ∙ c.in_default.is) in
    record {
      next = (put_all _ _ _ l.buf l.next (rw (e, none_followed) at l.invariant)).0;
      written = (put_all _ _ _ l.buf l.next (rw (e, none_followed) at l.invariant)).1;
    }

pub slice_bounds-put_part-count : goal.slice_bounds-put_part-count
slice_bounds-put_part-count c =
    let i = rw c.in-Ok.is at c.field_at.ensures.found_inside in
    omega (arith, i)

pub slice_bounds-put_part-start : goal.slice_bounds-put_part-start
slice_bounds-put_part-start c =
    let i = rw c.in-Ok.is at c.field_at.ensures.found_inside in
    omega (arith, i)

pub slice_bounds-put_part-end : goal.slice_bounds-put_part-end
slice_bounds-put_part-end c =
    let i = rw c.in-Ok.is at c.field_at.ensures.found_inside in
    omega (arith, i)

pub loop-preserved : goal.loop-preserved
loop-preserved c =
    let l = c.loop in
    let a = c.args in
    let place = c.in-Ok.field-0.place in
    let stop = c.in-Ok.field-0.stop in
    let i = rw c.in-Ok.is at c.field_at.ensures.found_inside in
    let k : l.at ≤ stop = omega (arith, i) in
    let n = a.count - l.counter in
    let m : n - 1 ≡ a.count - (l.counter + 1) = omega arith in
    let e = alleles_on a.people a.block.now l.at n _ _ _ place stop (omega arith) k (sym c.field_at.ensures.value ∙ c.in-Ok.is) in
    let part = take (stop - place) (drop place a.block.now) in
    let rest = followed 0x2C (allele_parts a.people a.block.now stop (a.count - (l.counter + 1))) in
    let t = rw (e, followed_on, m) at l.invariant in
    let u = put_some _ _ _ l.buf l.next (0x2C ∷ []) (part ++ rest) (omega arith) t (c.put_byte-next.ensures.next, c.put_byte-next.ensures.written) in
    put_some _ _ _ _ _ part rest (omega arith) u (c.put_part-next.ensures.next, c.put_part-next.ensures.written)

pub returns : goal.returns
returns c =
    let l = c.loop in
    let z : c.args.count - l.counter ≡ 0 = omega arith in
    record {
      next = (put_all _ _ _ l.buf l.next (rw (z, no_alleles, none_followed) at l.invariant)).0;
      written = (put_all _ _ _ l.buf l.next (rw (z, no_alleles, none_followed) at l.invariant)).1;
    }
