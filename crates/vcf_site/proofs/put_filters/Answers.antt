-- `vcf_site::put_filters` meets its contract.
use mathlib.Core.List.{◌∷◌, []}
use Prim.Native.Nat.{◌-◌}
use native.Mathlib.Omega.{arith}
use lib.ListN.{take, drop}
use Rattle.names.specs.Names.{name_of}
use Rattle.pieces.proofs.Put.{then_put, none_put}
use Rattle.vcf_site.specs.Columns.{names_text, filters_text}
use Rattle.vcf_site.proofs.put_filters.Goals as goal

pub returns-in_default : goal.returns-in_default
unfolding filters_text
returns-in_default c =
    let a = c.args in
    rw (← c.field_of.ensures.value, c.in_default.is) (record {
      next = (none_put a.buf.now a.to (omega arith)).0;
      written = (none_put a.buf.now a.to (omega arith)).1;
    })

pub slice_bounds-put_listed-count : goal.slice_bounds-put_listed-count
slice_bounds-put_listed-count c =
    let i = rw c.in-Ok.is at c.field_of.ensures.found_inside in
    omega (arith, i)

pub slice_bounds-put_listed-start : goal.slice_bounds-put_listed-start
slice_bounds-put_listed-start c =
    let i = rw c.in-Ok.is at c.field_of.ensures.found_inside in
    omega (arith, i)

pub slice_bounds-put_listed-end : goal.slice_bounds-put_listed-end
slice_bounds-put_listed-end c =
    let i = rw c.in-Ok.is at c.field_of.ensures.found_inside in
    omega (arith, i)

pub returns : goal.returns
unfolding filters_text
returns c =
    let a = c.args in
    let part = take (c.in-Ok.field-0.stop - c.in-Ok.field-0.place) (drop c.in-Ok.field-0.place a.s.now) in
    let names = names_text (name_of a.names.text.now a.names.ends.now) c.in-Ok.field-0.code part in
    rw (← c.field_of.ensures.value, c.in-Ok.is) (record {
      next = ((then_put a.buf.now a.to (0x09 ∷ []) names (omega arith) (c.put_byte-next.ensures.next, c.put_byte-next.ensures.written) (c.put_listed.ensures.next, c.put_listed.ensures.written))).0;
      written = ((then_put a.buf.now a.to (0x09 ∷ []) names (omega arith) (c.put_byte-next.ensures.next, c.put_byte-next.ensures.written) (c.put_listed.ensures.next, c.put_listed.ensures.written))).1;
    })
