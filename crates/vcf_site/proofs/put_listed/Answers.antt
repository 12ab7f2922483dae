-- `vcf_site::put_listed` meets its contract.
use mathlib.Core.Path.{◌≡◌, ◌∙◌, sym}
use mathlib.Core.List.{map}
use mathlib.Core.Logic.{◌≢◌}
use Prim.Native.Nat.{ℕ, ◌-◌, ◌/◌, ◌<◌, ◌≤◌}
use native.Mathlib.Omega.{arith}
use lib.ListN.{length, length-drop, take, drop}
use lib.Seq.{take_all}
use Rattle.vectors.specs.Vectors.{elements_of}
use Rattle.pieces.specs.Pieces.{followed}
use Rattle.pieces.proofs.Put.{then_put}
use Rattle.names.specs.Names.{name_of}
use Rattle.vcf_site.specs.Columns.{names_text}
use Rattle.vcf_site.proofs.Parts.{names_none, names_first, none_listed, listed_on, some_first}
use Rattle.vcf_site.proofs.put_listed.Goals as goal

pub returns-then-over-eq0 : goal.returns-then-over-eq0
unfolding names_text
returns-then-over-eq0 c =
    let a = c.args in
    let w = c.from-width.ensures ∙ c.row_of.ensures.width_value.0 in
    let n = sym c.over.ensures.value ∙ c.if-over-eq0.true in
    rw (names_none (name_of a.names.text.now a.names.ends.now) a.code c.from-width.result a.part.now w n, none_listed 0x3B) (record {
      next = c.put_byte.ensures.next;
      written = c.put_byte.ensures.written;
    })

-- where there is an element, it has a width, and stands whole
some_place : (m w n : ℕ) → n ≡ m / w → n ≢ 0 → (0 < w) × (w ≤ m)
some_place m w n e h = some_first m w (rw e at h)

pub slice_bounds-put_names-start : goal.slice_bounds-put_names-start
slice_bounds-put_names-start c =
    let p = some_place (length c.args.part.now) c.from-width.result _ c.over.ensures.value c.if-over-eq0.false in
    omega arith

pub put_names-requires : goal.put_names-requires
put_names-requires c =
    let p = some_place (length c.args.part.now) c.from-width.result _ c.over.ensures.value c.if-over-eq0.false in
    (c.from-width.ensures ∙ c.row_of.ensures.width_value.0, p.0)

pub returns : goal.returns
unfolding names_text
returns c =
    let a = c.args in
    let s = a.part.now in
    let width = c.from-width.result in
    let string = name_of a.names.text.now a.names.ends.now in
    let w = c.from-width.ensures ∙ c.row_of.ensures.width_value.0 in
    let p = some_place (length s) width _ c.over.ensures.value c.if-over-eq0.false in
    let d : take (length s - width) (drop width s) ≡ drop width s = take_all _ _ (rw length-drop (omega arith)) in
    let rest = followed 0x3B (map string (elements_of a.code (length (drop width s)) (drop width s))) in
    let first = rw c.at.ensures at c.put_part-next.ensures in
    let others = rw d at c.put_names.ensures in
    let x = rw (← w) at c.bits_at-x.ensures in
    let e = names_first string a.code width s w p.0 p.1 in
    let t = then_put a.buf.now a.to (string c.bits_at-x.result) rest (omega arith) (first.next, first.written) (others.next, others.written) in
    rw (e, listed_on 0x3B, ← x) (record { next = t.0; written = t.1 })
