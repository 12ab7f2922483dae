-- `vcf_site::put_front` meets its contract.
use mathlib.Core.List.{◌∷◌, ◌++◌, []}
use Prim.Native.Nat.{◌≤◌}
use native.Mathlib.Omega.{arith}
use lib.ListN.{length}
use Rattle.positions.specs.Positions.{pos_bits}
use Rattle.fetch.specs.Fetch.{field_of, part_of}
use Rattle.fetch.specs.declared.Kind.TheVariants.{Id}
use Rattle.pieces.specs.Pieces.{or_dot}
use Rattle.pieces.proofs.Put.{all_to_put, put_some, put_last}
use Rattle.names.specs.Names.{before_zero, name_of}
use Rattle.vcf_site.specs.Columns.{pos_text, front_text}
use Rattle.vcf_site.proofs.put_front.Goals as goal

pub returns : goal.returns
unfolding front_text pos_text
returns c =
    let a = c.args in
    let name = name_of a.names.text.now a.names.ends.now a.site.chrom in
    let pos = pos_text (pos_bits a.site.pos) in
    let id = or_dot (before_zero (part_of a.s.now (field_of Id 0 a.site a.s.now))) in
    let h : length a.buf.now ≤ 18446744073709551615 = omega (arith, c.well_formed) in
    let t = all_to_put a.buf.now a.to (name ++ (0x09 ∷ (pos ++ (0x09 ∷ id)))) (omega (arith, c.ranges)) in
    let u = put_some _ _ _ _ _ name (0x09 ∷ (pos ++ (0x09 ∷ id))) h t (let q = rw c.at.ensures at c.put_part-next.ensures in (q.next, q.written)) in
    let x = put_some _ _ _ _ _ (0x09 ∷ []) (pos ++ (0x09 ∷ id)) h u (c.put_byte-next.ensures.next, c.put_byte-next.ensures.written) in
    let y = put_some _ _ _ _ _ pos (0x09 ∷ id) h x (let q = rw c.vcf_pos.ensures at c.put_number-next.ensures in (q.next, q.written)) in
    let z = put_some _ _ _ _ _ (0x09 ∷ []) id h y (c.put_byte-next-2.ensures.next, c.put_byte-next-2.ensures.written) in
    record {
      next = (put_last _ _ _ _ _ id z (let q = rw c.part_of.ensures.result_value at c.put_text.ensures in (q.next, q.written))).0;
      written = (put_last _ _ _ _ _ id z (let q = rw c.part_of.ensures.result_value at c.put_text.ensures in (q.next, q.written))).1;
    }
