-- `vcf_line::put_line` meets its contract.
use mathlib.Core.List.{List, ◌∷◌, ◌++◌}
use Prim.Native.Nat.{ℕ, ◌≤◌}
use native.Mathlib.Omega.{arith}
use lib.ListN.{length}
use Rattle.pieces.proofs.Put.{all_to_put, put_some, put_last}
use Rattle.names.specs.Names.{name_of}
use Rattle.vcf_qual.specs.Qual.{qual_text}
use Rattle.vcf_site.specs.Columns.{front_text, alleles_text, filters_text}
use Rattle.vcf_line.specs.Engine.{end_text, line_text}
use Rattle.vcf_line.proofs.put_line.Goals as goal

pub returns : goal.returns
unfolding line_text
returns c =
    let a = c.args in
    let s = a.s.now in
    let front = front_text (name_of a.contigs.text.now a.contigs.ends.now) a.site s in
    let alleles = alleles_text a.site s in
    let qual : List ℕ = 0x09 ∷ qual_text a.site.qual in
    let filters = filters_text (name_of a.strings.text.now a.strings.ends.now) a.site s in
    let end = end_text a.site.people a.gt s in
    let h : length a.buf.now ≤ 18446744073709551615 = omega (arith, c.well_formed) in
    let t = all_to_put a.buf.now 0 (front ++ (alleles ++ (qual ++ (filters ++ end)))) (omega arith) in
    let u = put_some _ _ _ _ _ front (alleles ++ (qual ++ (filters ++ end))) h t (c.put_front-next.ensures.next, c.put_front-next.ensures.written) in
    let x = put_some _ _ _ _ _ alleles (qual ++ (filters ++ end)) h u (c.put_alleles-next.ensures.next, c.put_alleles-next.ensures.written) in
    let y = put_some _ _ _ _ _ qual (filters ++ end) h x (c.put_qual-next.ensures.next, c.put_qual-next.ensures.written) in
    let z = put_some _ _ _ _ _ filters end h y (c.put_filters-next.ensures.next, c.put_filters-next.ensures.written) in
    record {
      next = (put_last _ _ _ _ _ end z (c.put_end.ensures.next, c.put_end.ensures.written)).0;
      written = (put_last _ _ _ _ _ end z (c.put_end.ensures.next, c.put_end.ensures.written)).1;
    }
