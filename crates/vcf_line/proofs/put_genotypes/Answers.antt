-- `vcf_line::put_genotypes` meets its contract.
use mathlib.Core.List.{◌∷◌, []}
use native.Mathlib.Omega.{arith}
use lib.ListN.{replicate}
use Rattle.genotypes.specs.Formats.{gt_part}
use Rattle.pieces.specs.Pieces.{followed, dot}
use Rattle.pieces.proofs.Put.{all_to_put, put_some, put_last, none_put}
use Rattle.vcf_calls.specs.Words.{part_words}
use Rattle.vcf_line.proofs.Calls.{no_gt_lem, gt_dots, gt_calls}
use Rattle.vcf_line.proofs.put_genotypes.Goals as goal

pub returns-then-first-eq0 : goal.returns-then-first-eq0
returns-then-first-eq0 c =
    let a = c.args in
    rw (no_gt_lem a.people a.gt a.s.now c.if-first-eq0.true) (record {
      next = (none_put a.buf.now a.to (omega arith)).0;
      written = (none_put a.buf.now a.to (omega arith)).1;
    })

pub returns-then-len-eq0 : goal.returns-then-len-eq0
returns-then-len-eq0 c =
    let a = c.args in
    let rest = followed 0x09 (replicate a.people dot) in
    let t = all_to_put a.buf.now a.to (0x09 ∷ 0x47 ∷ 0x54 ∷ rest) (omega arith) in
    let u = put_some _ _ _ _ _ (0x09 ∷ []) (0x47 ∷ 0x54 ∷ rest) (omega arith) t (c.put_byte-next.ensures.next, c.put_byte-next.ensures.written) in
    let v = put_some _ _ _ _ _ (0x47 ∷ []) (0x54 ∷ rest) (omega arith) u (c.put_byte-next-2.ensures.next, c.put_byte-next-2.ensures.written) in
    let w = put_some _ _ _ _ _ (0x54 ∷ []) rest (omega arith) v (c.put_byte-next-3.ensures.next, c.put_byte-next-3.ensures.written) in
    rw (gt_dots a.people a.gt a.s.now c.if-first-eq0.false c.if-len-eq0.true) (record {
      next = ((put_last _ _ _ _ _ rest w (c.put_dots.ensures.next, c.put_dots.ensures.written))).0;
      written = ((put_last _ _ _ _ _ rest w (c.put_dots.ensures.next, c.put_dots.ensures.written))).1;
    })

pub returns : goal.returns
returns c =
    let a = c.args in
    let rest = followed 0x09 (part_words a.gt.code a.gt.len (gt_part a.people a.gt a.s.now)) in
    let t = all_to_put a.buf.now a.to (0x09 ∷ 0x47 ∷ 0x54 ∷ rest) (omega arith) in
    let u = put_some _ _ _ _ _ (0x09 ∷ []) (0x47 ∷ 0x54 ∷ rest) (omega arith) t (c.put_byte-next.ensures.next, c.put_byte-next.ensures.written) in
    let v = put_some _ _ _ _ _ (0x47 ∷ []) (0x54 ∷ rest) (omega arith) u (c.put_byte-next-2.ensures.next, c.put_byte-next-2.ensures.written) in
    let w = put_some _ _ _ _ _ (0x54 ∷ []) rest (omega arith) v (c.put_byte-next-3.ensures.next, c.put_byte-next-3.ensures.written) in
    let p = rw c.gt_part.ensures.result_value at c.put_calls.ensures in
    rw (gt_calls a.people a.gt a.s.now c.if-first-eq0.false c.if-len-eq0.false) (record {
      next = ((put_last _ _ _ _ _ rest w (p.next, p.written))).0;
      written = ((put_last _ _ _ _ _ rest w (p.next, p.written))).1;
    })
