-- `vcf_line::put_end` meets its contract.
use mathlib.Core.List.{◌∷◌, ◌++◌, []}
use native.Mathlib.Omega.{arith}
use Rattle.pieces.proofs.Put.{all_to_put, put_some, put_last}
use Rattle.vcf_line.specs.Engine.{genotypes_text, end_text}
use Rattle.vcf_line.proofs.put_end.Goals as goal

pub returns : goal.returns
unfolding end_text
returns c =
    let a = c.args in
    let calls = genotypes_text a.people a.gt a.s.now in
    let rest = calls ++ (0x0A ∷ []) in
    let t = all_to_put a.buf.now a.to (0x09 ∷ 0x2E ∷ rest) (omega arith) in
    let u = put_some _ _ _ _ _ (0x09 ∷ []) (0x2E ∷ rest) (omega arith) t (c.put_byte-next.ensures.next, c.put_byte-next.ensures.written) in
    let v = put_some _ _ _ _ _ (0x2E ∷ []) rest (omega arith) u (c.put_byte-next-2.ensures.next, c.put_byte-next-2.ensures.written) in
    let w = put_some _ _ _ _ _ calls (0x0A ∷ []) (omega arith) v (c.put_genotypes-next.ensures.next, c.put_genotypes-next.ensures.written) in
    record {
      next = (put_last _ _ _ _ _ (0x0A ∷ []) w (c.put_byte.ensures.next, c.put_byte.ensures.written)).0;
      written = (put_last _ _ _ _ _ (0x0A ∷ []) w (c.put_byte.ensures.next, c.put_byte.ensures.written)).1;
    }
