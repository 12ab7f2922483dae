-- `vcf_calls::put_four` meets its contract.
use mathlib.Core.List.{◌∷◌, []}
use native.Mathlib.Omega.{arith}
use Rattle.pieces.proofs.Put.{all_to_put, put_some, put_last}
use Rattle.vcf_calls.proofs.put_four.Goals as goal

pub returns : goal.returns
returns c =
    let x = c.args in
    let t = all_to_put x.buf.now x.to (0x09 ∷ x.a ∷ x.mark ∷ x.b ∷ []) (omega arith) in
    let u = put_some _ _ _ _ _ (0x09 ∷ []) (x.a ∷ x.mark ∷ x.b ∷ []) (omega arith) t (c.put_byte-next.ensures.next, c.put_byte-next.ensures.written) in
    let v = put_some _ _ _ _ _ (x.a ∷ []) (x.mark ∷ x.b ∷ []) (omega arith) u (c.put_byte-next-2.ensures.next, c.put_byte-next-2.ensures.written) in
    let w = put_some _ _ _ _ _ (x.mark ∷ []) (x.b ∷ []) (omega arith) v (c.put_byte-next-3.ensures.next, c.put_byte-next-3.ensures.written) in
    record {
      next = (put_last _ _ _ _ _ (x.b ∷ []) w (c.put_byte.ensures.next, c.put_byte.ensures.written)).0;
      written = (put_last _ _ _ _ _ (x.b ∷ []) w (c.put_byte.ensures.next, c.put_byte.ensures.written)).1;
    }
