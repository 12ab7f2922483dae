-- `vcf_calls::put_single` meets its contract.
use mathlib.Core.List.{◌∷◌, []}
use native.Mathlib.Omega.{arith}
use Rattle.pieces.proofs.Put.{then_put}
use Rattle.vcf_calls.specs.Engine.{single_text}
use Rattle.vcf_calls.proofs.put_single.Goals as goal

pub returns : goal.returns
unfolding single_text
returns c =
    let a = c.args in
    rw c.figure-a.ensures (record {
      next = ((then_put a.buf.now a.to (0x09 ∷ []) (c.figure-a.result ∷ []) (omega arith) (c.put_byte-next.ensures.next, c.put_byte-next.ensures.written) (c.put_byte.ensures.next, c.put_byte.ensures.written))).0;
      written = ((then_put a.buf.now a.to (0x09 ∷ []) (c.figure-a.result ∷ []) (omega arith) (c.put_byte-next.ensures.next, c.put_byte-next.ensures.written) (c.put_byte.ensures.next, c.put_byte.ensures.written))).1;
    })
