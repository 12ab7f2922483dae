-- `vcf_line::put_qual` meets its contract.
use mathlib.Core.List.{◌∷◌, []}
use native.Mathlib.Omega.{arith}
use Rattle.pieces.proofs.Put.{then_put}
use Rattle.vcf_qual.specs.Qual.{qual_text}
use Rattle.vcf_line.proofs.put_qual.Goals as goal

pub returns : goal.returns
returns c =
    let a = c.args in
    record {
      next = (then_put a.buf.now a.to (0x09 ∷ []) (qual_text a.qual) (omega arith) (c.put_byte-next.ensures.next, c.put_byte-next.ensures.written) (c.put_qual.ensures.next, c.put_qual.ensures.written)).0;
      written = (then_put a.buf.now a.to (0x09 ∷ []) (qual_text a.qual) (omega arith) (c.put_byte-next.ensures.next, c.put_byte-next.ensures.written) (c.put_qual.ensures.next, c.put_qual.ensures.written)).1;
    }
