-- `vcf_calls::put_column` meets its contract.
use native.Mathlib.Omega.{arith}
use mathlib.Core.List.{◌∷◌, []}
use Rattle.pieces.proofs.Put.{then_put}
use Rattle.vcf_calls.specs.Engine.{person_text, column_of}
use Rattle.vcf_calls.proofs.put_column.Goals as goal

pub returns : goal.returns
unfolding column_of
returns c =
    let a = c.args in
    let p = then_put a.buf.now a.to (0x09 ∷ []) (person_text a.code a.person.now) (omega arith)
    (c.put_byte-next.ensures.next, c.put_byte-next.ensures.written) (c.put_person.ensures.next, c.put_person.ensures.written) in
    record { next = p.0; written = p.1 }
