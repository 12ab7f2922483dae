-- `vcf_site::put_further` meets its contract.
use Prim.Native.Nat.{◌-◌}
use Rattle.pieces.specs.Pieces.{followed}
use Rattle.pieces.proofs.Put.{ToPut}
use Rattle.vcf_site.specs.Columns.{allele_parts}
use Rattle.vcf_site.proofs.put_further.Given as goal

abbrev pub invariant-loop : goal.invariant-loop
invariant-loop l =
    ToPut l.initial.buf l.to (followed 0x2C (allele_parts l.people l.block l.from l.count)) l.buf l.next (followed 0x2C (allele_parts l.people l.block l.at (l.count - l.counter)))
