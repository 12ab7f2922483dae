-- `vcf_calls::put_dots` meets its contract.
use Prim.Native.Nat.{◌-◌}
use lib.ListN.{replicate}
use Rattle.pieces.specs.Pieces.{followed, dot}
use Rattle.pieces.proofs.Put.{ToPut}
use Rattle.vcf_calls.proofs.put_dots.Given as goal

abbrev pub invariant-loop : goal.invariant-loop
invariant-loop l = ToPut l.initial.buf l.at (followed 0x09 (replicate l.people dot)) l.buf l.next (followed 0x09 (replicate (l.people - l.counter) dot))
