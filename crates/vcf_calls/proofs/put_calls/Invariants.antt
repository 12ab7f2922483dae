-- `vcf_calls::put_calls` meets its contract.
use mathlib.Core.Path.{◌≡◌}
use Prim.Native.Nat.{◌/◌}
use lib.ListN.{length}
use Rattle.std.specs.Slice.Iter.{chunks_exact_rest, chunks_exact_size}
use Rattle.pieces.proofs.Put.{ToPut}
use Rattle.vcf_calls.specs.Engine.{columns_of}
use Rattle.vcf_calls.proofs.put_calls.Given as goal

abbrev pub invariant-loop-person : goal.invariant-loop-person
invariant-loop-person l =
    let rest = chunks_exact_rest l.person-iterator in
    ToPut l.initial.buf l.to (columns_of l.code l.size (length l.part / l.size) l.part) l.buf l.next (columns_of l.code l.size (length rest / l.size) rest)
    × (chunks_exact_size l.person-iterator ≡ l.size)
