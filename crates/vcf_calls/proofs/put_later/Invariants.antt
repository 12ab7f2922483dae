-- `vcf_calls::put_later` meets its contract.
use mathlib.Core.Path.{◌≡◌}
use Rattle.std.specs.Slice.Iter.{chunks_exact_rest, chunks_exact_size}
use Rattle.pieces.proofs.Put.{ToPut}
use Rattle.vcf_calls.specs.Engine.{later_text}
use Rattle.vcf_calls.proofs.put_later.Given as goal

abbrev pub invariant-loop-element : goal.invariant-loop-element
invariant-loop-element l =
    ToPut l.initial.buf l.to (later_text l.code l.slots) l.buf l.next (later_text l.code (chunks_exact_rest l.element-iterator))
    × (chunks_exact_size l.element-iterator ≡ l.width)
