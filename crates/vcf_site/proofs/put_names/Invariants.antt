-- `vcf_site::put_names` meets its contract.
use mathlib.Core.Path.{◌≡◌}
use mathlib.Core.List.{map}
use lib.ListN.{length}
use Rattle.std.specs.Slice.Iter.{chunks_exact_rest, chunks_exact_size}
use Rattle.vectors.specs.Vectors.{elements_of}
use Rattle.pieces.specs.Pieces.{followed}
use Rattle.pieces.proofs.Put.{ToPut}
use Rattle.names.specs.Names.{name_of}
use Rattle.vcf_site.proofs.put_names.Given as goal

abbrev pub invariant-loop-element : goal.invariant-loop-element
invariant-loop-element l =
    let string = name_of l.names.text.now l.names.ends.now in
    let rest = chunks_exact_rest l.element-iterator in
    ToPut l.initial.buf l.to (followed 0x3B (map string (elements_of l.code (length l.part) l.part))) l.buf l.next
    (followed 0x3B (map string (elements_of l.code (length rest) rest)))
    × (chunks_exact_size l.element-iterator ≡ l.width)
