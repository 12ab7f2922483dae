-- `vectors::Rule::vector` meets its contract. The loop's invariant: the vector is judged as what is left of it, at its place.
use Rattle.std.proofs.Common.{◌≡◌, ◌+◌, ◌/◌, false, length}
use Rattle.std.specs.Slice.Iter.{chunks_exact_rest, chunks_exact_size}
use Rattle.vectors.specs.Vectors.{numbers, vector}
use Rattle.vectors.proofs.Rule.vector.Given as goal

abbrev pub invariant-loop-e : goal.invariant-loop-e
invariant-loop-e l =
    let rest = chunks_exact_rest l.e-iterator in
    let w = l.self.width in
    goal.iterator-loop-e.can_next l.e-iterator
    × goal.iterator-loop-e.is_finite l.e-iterator
    × (chunks_exact_size l.e-iterator ≡ w)
    × (l.at + length rest ≡ l.initial.at + length l.part)
    × (vector l.self.most l.self.code w l.at l.ended (numbers w (length rest / w) rest) ≡ vector l.self.most l.self.code w l.initial.at false (numbers w (length l.part / w) l.part))
