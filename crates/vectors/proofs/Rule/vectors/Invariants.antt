-- `vectors::Rule::vectors` meets its contract. The loop's invariant: the part is judged as what is left of it, at its place.
use Rattle.std.proofs.Common.{◌≡◌, ◌+◌, length}
use Rattle.std.specs.Slice.Iter.{chunks_exact_rest, chunks_exact_size}
use Rattle.vectors.specs.Engine.{judged_at}
use Rattle.vectors.proofs.Rule.vectors.Given as goal

abbrev pub invariant-loop-v : goal.invariant-loop-v
invariant-loop-v l =
    let rest = chunks_exact_rest l.v-iterator in
    goal.iterator-loop-v.can_next l.v-iterator
    × goal.iterator-loop-v.is_finite l.v-iterator
    × (chunks_exact_size l.v-iterator ≡ l.self.size)
    × (l.at + length rest ≡ l.initial.at + length l.part)
    × (judged_at l.self.most l.self.code l.self.len l.at rest ≡ judged_at l.self.most l.self.code l.self.len l.initial.at l.part)
