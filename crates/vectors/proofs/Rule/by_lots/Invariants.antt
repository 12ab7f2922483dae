-- `vectors::Rule::by_lots` meets its contract. The loop's invariant: the part is judged as what is left of it, at its place.
use Rattle.std.proofs.Common.{◌≡◌, ◌+◌, ◌-◌, ◌*◌, ◌^◌, min, length}
use Rattle.std.specs.Slice.Iter.{chunks_rest, chunks_size}
use Rattle.vectors.specs.Engine.{judged_at}
use Rattle.vectors.proofs.Rule.by_lots.Given as goal

abbrev pub invariant-loop-lot : goal.invariant-loop-lot
invariant-loop-lot g l =
    let rest = chunks_rest l.lot-iterator in
    (goal.iterator-loop-lot g).can_next l.lot-iterator
    × (goal.iterator-loop-lot g).is_finite l.lot-iterator
    × (chunks_size l.lot-iterator ≡ min (l.self.size * l.many) (2 ^ 64 - 1))
    × (l.at + length rest ≡ l.initial.at + length l.part)
    × (judged_at l.self.most l.self.code l.self.len l.at rest ≡ judged_at l.self.most l.self.code l.self.len l.initial.at l.part)
