-- `build_given::in_turn` meets its contract. The loop's invariant: the elements are judged as those that are left.
use Rattle.std.proofs.Common.{◌≡◌, map}
use Rattle.std.specs.Slice.Iter.{chunks_exact_rest, chunks_exact_size}
use Rattle.build_given.specs.Given.{elements_number}
use Rattle.build_given.proofs.in_turn.Given as goal

abbrev pub invariant-loop-part : goal.invariant-loop-part
invariant-loop-part g l =
    let rest = chunks_exact_rest l.part-iterator in
    (goal.iterator-loop-part g).can_next l.part-iterator
    × (goal.iterator-loop-part g).is_finite l.part-iterator
    × (chunks_exact_size l.part-iterator ≡ l.len)
    × (elements_number l.most l.code l.len (map g.T.Given.bits rest) ≡ elements_number l.most l.code l.len (map g.T.Given.bits l.values))
