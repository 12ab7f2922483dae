-- `genotypes::is_repeated` meets its contract. The loop's invariant: the key is among all earlier ones as it is among those left, which are whole rows.
use Rattle.std.proofs.Common.{◌≡◌, ◌%◌, length}
use Rattle.std.specs.Slice.Exact.{rchunks_exact_rest, rchunks_exact_size}
use Rattle.words.specs.Lists.{among}
use Rattle.genotypes.proofs.is_repeated.Given as goal

abbrev pub invariant-loop-row : goal.invariant-loop-row
invariant-loop-row l =
    let rest = rchunks_exact_rest l.row-iterator in
    goal.iterator-loop-row.can_next l.row-iterator
    × goal.iterator-loop-row.is_finite l.row-iterator
    × (rchunks_exact_size l.row-iterator ≡ 4)
    × (length rest % 4 ≡ 0)
    × (among l.key rest ≡ among l.key l.earlier)
