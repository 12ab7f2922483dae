-- `calls::raise_few` meets its contract.
use native.Mathlib.Omega.{arith}
use lib.ListN.{length-set}
use Rattle.calls.specs.Totals.{total}
use Rattle.calls.proofs.Pairs.{folded_above, folded_four, raise_reads}
use Rattle.calls.proofs.raise_few.Goals as goal

pub overflow_add-pairs : goal.overflow_add-pairs
unfolding total
overflow_add-pairs c = let b = c.requires.1 0 in omega (arith, folded_above c.args.pairs.now 0 0 (omega arith))

pub overflow_add-pairs-2 : goal.overflow_add-pairs-2
unfolding total
overflow_add-pairs-2 c =
    let b = c.requires.1 1 in
    omega (arith, folded_above c.args.pairs.now 1 0 (omega arith), (raise_reads c.args.pairs.now c.from.result 0 0).0)

pub overflow_add-pairs-3 : goal.overflow_add-pairs-3
unfolding total
overflow_add-pairs-3 c =
    let b = c.requires.1 2 in
    omega (arith, folded_above c.args.pairs.now 2 0 (omega arith), (raise_reads c.args.pairs.now c.from.result c.from-2.result 0).1)

pub overflow_add-pairs-4 : goal.overflow_add-pairs-4
unfolding total
overflow_add-pairs-4 c =
    let b = c.requires.1 3 in
    omega (arith, folded_above c.args.pairs.now 3 0 (omega arith), (raise_reads c.args.pairs.now c.from.result c.from-2.result c.from-3.result).2)

pub returns : goal.returns
returns c =
    let n = c.requires.0 in
    (simp length-set n, rw (← c.from.ensures, ← c.from-2.ensures, ← c.from-3.ensures, ← c.from-4.ensures) (folded_four _ _ _ _ _ (omega arith)))
