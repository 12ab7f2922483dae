-- `walker::pair_at` meets its contract.
use mathlib.Core.Path.{sym, ◌∙◌}
use native.Mathlib.Omega.{arith}
use lib.Seq.{length-take-le}
use borrow.Author.Tests.{lt-ltb, le-ltb}
use Rattle.words.proofs.Words.{number_part}
use Rattle.walker.specs.Walk.{pair_at}
use Rattle.walker.proofs.pair_at.Goals as goal

pub returns-then-s-lt8 : goal.returns-then-s-lt8
unfolding pair_at
returns-then-s-lt8 c = rw (lt-ltb _ _ c.if-s-lt8.true)

pub returns-then-s-end : goal.returns-then-s-end
unfolding pair_at
returns-then-s-end c =
    let e = c.word_at.ensures ∙ number_part 4 c.args.s.now (omega arith) in
    rw (le-ltb _ _ c.if-s-lt8.false, ← e, lt-ltb _ _ c.if-s-end.true)

pub slice_bounds-pair_in-end : goal.slice_bounds-pair_in-end
slice_bounds-pair_in-end c = sym (length-take-le _ _ c.if-s-end.false)

pub returns : goal.returns
unfolding pair_at
returns c =
    let e = c.word_at.ensures ∙ number_part 4 c.args.s.now (omega arith) in
    rw (le-ltb _ _ c.if-s-lt8.false, ← e, le-ltb _ _ c.if-s-end.false, c.pair_in.ensures)
