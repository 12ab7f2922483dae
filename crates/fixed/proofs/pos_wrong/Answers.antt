-- `fixed::pos_wrong` meets its contract.
use borrow.Author.Tests.{le-leb, lt-leb}
use Rattle.fixed.specs.Layout.{pos_wrong}
use Rattle.fixed.proofs.pos_wrong.Goals as goal

pub returns-then-bits-le2147483646 : goal.returns-then-bits-le2147483646
unfolding pos_wrong
returns-then-bits-le2147483646 c = simp (le-leb _ _ c.if-bits-le2147483646.true)

pub returns : goal.returns
unfolding pos_wrong
returns c = simp (lt-leb _ _ c.if-bits-le2147483646.false)
