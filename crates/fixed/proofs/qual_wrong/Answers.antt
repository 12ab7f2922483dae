-- `fixed::qual_wrong` meets its contract.
use borrow.Author.Tests.{le-ltb, lt-ltb}
use Rattle.fixed.specs.Layout.{qual_wrong}
use Rattle.fixed.proofs.qual_wrong.Goals as goal

pub returns-then-bits-lt2139095042 : goal.returns-then-bits-lt2139095042
unfolding qual_wrong
returns-then-bits-lt2139095042 c = simp (lt-ltb _ _ c.if-bits-lt2139095042.true)

pub returns : goal.returns
unfolding qual_wrong
returns c = simp (le-ltb _ _ c.if-bits-lt2139095042.false)
