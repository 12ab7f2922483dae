-- `c_api::number_given` meets its contract.
use borrow.Author.Tests.{le-ltb, lt-ltb}
use Rattle.c_api.specs.Given.{number_given}
use Rattle.c_api.proofs.number_given.Goals as goal

pub returns-then-kind-gt4 : goal.returns-then-kind-gt4
unfolding number_given
returns-then-kind-gt4 c = simp (lt-ltb _ _ c.if-kind-gt4.true)

pub returns : goal.returns
unfolding number_given
returns c = simp (le-ltb _ _ c.if-kind-gt4.false)
