-- `genotypes::role_of` meets its contract.
use borrow.Author.Tests.{eq-eqb, ne_eqb}
use Rattle.genotypes.specs.Formats.{role_of}
use Rattle.genotypes.proofs.role_of.Goals as goal

pub returns-then-key-gt : goal.returns-then-key-gt
unfolding role_of
returns-then-key-gt c = simp (eq-eqb _ _ c.if-key-gt.true)

pub returns : goal.returns
unfolding role_of
returns c = simp (ne_eqb _ _ c.if-key-gt.false)
