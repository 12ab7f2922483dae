-- `genotypes::gt_after` meets its contract.
use borrow.Author.Tests.{eq-eqb, ne_eqb}
use Rattle.genotypes.specs.Formats.{gt_now}
use Rattle.genotypes.proofs.gt_after.Goals as goal

pub returns-then-key-gt : goal.returns-then-key-gt
unfolding gt_now
returns-then-key-gt c = simp (eq-eqb _ _ c.if-key-gt.true)

pub returns : goal.returns
unfolding gt_now
returns c = simp (ne_eqb _ _ c.if-key-gt.false)
