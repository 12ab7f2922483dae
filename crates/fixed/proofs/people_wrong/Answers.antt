-- `fixed::people_wrong` meets its contract.
use borrow.Author.Tests.{eq-eqb, ne_eqb}
use Rattle.fixed.specs.Layout.{people_wrong}
use Rattle.fixed.proofs.people_wrong.Goals as goal

pub returns-then-people-eq0 : goal.returns-then-people-eq0
unfolding people_wrong
returns-then-people-eq0 c = simp (eq-eqb _ _ c.if-people-given.true, eq-eqb _ _ c.if-people-eq0.true)

pub returns-then-people-given : goal.returns-then-people-given
unfolding people_wrong
returns-then-people-given c = simp (eq-eqb _ _ c.if-people-given.true, ne_eqb _ _ c.if-people-eq0.false)

pub returns : goal.returns
unfolding people_wrong
returns c = simp (ne_eqb _ _ c.if-people-given.false)
