-- `values::may_stand` meets its contract.
use borrow.Author.Tests.{eq-eqb, ne_eqb}
use Rattle.values.specs.Values.{may_stand}
use Rattle.values.proofs.may_stand.Goals as goal

pub returns-then-code-eq0 : goal.returns-then-code-eq0
unfolding may_stand
returns-then-code-eq0 c =
    simp (
      ← c.row_of.ensures.value,
      ← c.allows.ensures,
      c.if-allows.true,
      eq-eqb _ _ c.if-code-eq0.true,
    )

pub returns-then-allows : goal.returns-then-allows
unfolding may_stand
returns-then-allows c =
    simp (
      ← c.row_of.ensures.value,
      ← c.allows.ensures,
      c.if-allows.true,
      ne_eqb _ _ c.if-code-eq0.false,
    )

pub returns : goal.returns
unfolding may_stand
returns c =
    simp (← c.row_of.ensures.value, ← c.allows.ensures, c.if-allows.false)
