-- `fixed::wrong_at` meets its contract.
use borrow.Author.Tests.{eq-eqb, le-leb, lt-leb, ne_eqb}
use Rattle.fixed.specs.Fixed.{wrong_at}
use Rattle.fixed.proofs.wrong_at.Goals as goal

pub returns-then-is_outside : goal.returns-then-is_outside
unfolding wrong_at
returns-then-is_outside c =
    simp (← c.field_at.ensures, ← c.is_outside.ensures, c.if-is_outside.true)

pub returns-then-pos_wrong : goal.returns-then-pos_wrong
unfolding wrong_at
returns-then-pos_wrong c =
    simp (
      ← c.field_at.ensures,
      ← c.is_outside.ensures,
      c.if-is_outside.false,
      ← c.field_at-2.ensures,
      ← c.pos_wrong.ensures,
      c.if-pos_wrong.true,
    )

pub returns-then-field_at-ge2147483648 : goal.returns-then-field_at-ge2147483648
unfolding wrong_at
returns-then-field_at-ge2147483648 c =
    simp (
      ← c.field_at.ensures,
      ← c.is_outside.ensures,
      c.if-is_outside.false,
      ← c.field_at-2.ensures,
      ← c.pos_wrong.ensures,
      c.if-pos_wrong.false,
      ← c.field_at-3.ensures,
      le-leb _ _ c.if-field_at-ge2147483648.true,
    )

pub returns-then-qual_wrong : goal.returns-then-qual_wrong
unfolding wrong_at
returns-then-qual_wrong c =
    simp (
      ← c.field_at.ensures,
      ← c.is_outside.ensures,
      c.if-is_outside.false,
      ← c.field_at-2.ensures,
      ← c.pos_wrong.ensures,
      c.if-pos_wrong.false,
      ← c.field_at-3.ensures,
      lt-leb _ _ c.if-field_at-ge2147483648.false,
      ← c.field_at-4.ensures,
      ← c.qual_wrong.ensures,
      c.if-qual_wrong.true,
    )

pub returns-then-field_at-eq0 : goal.returns-then-field_at-eq0
unfolding wrong_at
returns-then-field_at-eq0 c =
    simp (
      ← c.field_at.ensures,
      ← c.is_outside.ensures,
      c.if-is_outside.false,
      ← c.field_at-2.ensures,
      ← c.pos_wrong.ensures,
      c.if-pos_wrong.false,
      ← c.field_at-3.ensures,
      lt-leb _ _ c.if-field_at-ge2147483648.false,
      ← c.field_at-4.ensures,
      ← c.qual_wrong.ensures,
      c.if-qual_wrong.false,
      ← c.field_at-5.ensures,
      eq-eqb _ _ c.if-field_at-eq0.true,
    )

pub returns-then-people_wrong : goal.returns-then-people_wrong
unfolding wrong_at
returns-then-people_wrong c =
    simp (
      ← c.field_at.ensures,
      ← c.is_outside.ensures,
      c.if-is_outside.false,
      ← c.field_at-2.ensures,
      ← c.pos_wrong.ensures,
      c.if-pos_wrong.false,
      ← c.field_at-3.ensures,
      lt-leb _ _ c.if-field_at-ge2147483648.false,
      ← c.field_at-4.ensures,
      ← c.qual_wrong.ensures,
      c.if-qual_wrong.false,
      ← c.field_at-5.ensures,
      ne_eqb _ _ c.if-field_at-eq0.false,
      ← c.field_at-members.ensures,
      ← c.people_wrong.ensures,
      c.if-people_wrong.true,
    )

pub returns : goal.returns
unfolding wrong_at
returns c =
    simp (
      ← c.field_at.ensures,
      ← c.is_outside.ensures,
      c.if-is_outside.false,
      ← c.field_at-2.ensures,
      ← c.pos_wrong.ensures,
      c.if-pos_wrong.false,
      ← c.field_at-3.ensures,
      lt-leb _ _ c.if-field_at-ge2147483648.false,
      ← c.field_at-4.ensures,
      ← c.qual_wrong.ensures,
      c.if-qual_wrong.false,
      ← c.field_at-5.ensures,
      ne_eqb _ _ c.if-field_at-eq0.false,
      ← c.field_at-members.ensures,
      ← c.people_wrong.ensures,
      c.if-people_wrong.false,
    )
