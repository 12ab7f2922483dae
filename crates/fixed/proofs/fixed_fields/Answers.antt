-- `fixed::fixed_fields` meets its contract.
use borrow.Author.Tests.{eq-eqb, ne_eqb}
use Rattle.fixed.specs.Fixed.{site_at, fixed}
use borrow.Author.Rules.{rules}
use Rattle.fixed.proofs.fixed_fields.Goals as goal

pub returns-then-wrong-ne0 : goal.returns-then-wrong-ne0
unfolding fixed
returns-then-wrong-ne0 c = record {
  value = simp (
    ← c.blocks_of.ensures.value,
    c.in_ok-border.was,
    ← c.wrong_at-wrong.ensures,
    ne_eqb _ _ c.if-wrong-ne0.true,
  );
  fixed_inside = search rules;
}

pub returns : goal.returns
unfolding fixed site_at
returns c = record {
  value = simp (
    ← c.blocks_of.ensures.value,
    c.in_ok-border.was,
    ← c.wrong_at-wrong.ensures,
    eq-eqb _ _ c.if-wrong-ne0.false,
    c.site_at.ensures,
  );
  fixed_inside = rw c.site_at.ensures (c.in_ok-border.ensures.blocks_inside);
}
