-- `values::descriptor_at` meets its contract.
use borrow.Author.Tests.{le-leb, le-ltb, lt-leb, lt-ltb}
use Rattle.words.proofs.Places.{front}
use Rattle.values.specs.Values.{described}
use native.Mathlib.Omega.{arith}
use borrow.Author.Rules.{rules}
use Rattle.values.proofs.descriptor_at.Goals as goal

pub returns-then-block-at : goal.returns-then-block-at
unfolding described
returns-then-block-at c =
    record { value = rw (front (described _ _) _ _) (simp (le-leb _ _ c.if-block-at.true)); descriptor_inside = search rules }

pub returns-then-n-lt15 : goal.returns-then-n-lt15
unfolding described
returns-then-n-lt15 c = record {
  value = rw (front (described _ _) _ _) (simp (
    lt-leb _ _ c.if-block-at.false,
    ← c.may_stand.ensures,
    c.if-may_stand.true,
    lt-ltb _ _ c.if-n-lt15.true,
  ));
  descriptor_inside = search rules;
}

pub returns-then-may_stand : goal.returns-then-may_stand
unfolding described
returns-then-may_stand c = record {
  value = rw (front (described _ _) _ _) (simp (
    lt-leb _ _ c.if-block-at.false,
    ← c.may_stand.ensures,
    c.if-may_stand.true,
    le-ltb _ _ c.if-n-lt15.false,
    ← c.true_length.ensures.value,
    c.in_ok-bits.was,
  ));
  descriptor_inside = let i = rw c.in_ok-bits.was at c.true_length.ensures.integer_inside in (omega (arith, i), i.1);
}

pub returns : goal.returns
unfolding described
returns c = record {
  value = rw (front (described _ _) _ _) (simp (
    lt-leb _ _ c.if-block-at.false,
    ← c.may_stand.ensures,
    c.if-may_stand.false,
  ));
  descriptor_inside = search rules;
}
