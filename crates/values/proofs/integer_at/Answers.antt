-- `values::integer_at` meets its contract.
use Prim.Native.Nat.{◌+◌}
use native.Mathlib.Nat.{add-sub_cancel_left}
use Rattle.words.proofs.Words.{number_part}
use borrow.Author.Tests.{eq-eqb, le-leb, le-ltb, lt-leb, lt-ltb, ne_eqb}
use Rattle.words.proofs.Places.{front}
use Rattle.values.specs.Values.{integer}
use lib.ListN.{drop, length-drop}
use borrow.Author.Rules.{rules}
use Rattle.values.proofs.integer_at.Goals as goal

pub returns-then-block-at : goal.returns-then-block-at
unfolding integer
returns-then-block-at c =
    record {
      value = rw (front (integer _) _ _, length-drop) (simp (le-leb _ _ c.if-block-at.true));
      integer_inside = search rules;
    }

pub returns-then-rest-w : goal.returns-then-rest-w
unfolding integer
returns-then-rest-w c = record {
  value = rw (front (integer _) _ _, length-drop) (simp (
    lt-leb _ _ c.if-block-at.false,
    ← c.row_of-row.ensures.value,
    ← c.row_of-row.ensures.width_value.0,
    ← c.allows.ensures,
    c.if-allows.true,
    eq-eqb _ _ c.if-d-eq1.true,
    lt-ltb _ _ c.if-rest-w.true,
  ));
  integer_inside = search rules;
}

pub returns-then-d-eq1 : goal.returns-then-d-eq1
unfolding integer
returns-then-d-eq1 c = record {
  value = rw (front (integer _) _ _, length-drop) (simp (
    lt-leb _ _ c.if-block-at.false,
    ← c.row_of-row.ensures.value,
    ← c.row_of-row.ensures.width_value.0,
    ← c.allows.ensures,
    c.if-allows.true,
    eq-eqb _ _ c.if-d-eq1.true,
    le-ltb _ _ c.if-rest-w.false,
    c.shown_bits-bits.ensures,
    c.word.ensures,
    add-sub_cancel_left,
    number_part c.row_of-row.result.width (drop (c.args.at + 1) c.args.block.now) c.row_of-row.ensures.width_value.1,
  ));
  integer_inside = search rules;
}

pub returns-then-allows : goal.returns-then-allows
unfolding integer
returns-then-allows c = record {
  value = rw (front (integer _) _ _, length-drop) (simp (
    lt-leb _ _ c.if-block-at.false,
    ← c.row_of-row.ensures.value,
    ← c.allows.ensures,
    c.if-allows.true,
    ne_eqb _ _ c.if-d-eq1.false,
  ));
  integer_inside = search rules;
}

pub returns : goal.returns
unfolding integer
returns c = record {
  value = rw (front (integer _) _ _, length-drop) (simp (
    lt-leb _ _ c.if-block-at.false,
    ← c.row_of-row.ensures.value,
    ← c.row_of-row.ensures.width_value.0,
    ← c.allows.ensures,
    c.if-allows.false,
  ));
  integer_inside = search rules;
}
