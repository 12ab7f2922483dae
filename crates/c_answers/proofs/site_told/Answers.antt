-- `c_answers::site_told` meets its contract.
use borrow.Author.Tests.{le-ltb, lt-ltb}
use Rattle.c_answers.specs.Told.{site_told}
use Rattle.c_answers.proofs.site_told.Goals as goal

pub returns-then-numbers-lt13 : goal.returns-then-numbers-lt13
unfolding site_told
returns-then-numbers-lt13 c = simp (lt-ltb _ _ c.if-numbers-lt13.true, c.empty_site.ensures)

pub returns : goal.returns
unfolding site_told
returns c =
    simp (
      le-ltb _ _ c.if-numbers-lt13.false,
      ← c.from_bits.ensures,
    )
