-- `vcf_qual::whole_of` meets its contract.
use borrow.Author.Tests.{eq-eqb, le-leb, le-ltb, lt-leb, lt-ltb, ne_eqb}
use Rattle.vcf_qual.specs.Qual.{whole_of}
use Rattle.vcf_qual.proofs.whole_of.Goals as goal

pub returns-then-bits-eq0 : goal.returns-then-bits-eq0
unfolding whole_of
returns-then-bits-eq0 c = simp (eq-eqb _ _ c.if-bits-eq0.true)

pub returns-then-bits-ge2147483648 : goal.returns-then-bits-ge2147483648
unfolding whole_of
returns-then-bits-ge2147483648 c = simp (ne_eqb _ _ c.if-bits-eq0.false, le-leb _ _ c.if-bits-ge2147483648.true)

pub returns-then-exponent-lt127 : goal.returns-then-exponent-lt127
unfolding whole_of
returns-then-exponent-lt127 c =
    simp (ne_eqb _ _ c.if-bits-eq0.false, lt-leb _ _ c.if-bits-ge2147483648.false, lt-ltb _ _ c.if-exponent-lt127.true)

pub returns-then-exponent-gt150 : goal.returns-then-exponent-gt150
unfolding whole_of
returns-then-exponent-gt150 c =
    simp (
      ne_eqb _ _ c.if-bits-eq0.false,
      lt-leb _ _ c.if-bits-ge2147483648.false,
      le-ltb _ _ c.if-exponent-lt127.false,
      lt-ltb _ _ c.if-exponent-gt150.true,
    )

pub returns-then-significand-one-eq0 : goal.returns-then-significand-one-eq0
unfolding whole_of
returns-then-significand-one-eq0 c =
    simp (
      ne_eqb _ _ c.if-bits-eq0.false,
      lt-leb _ _ c.if-bits-ge2147483648.false,
      le-ltb _ _ c.if-exponent-lt127.false,
      le-ltb _ _ c.if-exponent-gt150.false,
      ← c.pow-one.ensures,
      eq-eqb _ _ c.if-significand-one-eq0.true,
    )

pub returns : goal.returns
unfolding whole_of
returns c =
    simp (
      ne_eqb _ _ c.if-bits-eq0.false,
      lt-leb _ _ c.if-bits-ge2147483648.false,
      le-ltb _ _ c.if-exponent-lt127.false,
      le-ltb _ _ c.if-exponent-gt150.false,
      ← c.pow-one.ensures,
      ne_eqb _ _ c.if-significand-one-eq0.false,
    )
