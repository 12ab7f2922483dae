-- `vcf_calls::separator_of` meets its contract.
use native.Mathlib.Omega.{arith}
use borrow.Author.Tests.{eq-eqb, ne_eqb}
use Rattle.vcf_calls.proofs.Words.{high_mark, code_mark}
use Rattle.vcf_calls.proofs.separator_of.Goals as goal

pub returns-then-x-ge2147483648 : goal.returns-then-x-ge2147483648
returns-then-x-ge2147483648 c = rw (high_mark c.args.x c.if-x-ge2147483648.true (omega arith))

pub returns-then-x-eq1 : goal.returns-then-x-eq1
returns-then-x-eq1 c = rw (code_mark c.args.x c.if-x-ge2147483648.false, eq-eqb _ _ c.if-x-eq1.true)

pub returns : goal.returns
returns c = rw (code_mark c.args.x c.if-x-ge2147483648.false, ne_eqb _ _ c.if-x-eq1.false)
