-- `elements::code_call_lem` meets its contract.
use borrow.Author.Tests.{eq-eqb, ne_eqb}
use mir.Syntax.{w32}
use mir.Facts.{to_z_pos}
use Rattle.words.proofs.Sign.{high}
use Rattle.elements.specs.Elements.{code_call}
use Rattle.elements.proofs.code_call.Goals as goal

pub returns-then-bits-ge2147483648 : goal.returns-then-bits-ge2147483648
unfolding code_call
returns-then-bits-ge2147483648 c = rw (high c.args.bits c.if-bits-ge2147483648.true)

pub returns-then-half-eq0 : goal.returns-then-half-eq0
unfolding code_call
returns-then-half-eq0 c = rw (to_z_pos w32 c.if-bits-ge2147483648.false, eq-eqb _ _ c.if-half-eq0.true)

pub returns : goal.returns
unfolding code_call
returns c = rw (to_z_pos w32 c.if-bits-ge2147483648.false, ne_eqb _ _ c.if-half-eq0.false)
