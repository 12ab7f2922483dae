-- `elements::number_shown` meets its contract.
use borrow.Author.Tests.{eq-eqb, ne_eqb}
use Rattle.elements.specs.Elements.{shown_by}
use mir.Syntax.{w32}
use mir.Facts.{to_z-of_z}
use Rattle.elements.proofs.number_shown.Goals as goal

pub returns-then-code-eq5 : goal.returns-then-code-eq5
unfolding shown_by
returns-then-code-eq5 c = simp (eq-eqb _ _ c.if-code-eq5.true)

pub returns : goal.returns
unfolding shown_by
returns c =
    let z = c.signed.result in
    rw (ne_eqb _ _ c.if-code-eq5.false, ne_eqb _ _ c.requires, to_z-of_z {w = w32} {z = z} (record { sfits = c.signed.type_inv }), c.signed.ensures)
