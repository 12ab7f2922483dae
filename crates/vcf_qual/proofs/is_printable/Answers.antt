-- `vcf_qual::is_printable` meets its contract.
use mathlib.Core.Path.{◌≡◌, refl, ◌∙◌}
use Prim.Native.Nat.{ℕ}
use Rattle.std.specs.Prelude.{Option, Some, None, is_some}
use borrow.Author.Tests.{eq-eqb, ne_eqb}
use Rattle.vcf_qual.specs.Qual.{printable, is_number}
use Rattle.vcf_qual.proofs.is_printable.Goals as goal

pub returns-then-qual-eq-MISSING : goal.returns-then-qual-eq-MISSING
unfolding printable
returns-then-qual-eq-MISSING c = simp (eq-eqb _ _ c.if-qual-eq-MISSING.true)

-- what is some is a number
some_number : (w : Option ℕ) → is_some w ≡ is_number w
some_number (Some n) = refl
some_number None = refl

pub returns-else-qual-eq-MISSING : goal.returns-else-qual-eq-MISSING
unfolding printable
returns-else-qual-eq-MISSING c = rw (ne_eqb _ _ c.if-qual-eq-MISSING.false, ← c.whole_of.ensures) (c.is_some.ensures ∙ some_number _)
