-- A refused turn has the state as it was, whatever the next would be. Rests on specs/Order.
use mathlib.Core.Path.{◌≡◌}
use Prim.Native.Nat.{ℕ}
use borrow.Author.Tests.{ne_eqb}
use Rattle.build.specs.Order.{turned}
use Rattle.build.specs.declared.Builder.{Builder}

pub turned_refused : (st next other : Builder) (number : ℕ) → (number ≡ 0 → ⊥) → turned st number next ≡ turned st number other
unfolding turned
turned_refused st next other number h = rw (ne_eqb number 0 h)
