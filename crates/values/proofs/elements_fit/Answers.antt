-- `values::elements_fit` meets its contract. The division stands for the product: law `fits_over`.
use native.Mathlib.Omega.{arith}
use Rattle.values.proofs.Room.{fits_before, fits_none, fits_over}
use Rattle.values.proofs.elements_fit.Goals as goal

pub returns-then-end-first : goal.returns-then-end-first
returns-then-end-first c = fits_before _ _ _ _ c.if-end-first.true

pub returns-then-w-gt0 : goal.returns-then-w-gt0
returns-then-w-gt0 c = fits_over _ _ _ _ c.if-w-gt0.true c.if-end-first.false

pub returns : goal.returns
returns c = let none = c.if-w-gt0.false in fits_none _ _ _ _ (omega arith) c.if-end-first.false
