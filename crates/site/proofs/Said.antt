-- The refusal that each answer says is the one that it is refused with. Rests on specs/Steps.
use mathlib.Core.Path.{◌≡◌, refl}
use Rattle.std.specs.Prelude.{Ok, Err}
use Rattle.values.specs.Answers.{Answer, refusal_in, refusal_of}
use Prim.Native.Nat.{ℕ}
use Rattle.site.specs.Steps.{step_says}

pub said_step : (a : Answer ℕ) → refusal_in (step_says a) ≡ refusal_of a
said_step (Ok x) = refl
said_step (Err r) = refl
