-- The refusal that the turn of an element at a place says: its number there; number 0 where it says none. Rests on specs/Vectors.
use mathlib.Core.Path.{◌≡◌, refl}
use mathlib.Core.Bool.{Bool}
use Prim.Native.Nat.{ℕ}
use Rattle.std.specs.Prelude.{Ok, Err}
use Rattle.values.specs.Answers.{refusal, refusal_in}
use Rattle.vectors.specs.Vectors.{turn_says}

pub said_refused : (at n : ℕ) → refusal_in (turn_says at (Err n)) ≡ refusal n at
said_refused at n = refl

pub said_passed : (at : ℕ) (ended : Bool) → refusal_in (turn_says at (Ok ended)) ≡ refusal 0 0
said_passed at ended = refl
