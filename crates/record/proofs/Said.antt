-- The refusal that each answer says is the one that it is refused with. Rests on specs/Reading.
use mathlib.Core.Path.{◌≡◌, refl}
use Rattle.std.specs.Prelude.{Ok, Err}
use Rattle.values.specs.Answers.{Answer, refusal_in, refusal_of}
use Rattle.record.specs.Reading.{reading_says}
use Rattle.record.specs.declared.Reading.{Reading}

pub said_reading : (a : Answer Reading) → refusal_in (reading_says a) ≡ refusal_of a
said_reading (Ok x) = refl
said_reading (Err r) = refl
