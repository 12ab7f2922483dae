-- The refusal that each answer says is the one that it is refused with. Rests on specs/Fields.
use mathlib.Core.Path.{◌≡◌, refl}
use Rattle.std.specs.Prelude.{Ok, Err}
use Rattle.values.specs.Answers.{Answer, refusal_in, refusal_of}
use Rattle.fetch.specs.Fields.{found_says}
use Rattle.fetch.specs.declared.Found.{Found}

pub said_found : (a : Answer Found) → refusal_in (found_says a) ≡ refusal_of a
said_found (Ok x) = refl
said_found (Err r) = refl
