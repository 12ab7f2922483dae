-- The refusal that each answer says is the one that it is refused with. Rests on specs/Answers.
use mathlib.Core.Path.{◌≡◌, refl}
use Rattle.std.specs.Prelude.{Ok, Err}
use Rattle.values.specs.Answers.{Answer, refusal_in, refusal_of, integer_says, descriptor_says, value_says}
use Rattle.values.specs.declared.Descriptor.{Descriptor}
use Rattle.values.specs.declared.Integer.{Integer}
use Rattle.values.specs.declared.Value.{Value}

pub said_integer : (a : Answer Integer) → refusal_in (integer_says a) ≡ refusal_of a
said_integer (Ok x) = refl
said_integer (Err r) = refl

pub said_descriptor : (a : Answer Descriptor) → refusal_in (descriptor_says a) ≡ refusal_of a
said_descriptor (Ok x) = refl
said_descriptor (Err r) = refl

pub said_value : (a : Answer Value) → refusal_in (value_says a) ≡ refusal_of a
said_value (Ok x) = refl
said_value (Err r) = refl
