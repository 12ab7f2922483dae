-- The refusal that each answer says is the one that it is refused with. Rests on specs/Formats.
use mathlib.Core.Path.{◌≡◌, refl}
use Rattle.std.specs.Prelude.{Ok, Err}
use Rattle.values.specs.Answers.{Answer, refusal_in, refusal_of}
use Rattle.genotypes.specs.Formats.{field_says, genotypes_says}
use Rattle.genotypes.specs.declared.FormatField.{FormatField}
use Rattle.genotypes.specs.declared.Gt.{Gt}

pub said_field : (a : Answer FormatField) → refusal_in (field_says a) ≡ refusal_of a
said_field (Ok x) = refl
said_field (Err r) = refl

pub said_genotypes : (a : Answer Gt) → refusal_in (genotypes_says a) ≡ refusal_of a
said_genotypes (Ok x) = refl
said_genotypes (Err r) = refl
