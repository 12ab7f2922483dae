-- The refusal that each answer says is the one that it is refused with. Rests on specs/Fixed.
use mathlib.Core.Path.{◌≡◌, refl}
use Rattle.std.specs.Prelude.{Ok, Err}
use Rattle.values.specs.Answers.{Answer, refusal_in, refusal_of}
use Rattle.fixed.specs.Fixed.{blocks_says, fixed_says}
use Rattle.fixed.specs.declared.Blocks.{Blocks}
use Rattle.fixed.specs.declared.Site.{Site}

pub said_blocks : (a : Answer Blocks) → refusal_in (blocks_says a) ≡ refusal_of a
said_blocks (Ok x) = refl
said_blocks (Err r) = refl

pub said_fixed : (a : Answer Site) → refusal_in (fixed_says a) ≡ refusal_of a
said_fixed (Ok x) = refl
said_fixed (Err r) = refl
