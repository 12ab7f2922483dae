-- The refusal that each answer says is the one that it is refused with. Rests on specs/Line.
use mathlib.Core.Path.{◌≡◌, refl}
use Rattle.std.specs.Prelude.{Ok, Err}
use Rattle.values.specs.Answers.{Answer, refusal_in, refusal_of}
use Prim.Native.Nat.{ℕ}
use Rattle.vcf_line.specs.Line.{line_says}

pub said_line : (a : Answer ℕ) → refusal_in (line_says a) ≡ refusal_of a
said_line (Ok x) = refl
said_line (Err r) = refl
