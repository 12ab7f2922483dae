-- What the answer to a line says of its length: it, or 0 where there is none. Rests on specs/Frames.
use mathlib.Core.Path.{◌≡◌, refl}
use Prim.Native.Nat.{ℕ}
use Rattle.std.specs.Prelude.{Option, Some, None}
use Rattle.std.specs.Option.{unwrap_or}
use Rattle.frames.specs.Frames.{answer_told}

pub said_length : (a : Option ℕ) → (answer_told a).1 ≡ unwrap_or a 0
said_length (Some n) = refl
said_length None = refl
