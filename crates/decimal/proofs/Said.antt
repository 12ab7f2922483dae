-- What the answer of a text that was put says of its place: it, or 0 where there is none. Rests on specs/Decimal.
use mathlib.Core.Path.{◌≡◌, refl}
use Prim.Native.Nat.{ℕ}
use Rattle.std.specs.Prelude.{Option, Some, None}
use Rattle.std.specs.Option.{unwrap_or}
use Rattle.decimal.specs.Decimal.{put_told}

pub said_place : (p : Option ℕ) → (put_told p).1 ≡ unwrap_or p 0
said_place (Some q) = refl
said_place None = refl
