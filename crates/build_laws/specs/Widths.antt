-- Which numbers take which type, and what is read where an element was written. Rests on encode and on how types show their elements.
use Rattle.std.specs.Prelude.{ℕ, ◌-◌, List, ◌++◌, Bool, true, leb}
use Rattle.words.specs.Pick.{pick}
use Rattle.words.specs.Words.{number, bytes}
use Rattle.types.specs.Rows.{width_of}
use Rattle.types.specs.Elements.{shown}
use Rattle.encode.specs.Encode.{narrowed}

-- whether 32 bits are a number from −low to high
unfoldable pub between : ℕ → ℕ → ℕ → Bool
between low high x = pick (leb x high) true (leb (4294967296 - low) x)

-- what is shown where an element was written in type t, before other bytes
abbrev pub shown_again : ℕ → ℕ → List ℕ → ℕ
shown_again t x rest = shown t (number (width_of t) (bytes (width_of t) (narrowed t x) ++ rest))
