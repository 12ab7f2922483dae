-- The bytes of a value of a kind: in which type it is written, alone or with its key. Rests on encode, and on the kinds that a record shows.
use Rattle.std.specs.Prelude.{ℕ, List, ◌++◌}
use Rattle.encode.specs.Encode.{integer_bytes, widest, value_bytes}
use Rattle.shown.specs.Shown.{Kind, integers, floats, text}

-- integers are written in the widest type that any of them takes, floats in type 5, text in type 7
abbrev pub written_as : Kind → List ℕ → ℕ
written_as integers xs = widest xs
written_as floats xs = 5
written_as text xs = 7

-- a value of a kind, with the length of each vector
unfoldable pub given_bytes : Kind → ℕ → List ℕ → List ℕ
given_bytes k n xs = value_bytes (written_as k xs) n xs

-- a key and its value
unfoldable pub pair_bytes : ℕ → Kind → ℕ → List ℕ → List ℕ
pair_bytes key k n xs = integer_bytes key ++ given_bytes k n xs
