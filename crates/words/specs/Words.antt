-- Little-endian numbers: what a list of bytes is as a number, and a number's bytes. Rests on `pick`.
use Rattle.std.specs.Prelude.{ℕ, zero, suc, ◌+◌, ◌*◌, ◌/◌, ◌%◌, ◌<◌, List, [], ◌∷◌, Bool, true, leb, take}
use Rattle.words.specs.Pick.{pick}

-- the number that a list of bytes is, low byte first
unfoldable pub le : List ℕ → ℕ
le [] = 0
le (b ∷ bs) = b + le bs * 256

-- the number of the w bytes at the front of a list; where there are fewer, of those
unfoldable pub number : ℕ → List ℕ → ℕ
number w l = le (take w l)

-- the w low bytes of a number, low byte first
unfoldable pub bytes : ℕ → ℕ → List ℕ
bytes zero v = []
bytes (suc w) v = v % 256 ∷ bytes w (v / 256)

-- each number of the list is a byte
abbrev pub Bytes : List ℕ → Type 0
Bytes [] = Unit {0}
Bytes (b ∷ bs) = (b < 256) × Bytes bs

-- no offset below a size: 32 bits of a negative number, or of one too large
unfoldable pub outside : ℕ → ℕ → Bool
outside size x = pick (leb 0x80000000 x) true (leb size x)
