-- Bytes and numbers as hexadecimal capitals, lists of character codes. Rests on nothing but the choice by a test.
use Rattle.std.specs.Prelude.{ℕ, ◌+◌, ◌/◌, ◌%◌, List, [], ◌∷◌, ltb}
use Rattle.words.specs.Pick.{pick}

-- the character of a digit: 0x30 for 0 to 0x39 for 9, 0x41 for 10 to 0x46 for 15
unfoldable pub capital : ℕ → ℕ
capital d = pick (ltb d 10) (0x30 + d) (0x37 + d)

-- the text of bytes: two digits a byte, the high one first
unfoldable pub capitals : List ℕ → List ℕ
capitals [] = []
capitals (b ∷ bs) = capital (b / 16) ∷ capital (b % 16) ∷ capitals bs

-- the four bytes of a number, the high one first
unfoldable pub high_first : ℕ → List ℕ
high_first n = n / 16777216 ∷ n / 65536 % 256 ∷ n / 256 % 256 ∷ n % 256 ∷ []

-- the eight digits of a number
abbrev pub eight : ℕ → List ℕ
eight n = capitals (high_first n)
