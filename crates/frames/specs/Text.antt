-- The text of an answer: words, numbers with a space before each, and a line feed. Rests on decimal.
use Rattle.std.specs.Prelude.{ℕ, List, [], ◌∷◌, ◌++◌}
use Rattle.decimal.specs.Decimal.{decimal}

-- each number after a space
unfoldable pub spaced : List ℕ → List ℕ
spaced [] = []
spaced (n ∷ ns) = 0x20 ∷ (decimal n ++ spaced ns)

-- a word of two letters, numbers, and a line feed
abbrev pub line : ℕ → ℕ → List ℕ → List ℕ
line a b ns = a ∷ b ∷ (spaced ns ++ (0x0A ∷ []))

-- `ok` and numbers; `no` and numbers; `bad`
abbrev pub ok_line : List ℕ → List ℕ
ok_line ns = line 0x6F 0x6B ns

abbrev pub no_line : List ℕ → List ℕ
no_line ns = line 0x6E 0x6F ns

abbrev pub bad_line : List ℕ
bad_line = 0x62 ∷ 0x61 ∷ 0x64 ∷ 0x0A ∷ []
