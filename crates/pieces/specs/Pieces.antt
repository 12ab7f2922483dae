-- Pieces of text put one after the other: the place after one, and pieces joined by a separator. A piece is stored as far as the buffer goes, so putting
-- it into a buffer of no bytes measures it. Rests on words' `pick`.
use Rattle.std.specs.Prelude.{ℕ, ◌+◌, List, [], ◌∷◌, ◌++◌, ltb}
use Rattle.words.specs.Pick.{pick}

-- the place after so many bytes from a place on; never past the largest number of 64 bits
unfoldable pub after : ℕ → ℕ → ℕ
after at n = pick (ltb 18446744073709551615 (at + n)) 18446744073709551615 (at + n)

-- pieces one after the other, the separator before each
unfoldable pub followed : ℕ → List (List ℕ) → List ℕ
followed c [] = []
followed c (x ∷ xs) = c ∷ (x ++ followed c xs)

-- pieces joined: the separator between each two
unfoldable pub joined_by : ℕ → List (List ℕ) → List ℕ
joined_by c [] = []
joined_by c (x ∷ xs) = x ++ followed c xs

-- a dot, as text: what is missing
abbrev pub dot : List ℕ
dot = 0x2E ∷ []

-- pieces joined, and a dot where there are none; a text, and a dot where it is empty
unfoldable pub listed : ℕ → List (List ℕ) → List ℕ
listed c [] = dot
listed c (x ∷ xs) = joined_by c (x ∷ xs)

unfoldable pub or_dot : List ℕ → List ℕ
or_dot [] = dot
or_dot (b ∷ bs) = b ∷ bs
