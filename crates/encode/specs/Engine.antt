-- An engine's own words, which no public promise cites: the two marks that every type of integers has, as type 3 has them, missing and end of vector,
-- and the integers that a type takes. Rests on words' `pick`.
use Rattle.std.specs.Prelude.{ℕ, Bool, true, leb, eqb}
use Rattle.words.specs.Pick.{pick}

-- whether 32 bits are one of the two
unfoldable pub is_mark : ℕ → Bool
is_mark x = pick (eqb x 0x80000000) true (eqb x 0x80000001)

-- whether a type takes an integer, given by its 32 bits, whose plain numbers go up to one number, and the negative ones from another on
unfoldable pub taken : ℕ → ℕ → ℕ → Bool
taken most least x = pick (leb x most) true (pick (leb least x) true (is_mark x))
