-- QUAL as text: from its 32 float bits by whole numbers alone, and no arithmetic on floats. Rests on decimal, and on pieces for the dot.
use Rattle.std.specs.Prelude.{ℕ, ◌+◌, ◌-◌, ◌/◌, ◌%◌, ◌^◌, List, [], Bool, true, false, ltb, leb, eqb, Option, None, Some}
use Rattle.words.specs.Pick.{pick}
use Rattle.decimal.specs.Decimal.{decimal}
use Rattle.pieces.specs.Pieces.{dot}

-- 32 bits as binary32 has them: a sign, 8 bits of exponent and 23 of fraction; the number is (2 ^ 23 + fraction) * 2 ^ (exponent - 150)
abbrev pub exponent_of : ℕ → ℕ
exponent_of q = q / 2 ^ 23 % 2 ^ 8

abbrev pub significand_of : ℕ → ℕ
significand_of q = 2 ^ 23 + q % 2 ^ 23

-- the whole number from 0 to 16777215 that the bits are: both zeros are 0; from 1 on, exponents 127 to 150, of which 2 ^ (150 - exponent) has to go
-- into the significand; a negative number, a larger one, one with a fraction, an infinite one or none is no such number
unfoldable pub whole_of : ℕ → Option ℕ
whole_of q =
    let one = 2 ^ (150 - exponent_of q) in
    pick (eqb (q % 2 ^ 31) 0) (Some 0)
    (pick (leb (2 ^ 31) q) None
    (pick (ltb (exponent_of q) 127) None
    (pick (ltb 150 (exponent_of q)) None
    (pick (eqb (significand_of q % one) 0) (Some (significand_of q / one)) None))))

-- QUAL's missing mark
abbrev pub missing_qual : ℕ
missing_qual = 0x7F800001

abbrev pub is_number : Option ℕ → Bool
is_number (Some n) = true
is_number None = false

abbrev pub whole_text : Option ℕ → List ℕ
whole_text (Some n) = decimal n
whole_text None = []

-- whether QUAL can be printed; its text: a dot when missing, else its digits
unfoldable pub printable : ℕ → Bool
printable q = pick (eqb q missing_qual) true (is_number (whole_of q))

unfoldable pub qual_text : ℕ → List ℕ
qual_text q = pick (eqb q missing_qual) dot (whole_text (whole_of q))
