-- What an element of a type is, and how it is shown: 01's table of marks. Rests on words' `pick`.
use Rattle.std.specs.Prelude.{ℕ, ◌+◌, ◌-◌, ltb, leb, eqb}
use Rattle.words.specs.Pick.{pick}
use Rattle.types.specs.declared.Element.{Element}
use Rattle.types.specs.declared.Element.TheVariants.{Plain, Missing, End, Reserved}

-- marks in a row: the missing mark, next the end of vector, then the reserved ones up to the last
unfoldable pub marked : ℕ → ℕ → ℕ → Element
marked missing last x =
    pick (ltb x missing) Plain
    (pick (ltb last x) Plain
    (pick (eqb x missing) Missing
    (pick (eqb (x - missing) 1) End
    Reserved)))

-- an element of type t whose bytes are the number x; a zero byte ends text
unfoldable pub kind : ℕ → ℕ → Element
kind t x =
    pick (eqb t 1) (marked 0x80 0x87 x)
    (pick (eqb t 2) (marked 0x8000 0x8007 x)
    (pick (eqb t 3) (marked 0x80000000 0x80000007 x)
    (pick (eqb t 5) (marked 0x7F800001 0x7F800007 x)
    (pick (eqb t 7) (pick (eqb x 0) End Plain)
    Plain))))

-- a narrow integer as 32 bits; its missing mark is its sign bit. The two marks become those of type 3, and a negative number
-- is filled up with ones. (What does not fit the width is no element of it, and left as it is.)
unfoldable pub widened : ℕ → ℕ → ℕ
widened missing x =
    pick (ltb x missing) x
    (pick (eqb x missing) 0x80000000
    (pick (eqb (x - missing) 1) 0x80000001
    (pick (ltb (x - missing) missing) (x + (4294967296 - (missing + missing)))
    x)))

-- the 32 bits that an element is shown by
unfoldable pub shown : ℕ → ℕ → ℕ
shown t x = pick (eqb t 1) (widened 0x80 x) (pick (eqb t 2) (widened 0x8000 x) x)

-- the narrowest type for a plain integer, given by its 32 bits: −120 to 127 type 1, −32760 to 32767 type 2, else type 3
unfoldable pub narrowest : ℕ → ℕ
narrowest x =
    pick (leb x 127) 1
    (pick (leb (4294967296 - 120) x) 1
    (pick (leb x 32767) 2
    (pick (leb (4294967296 - 32760) x) 2
    3)))
