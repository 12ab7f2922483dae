-- How values are written: the narrowest types, lengths below 15 in the descriptor, marks at the chosen width. Rests on types for what an
-- element is and how it is shown, and on words for a number's bytes.
use Rattle.std.specs.Prelude.{ℕ, ◌+◌, ◌*◌, ◌%◌, max, List, [], ◌∷◌, ◌++◌, ltb, eqb}
use Rattle.words.specs.Pick.{pick}
use Rattle.words.specs.Words.{bytes}
use Rattle.types.specs.Rows.{width_of}
use Rattle.types.specs.Elements.{kind, narrowest}
use Rattle.types.specs.declared.Element.{Element}
use Rattle.types.specs.declared.Element.TheVariants.{Plain, Missing, End, Reserved}

-- one integer, given by its 32 bits, with a descriptor of its own: length 1 and the narrowest type, then its bytes
unfoldable pub integer_bytes : ℕ → List ℕ
integer_bytes x = (16 + narrowest x) ∷ bytes (width_of (narrowest x)) x

-- a descriptor: the low half is the type; a length below 15 stands in the high half, any other follows as an integer
unfoldable pub descriptor_bytes : ℕ → ℕ → List ℕ
descriptor_bytes t n = pick (ltb n 15) ((n * 16 + t % 16) ∷ []) ((0xF0 + t % 16) ∷ integer_bytes n)

-- the type that an integer, given by its 32 bits, takes by itself: a mark takes any
abbrev pub type_for : Element → ℕ → ℕ
type_for Plain x = narrowest x
type_for Reserved x = narrowest x
type_for Missing x = 1
type_for End x = 1

-- the widest element that is no mark chooses the type of all; with marks only, or none, it is 1
unfoldable pub widest : List ℕ → ℕ
widest [] = 1
widest (x ∷ xs) = max (type_for (kind 3 x) x) (widest xs)

-- the marks of type 3 as those of a narrower type, whose missing mark is given; other numbers keep their low bytes
unfoldable pub marked_as : ℕ → ℕ → ℕ
marked_as missing x = pick (eqb x 0x80000000) missing (pick (eqb x 0x80000001) (missing + 1) x)

-- the number whose low bytes are written for an element of type t, given by the 32 bits that it is shown by
unfoldable pub narrowed : ℕ → ℕ → ℕ
narrowed t x = pick (eqb t 1) (marked_as 0x80 x) (pick (eqb t 2) (marked_as 0x8000 x) x)

-- elements of type t, one after the other
unfoldable pub elements_bytes : ℕ → List ℕ → List ℕ
elements_bytes t [] = []
elements_bytes t (x ∷ xs) = bytes (width_of t) (narrowed t x) ++ elements_bytes t xs

-- a value: its descriptor with the length of each vector, and all its elements
unfoldable pub value_bytes : ℕ → ℕ → List ℕ → List ℕ
value_bytes t n xs = descriptor_bytes t n ++ elements_bytes t xs
