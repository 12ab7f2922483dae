-- Typed values, as what stands at the front of a list of bytes that ends with its block; `at` is the place of that front, a
-- label for refusals. Rests on types' table and words' numbers.
use Rattle.std.specs.Prelude.{ℕ, ◌+◌, ◌*◌, ◌/◌, ◌%◌, List, [], ◌∷◌, Bool, true, false, ltb, leb, eqb, length, Err, Ok}
use Rattle.words.specs.Pick.{pick}
use Rattle.words.specs.Words.{number, outside}
use Rattle.types.specs.Rows.{row_of, width_of, allowed}
use Rattle.types.specs.Elements.{shown}
use Rattle.types.specs.declared.Use.{Use}
use Rattle.types.specs.declared.Use.TheVariants.{Integer as IntegerUse}
use Rattle.values.specs.declared.Value.{Value}
use Rattle.values.specs.declared.Descriptor.{Descriptor}
use Rattle.values.specs.declared.Integer.{Integer}
use Rattle.values.specs.Answers.{no_integer, one, no_descriptor, typed, no_value, whole, Answer}

-- one integer, with a descriptor of its own, 11, 12 or 13, as a key and a true length are: its low half an integer's type, its high half 1; then its
-- element
unfoldable pub integer : ℕ → List ℕ → Answer Integer
integer at [] = no_integer 3 at
integer at (d ∷ rest) =
    let t = d % 16 in
    let w = width_of t in
    pick (allowed (row_of t) IntegerUse)
    (pick (eqb (d / 16) 1)
    (pick (ltb (length rest) w) (no_integer 3 (at + 1 + length rest))
    (one (shown t (number w rest)) (at + 1 + w)))
    (no_integer 6 at))
    (no_integer 6 at)

-- a true length is 15 or more; negative numbers, the marks among them, are below it
abbrev pub long_enough : ℕ → Answer Integer → Answer Integer
long_enough at (Err r) = Err r
long_enough at (Ok i) = pick (ltb i.bits 15) (no_integer 7 at) (pick (leb 0x80000000 i.bits) (no_integer 7 at) (one i.bits i.next))

unfoldable pub true_length : ℕ → List ℕ → Answer Integer
true_length at l = long_enough at (integer at l)

-- a key is an offset below the dictionary's size; a negative number is none
abbrev pub in_dictionary : ℕ → ℕ → Answer Integer → Answer Integer
in_dictionary strings at (Err r) = Err r
in_dictionary strings at (Ok i) = pick (outside strings i.bits) (no_integer 8 (at + 1)) (one i.bits i.next)

unfoldable pub keyed : ℕ → ℕ → List ℕ → Answer Integer
keyed strings at l = in_dictionary strings at (integer at l)

-- a type that the use allows, with any length; type 0 has length 0 alone, so that its descriptor is a bare 00
unfoldable pub may_stand : Use → ℕ → ℕ → Bool
may_stand role t n = pick (allowed (row_of t) role) (pick (eqb t 0) (eqb n 0) true) false

-- a descriptor: the low half is the type, the high half the length; 15 there says that a true length follows
abbrev pub with_length : ℕ → Answer Integer → Answer Descriptor
with_length t (Err r) = Err r
with_length t (Ok i) = typed t i.bits i.next

unfoldable pub described : Use → ℕ → List ℕ → Answer Descriptor
described role at [] = no_descriptor 3 at
described role at (d ∷ rest) =
    let t = d % 16 in
    let n = d / 16 in
    pick (may_stand role t n)
    (pick (ltb n 15) (typed t n (at + 1)) (with_length t (true_length (at + 1) rest)))
    (no_descriptor 6 at)

-- a value: its descriptor, and then all elements, length for each of so many vectors, before the end of the block
abbrev pub with_elements : ℕ → ℕ → Answer Descriptor → Answer Value
with_elements vectors end (Err r) = Err r
with_elements vectors end (Ok d) =
    let stop = d.first + vectors * d.len * width_of d.code in
    pick (leb stop end) (whole d.code d.len d.first stop) (no_value 3 end)

unfoldable pub present : ℕ → Use → ℕ → List ℕ → Answer Value
present vectors role at l = with_elements vectors (at + length l) (described role at l)
