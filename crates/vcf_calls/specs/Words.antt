-- Calls as words of a VCF line: a slot, a person's slots, and the people of a GT field. Rests on what a code of GT says, on decimal, and on pieces.
use Rattle.std.specs.Prelude.{ℕ, zero, suc, ◌/◌, List, [], ◌∷◌, ◌++◌, map, Bool, true, false, length, take, drop}
use Rattle.types.specs.Rows.{width_of}
use Rattle.vectors.specs.Vectors.{elements_of}
use Rattle.decimal.specs.Decimal.{decimal}
use Rattle.std.specs.Int.{w32}
use Rattle.std.proofs.Common.{to_z}
use Rattle.elements.specs.Elements.{integer_call}
use Rattle.elements.specs.declared.Call.{Call}
use Rattle.elements.specs.declared.Call.TheVariants.{Allele, Missing, End, NoCall}
use Rattle.pieces.specs.Pieces.{dot}

-- a slot's word: the number of its allele, or a dot
abbrev pub slot_word : Call → List ℕ
slot_word (Allele number phased) = decimal number
slot_word (Missing phased) = dot
slot_word End = dot
slot_word NoCall = dot

-- what stands before a later slot: `|` where it is phased, else `/`
abbrev pub phase_mark : Bool → ℕ
phase_mark true = 0x7C
phase_mark false = 0x2F

abbrev pub separator : Call → ℕ
separator (Allele number phased) = phase_mark phased
separator (Missing phased) = phase_mark phased
separator End = 0x2F
separator NoCall = 0x2F

-- later slots, each with its own phase before it
unfoldable pub later_words : List Call → List ℕ
later_words [] = []
later_words (c ∷ cs) = separator c ∷ (slot_word c ++ later_words cs)

-- a person's slots; a dot where there are none
unfoldable pub person_word : List Call → List ℕ
person_word [] = dot
person_word (c ∷ cs) = slot_word c ++ later_words cs

-- what a number says that GT shows
unfoldable pub call_of_number : ℕ → Call
call_of_number x = integer_call (to_z w32 x)

-- the calls of a person's slots: those of the elements before the first end of vector
abbrev pub up_to_end : Call → List Call → List Call
up_to_end End rest = []
up_to_end (Allele number phased) rest = Allele number phased ∷ rest
up_to_end (Missing phased) rest = Missing phased ∷ rest
up_to_end NoCall rest = NoCall ∷ rest

unfoldable pub slot_calls : List ℕ → List Call
slot_calls [] = []
slot_calls (x ∷ xs) = up_to_end (call_of_number x) (slot_calls xs)

-- a person's elements, as the word of their slots
unfoldable pub genotype_word : List ℕ → List ℕ
genotype_word xs = person_word (slot_calls xs)

-- the elements of so many people, a vector of a length for each
unfoldable pub vectors_of : ℕ → ℕ → List ℕ → List (List ℕ)
vectors_of zero len xs = []
vectors_of (suc n) len xs = take len xs ∷ vectors_of n len (drop len xs)

-- the words of so many people, from all their elements
unfoldable pub call_words : ℕ → ℕ → List ℕ → List (List ℕ)
call_words people len xs = map genotype_word (vectors_of people len xs)

-- the words of a part that is vectors of type t, one of len elements for each person: as many people as the part has whole
unfoldable pub part_words : ℕ → ℕ → List ℕ → List (List ℕ)
part_words t len l = call_words (length l / width_of t / len) len (elements_of t (length l) l)
