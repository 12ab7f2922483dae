-- GT's elements of each person, which of them are slots, and what a slot says. An element is a slot because it is no end of vector, wherever it stands.
-- Rests on where GT stands, on types' kinds of element and on what a code of GT says.
use Rattle.std.specs.Prelude.{ℕ, Option, None, Some, ◌+◌, List, [], ◌∷◌, ◌++◌, Bool, true, false, eqb}
use Rattle.words.specs.Pick.{pick}
use Rattle.types.specs.Rows.{width_of}
use Rattle.types.specs.Elements.{kind, shown}
use Rattle.types.specs.declared.Element.{Element}
use Rattle.types.specs.declared.Element.TheVariants.{Plain, Missing as MissingMark, End as EndMark, Reserved}
use Rattle.genotypes.specs.Formats.{gt_part}
use Rattle.genotypes.specs.declared.Gt.{Gt}
use Rattle.elements.specs.Elements.{shown_by, call_shown}
use Rattle.elements.specs.declared.Call.{Call}
use Rattle.elements.specs.declared.Call.TheVariants.{Allele, Missing, End, NoCall}
use Rattle.calls.specs.Calls.{people}

-- each person's elements of GT, as the numbers of their bytes; where there is no GT, or it has no length, nobody has any
unfoldable pub gt_people : Gt → ℕ → List ℕ → List (List ℕ)
gt_people g n s = people (width_of g.code) g.len n (gt_part n g s)

-- an end of vector is no slot; every other element is one
abbrev pub is_slot : Element → Bool
is_slot EndMark = false
is_slot Plain = true
is_slot MissingMark = true
is_slot Reserved = true

-- a person's slots, and all people's, one person after the other
unfoldable pub slots_of : ℕ → List ℕ → List ℕ
slots_of t [] = []
slots_of t (x ∷ xs) = let rest = slots_of t xs in pick (is_slot (kind t x)) (x ∷ rest) rest

unfoldable pub all_slots : ℕ → List (List ℕ) → List ℕ
all_slots t [] = []
all_slots t (p ∷ ps) = slots_of t p ++ all_slots t ps

-- a person has a genotype where there is a slot
abbrev pub is_some : List ℕ → Bool
is_some [] = false
is_some (x ∷ xs) = true

-- how many of a list pass a test
unfoldable pub count : {A : Type 0} → (A → Bool) → List A → ℕ
count test [] = 0
count test (x ∷ xs) = pick (test x) 1 0 + count test xs

-- what a slot says: the call of its shown number
abbrev pub slot_call : ℕ → ℕ → Option Call
slot_call t x = call_shown (shown_by t (shown t x))

-- whether a call is a missing allele, or the allele of a number
abbrev pub is_missing : Option Call → Bool
is_missing (Some (Missing phased)) = true
is_missing (Some (Allele number phased)) = false
is_missing (Some End) = false
is_missing (Some NoCall) = false
is_missing None = false

abbrev pub is_allele : ℕ → Option Call → Bool
is_allele i (Some (Allele number phased)) = eqb number i
is_allele i (Some (Missing phased)) = false
is_allele i (Some End) = false
is_allele i (Some NoCall) = false
is_allele i None = false
