-- The calls of GT: a person's slots, the allele of each, and how often each allele is called. Rests on vectors' numbers and on types' kinds.
use Rattle.std.specs.Prelude.{ℕ, zero, suc, ◌+◌, ◌*◌, ◌/◌, ◌≤◌, List, [], ◌∷◌, ◌++◌, map, eqb, length, get_or, drop}
use Rattle.words.specs.Pick.{pick}
use Rattle.types.specs.Rows.{width_of}
use Rattle.types.specs.Elements.{kind}
use Rattle.types.specs.declared.Element.{Element}
use Rattle.types.specs.declared.Element.TheVariants.{Plain, Missing, End, Reserved}
use Rattle.vectors.specs.Vectors.{numbers}
use Rattle.calls.specs.declared.Calls.{Calls}

-- an element before the rest of a person's: an end of vector leaves nothing
abbrev pub before : Element → ℕ → List ℕ → List ℕ
before End x rest = []
before Plain x rest = x ∷ rest
before Missing x rest = x ∷ rest
before Reserved x rest = x ∷ rest

-- a person's elements before the first end of vector
unfoldable pub slots : ℕ → List ℕ → List ℕ
slots t [] = []
slots t (x ∷ xs) = before (kind t x) x (slots t xs)

-- the allele of an element, counted from 1; 0 is a missing one
abbrev pub allele_by : Element → ℕ → ℕ
allele_by Missing x = 0
allele_by Plain x = x / 2
allele_by End x = x / 2
allele_by Reserved x = x / 2

unfoldable pub allele_of : ℕ → ℕ → ℕ
allele_of t x = allele_by (kind t x) x

-- the alleles of a person's slots
unfoldable pub alleles : ℕ → List ℕ → List ℕ
alleles t xs = map (allele_of t) (slots t xs)

-- n people's numbers, len of w bytes each, at the front of a list of bytes
unfoldable pub people : ℕ → ℕ → ℕ → List ℕ → List (List ℕ)
people w len zero l = []
people w len (suc n) l = numbers w len l ∷ people w len n (drop (len * w) l)

-- the alleles of all people's slots, one person after the other
unfoldable pub called : ℕ → List (List ℕ) → List ℕ
called t [] = []
called t (p ∷ ps) = alleles t p ++ called t ps

-- one where there is no slot
abbrev pub no_slot : List ℕ → ℕ
no_slot [] = 1
no_slot (x ∷ xs) = 0

-- how many people have no slot
unfoldable pub without : ℕ → List (List ℕ) → ℕ
without t [] = 0
without t (p ∷ ps) = no_slot (slots t p) + without t ps

-- how often a number is in a list
unfoldable pub how_many : ℕ → List ℕ → ℕ
how_many k [] = 0
how_many k (x ∷ xs) = pick (eqb k x) 1 0 + how_many k xs

-- how often each of n numbers from k on is in a list
unfoldable pub counters : ℕ → ℕ → List ℕ → List ℕ
counters zero k xs = []
counters (suc n) k xs = how_many k xs ∷ counters n (suc k) xs

-- no number of a list is above a bound
abbrev pub AtMost : ℕ → List ℕ → Type 0
AtMost m cs = (j : ℕ) → get_or cs j 0 ≤ m

-- the tally of people: those without a slot, missing alleles, and the calls of the first 64 alleles
unfoldable pub people_tally : ℕ → List (List ℕ) → Calls
people_tally t ps = record { without = without t ps; counts = counters 65 0 (called t ps) }

-- the people of a part that is vectors of type t, one of len elements for each: as many as the part has whole
unfoldable pub people_of : ℕ → ℕ → List ℕ → List (List ℕ)
people_of t len l = people (width_of t) len (length l / width_of t / len) l

-- the tally of a part
unfoldable pub counted : ℕ → ℕ → List ℕ → Calls
counted t len l = people_tally t (people_of t len l)
