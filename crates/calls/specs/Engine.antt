-- An engine's own words, which no public promise cites: an element as a slot, counters raised by the alleles of slots and kept as pairs, and elements of
-- one byte counted by their halves where all are a missing allele or one of the first three. Rests on specs/Calls.
use Rattle.std.specs.Prelude.{ℕ, suc, ◌+◌, ◌*◌, ◌/◌, List, [], ◌∷◌, Bool, true, false, ltb, get_or, length, Option, None, Some}
use Rattle.words.specs.Pick.{pick}
use Rattle.types.specs.declared.Element.{Element}
use Rattle.types.specs.declared.Element.TheVariants.{Plain, Missing, End, Reserved}
use Rattle.vectors.specs.Vectors.{numbers}
use Rattle.calls.specs.Calls.{people, how_many}
use Rattle.calls.specs.declared.Few.{Few}

-- an element: nothing past the person's last slot, else the slot's allele, counted from 1, with 0 for a missing one
abbrev pub slotted : Element → ℕ → Option ℕ
slotted End x = None
slotted Missing x = Some 0
slotted Plain x = Some (x / 2)
slotted Reserved x = Some (x / 2)

-- the numbers of w bytes that a list is, as many as it has whole
unfoldable pub every : ℕ → List ℕ → List ℕ
every w l = numbers w (length l / w) l

-- the people that a list is, as many as it has whole, of len numbers of w bytes each
unfoldable pub everyone : ℕ → ℕ → List ℕ → List (List ℕ)
everyone w len l = people w len (length l / (len * w)) l

-- counters of the numbers from k on, each raised by how often its number is in a list
unfoldable pub raised : ℕ → List ℕ → List ℕ → List ℕ
raised k [] xs = []
raised k (c ∷ cs) xs = (c + how_many k xs) ∷ raised (suc k) cs xs

-- counters kept as pairs: the sum of each
unfoldable pub folded : List ℕ → List ℕ
folded [] = []
folded (c ∷ []) = c ∷ []
folded (c ∷ d ∷ cs) = (c + d) ∷ folded cs

-- half of each number
unfoldable pub halves : List ℕ → List ℕ
halves [] = []
halves (x ∷ xs) = x / 2 ∷ halves xs

-- how often a missing allele and each of the first three is called, as counters
abbrev pub listed : Few → List ℕ
listed f = f.none ∷ f.first ∷ f.second ∷ f.third ∷ []

-- whether each person's first number is below 8: a missing allele or one of the first three
unfoldable pub firsts_few : List (List ℕ) → Bool
firsts_few [] = true
firsts_few (p ∷ ps) = pick (ltb (get_or p 0 0) 8) (firsts_few ps) false
