-- A choice of people, and what it takes out of a list that has a part for each person. Rests on `pick`.
use Rattle.std.specs.Prelude.{ℕ, suc, ◌*◌, List, [], ◌∷◌, ◌++◌, Bool, true, false, leb, ltb, take, drop}
use Rattle.words.specs.Pick.{pick}

-- person numbers from a least one on, strictly ascending, each below the people
unfoldable pub ascending_from : ℕ → ℕ → List ℕ → Bool
ascending_from least people [] = true
ascending_from least people (c ∷ cs) = pick (ltb c least) false (pick (leb people c) false (ascending_from (suc c) people cs))

-- a choice: strictly ascending, each below the people; it may be empty
abbrev pub ascending : ℕ → List ℕ → Bool
ascending people cs = ascending_from 0 people cs

-- the parts of the chosen people, in order, out of everybody's parts of `size` each
unfoldable pub chosen_parts : {A : Type 0} → ℕ → List ℕ → List A → List A
chosen_parts size [] l = []
chosen_parts size (c ∷ cs) l = take size (drop (c * size) l) ++ chosen_parts size cs l
