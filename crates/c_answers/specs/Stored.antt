-- Values stored into a slice at a place, where they have room: of numbers, what the word `filled` of stores says. Rests on the choice by a test.
use Rattle.std.specs.Prelude.{ℕ, ◌+◌, List, ltb, length}
use Rattle.std.proofs.lemmas.List.Edits.{sets}
use Rattle.words.specs.Pick.{pick}

-- the slice afterwards: with the values at the place where they have room, else as it was
unfoldable pub stored : {A : Type 0} → List A → ℕ → List A → List A
stored out at xs = pick (ltb (length out) (at + length xs)) out (sets out at xs)
