-- An engine's own words, which no public promise cites: elements that all go on, plain and up to the most, or missing. Rests on what a turn is.
use Rattle.std.specs.Prelude.{ℕ, ◌≡◌, ◌*◌, ◌/◌, List, [], ◌∷◌, Bool, true, false, ltb, eqb, length, Ok}
use Rattle.words.specs.Pick.{pick}
use Rattle.types.specs.Elements.{kind}
use Rattle.types.specs.Rows.{width_of}
use Rattle.values.specs.Answers.{Answer}
use Rattle.vectors.specs.Vectors.{element_turn, vectors}

-- a number up to the most and outside the marks from `low` to `high`, or the missing mark
unfoldable pub passed : ℕ → ℕ → ℕ → ℕ → ℕ → Bool
passed low high missing most x = pick (ltb most x) (eqb x missing) (pick (ltb x low) true (ltb high x))

unfoldable pub all_passed : ℕ → ℕ → ℕ → ℕ → List ℕ → Bool
all_passed low high missing most [] = true
all_passed low high missing most (x ∷ xs) = pick (passed low high missing most x) (all_passed low high missing most xs) false

-- each number is an element of type t that is not refused and ends nothing
abbrev pub AllOn : ℕ → ℕ → List ℕ → Type 0
AllOn most t [] = Unit {0}
AllOn most t (x ∷ xs) = (element_turn most false (kind t x) x ≡ Ok false) × AllOn most t xs

-- the vectors of len elements of type t at a place, as many as a list has
unfoldable pub judged_at : ℕ → ℕ → ℕ → ℕ → List ℕ → Answer (Unit {0})
judged_at most t len at l = vectors most t (width_of t) len (length l / (len * width_of t)) at l
