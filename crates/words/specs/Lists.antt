-- Lists of numbers. Rests on `pick`.
use Rattle.std.specs.Prelude.{ℕ, List, [], ◌∷◌, Bool, true, false, eqb}
use Rattle.words.specs.Pick.{pick}

-- whether a number is in a list
unfoldable pub among : ℕ → List ℕ → Bool
among x [] = false
among x (y ∷ ys) = pick (eqb y x) true (among x ys)
