-- A division of the people into two choices. Rests on the choice.
use Rattle.std.specs.Prelude.{ℕ, ◌<◌, ◌≡◌, List, Bool, true, false}
use Rattle.words.specs.Lists.{among}
use Rattle.choice.specs.Choice.{ascending}

abbrev pub other : Bool → Bool
other true = false
other false = true

-- two choices, and each person is in one of them and not in the other
pub record Division (people : ℕ) (cs ds : List ℕ) : Type 0 where
  pub first : ascending people cs ≡ true
  pub second : ascending people ds ≡ true
  pub once : (p : ℕ) → p < people → among p cs ≡ other (among p ds)
