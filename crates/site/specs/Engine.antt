-- An engine's own words, which no public promise cites: what a closure does that takes a step, and what so many of them come to. Rests on steps.
use Rattle.std.specs.Prelude.{ℕ, ◌≡◌, List, length, drop}
use Rattle.values.specs.Answers.{Answer}
use Rattle.site.specs.Steps.{times, StepInside}

-- each answer is one step from its place in a block
abbrev pub TakesStep : (ℕ → List ℕ → Answer ℕ) → List ℕ → (ℕ → Answer ℕ → Type 0) → Type 0
TakesStep one block answers =
    (at : ℕ) (r : Answer ℕ) → answers at r → (r ≡ one at (drop at block)) × StepInside at (length block) r

-- so many steps from a place on
abbrev pub IsAfter : (ℕ → List ℕ → Answer ℕ) → List ℕ → ℕ → ℕ → Answer ℕ → Type 0
IsAfter one block from count r =
    (r ≡ times one count from (drop from block)) × StepInside from (length block) r
