-- Steps through a block: from a place to the place after what stands there, or a refusal. Rests on values' answers.
use Rattle.std.specs.Prelude.{ℕ, zero, suc, ◌+◌, ◌-◌, ◌≤◌, max, List, [], ◌∷◌, drop, Err, Ok}
use Rattle.vectors.specs.Vectors.{Sound}
use Rattle.values.specs.declared.Value.{Value}
use Rattle.values.specs.Answers.{refusal, Says, refuses, holds, Answer}

-- 01's number and values for each case: the place after, or the refusal's number and place
abbrev pub no_step : ℕ → ℕ → Answer ℕ
no_step n p = Err (refusal n p)

abbrev pub step_says : Answer ℕ → Says
step_says (Err r) = refuses r
step_says (Ok q) = holds (q ∷ [])

-- a step, and then another from where it came to, on what is left of the list
abbrev pub then : ℕ → List ℕ → Answer ℕ → (ℕ → List ℕ → Answer ℕ) → Answer ℕ
then at l (Err r) next = Err r
then at l (Ok q) next = next q (drop (q - at) l)

-- the same step so many times, one after the other
unfoldable pub times : (ℕ → List ℕ → Answer ℕ) → ℕ → ℕ → List ℕ → Answer ℕ
times step zero at l = Ok at
times step (suc n) at l = then at l (step at l) (times step n)

-- past a value
abbrev pub value_step : Answer Value → Answer ℕ
value_step (Err r) = Err r
value_step (Ok v) = Ok v.stop

-- past elements from `first` to `stop`, whose places count from `first`
abbrev pub judged_step : ℕ → ℕ → Answer (Unit {0}) → Answer ℕ
judged_step first stop Sound = Ok stop
judged_step first stop (Err r) = no_step r.number (first + r.place)

-- a block that is read to its last byte, or the first byte over
abbrev pub ended : ℕ → List ℕ → Answer ℕ
ended at [] = Ok at
ended at (b ∷ rest) = no_step 4 at

-- a step does not go back, and does not leave the block, which has so many bytes; where it starts past the block, it stays
abbrev pub StepInside : ℕ → ℕ → Answer ℕ → Type 0
StepInside at end (Err r) = Unit {0}
StepInside at end (Ok q) = (at ≤ q) × (q ≤ max at end)
