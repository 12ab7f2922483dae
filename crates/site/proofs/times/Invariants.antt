-- `site::times` meets its contract. The loop's invariant: the steps from the start on are those that are left, from a place in the block.
use Rattle.std.proofs.Common.{◌≡◌, ◌-◌, ◌≤◌, ℕ, List, drop, length}
use Rattle.std.specs.Prelude.{max}
use Rattle.site.specs.Engine.{TakesStep}
use Rattle.values.specs.Answers.{Answer}
use Rattle.site.specs.Steps.{times}
use Rattle.site.proofs.times.Given as goal

abbrev pub invariant-loop : goal.invariant-loop
invariant-loop g l =
    (one : ℕ → List ℕ → Answer ℕ) (block : List ℕ) → TakesStep one block (goal.F-post g l.step)
    → (times one l.count l.from (drop l.from block) ≡ times one (l.count - l.counter) l.at (drop l.at block)) × (l.from ≤ l.at) × (l.at ≤ max l.from (length block))
