-- `repeats::pairs` meets its contract. The loop's invariant: none of those before stood earlier.
use Rattle.std.proofs.Common.{◌≡◌, ℕ, ◌<◌, false}
use Rattle.repeats.specs.Engine.{stood}
use Rattle.repeats.proofs.pairs.Given as goal

abbrev pub invariant-loop-i : goal.invariant-loop-i
invariant-loop-i g l =
    let xs = g.N.Numbers.shown l.numbers in
    (j : ℕ) → j < l.i → stood xs j ≡ false
