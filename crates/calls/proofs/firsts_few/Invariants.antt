-- `calls::firsts_few` meets its contract. The loop's invariant: all first elements are few where those before the place are and those left are.
use mathlib.Core.Path.{◌≡◌}
use mathlib.Core.Bool.{false}
use Prim.Native.Nat.{◌*◌}
use lib.ListN.{drop}
use Rattle.words.specs.Pick.{pick}
use Rattle.calls.specs.Engine.{everyone, firsts_few}
use Rattle.calls.proofs.firsts_few.Given as goal

abbrev pub invariant-loop-i : goal.invariant-loop-i
invariant-loop-i l =
    firsts_few (everyone 1 2 l.part) ≡ pick l.good (firsts_few (everyone 1 2 (drop (l.i * 2) l.part))) false
