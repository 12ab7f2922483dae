-- `capitals::fill` meets its contract. The loop's invariant: the text so far, and the text of the bytes that are left behind it.
use mathlib.Core.Path.{◌≡◌}
use mathlib.Core.List.{◌++◌}
use Prim.Native.Nat.{◌*◌}
use lib.ListN.{take, drop}
use Rattle.capitals.specs.Capitals.{capitals}
use Rattle.capitals.proofs.fill.Given as goal

abbrev pub invariant-loop-i : goal.invariant-loop-i
invariant-loop-i l = take (2 * l.i) l.text ++ capitals (drop l.i l.part) ≡ capitals l.part
