-- `store`: the low digits of what is left, before those that are stored, make the whole text. Rests on proofs/Decimal.
use mathlib.Core.Path.{◌≡◌}
use mathlib.Core.List.{◌++◌}
use lib.ListN.{drop}
use Rattle.decimal.specs.Decimal.{decimal}
use Rattle.decimal.proofs.Decimal.{low}
use Rattle.decimal.proofs.store.Given as goal

abbrev pub invariant-loop-i : goal.invariant-loop-i
invariant-loop-i l = low l.i l.rest ++ drop l.i l.text ≡ decimal l.n
