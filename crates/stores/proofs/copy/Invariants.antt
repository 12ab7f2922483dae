-- `stores::copy` meets its contract. The loop's invariant: the part is the bytes that are copied and, from here on, those that are left.
use mathlib.Core.Path.{◌≡◌}
use mathlib.Core.List.{◌++◌}
use lib.ListN.{take, drop}
use Rattle.stores.proofs.copy.Given as goal

abbrev pub invariant-loop-i : goal.invariant-loop-i
invariant-loop-i l =
    l.part ≡ take l.i l.over ++ drop l.i l.part
