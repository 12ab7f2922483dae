-- `store_people`: the people so far, and those of what is left of the line behind them. Rests on proofs/Digits.
use mathlib.Core.Path.{◌≡◌}
use mathlib.Core.List.{◌++◌}
use Prim.Native.Nat.{◌*◌, ◌-◌}
use lib.ListN.{length, take, drop}
use Rattle.hexadecimal.specs.Hexadecimal.{eights}
use Rattle.hexadecimal.proofs.store_people.Given as goal

abbrev pub invariant-loop-i : goal.invariant-loop-i
invariant-loop-i l = eights (length l.initial.part) l.line ≡ take l.i l.part ++ eights (length l.initial.part - l.i) (drop (8 * l.i) l.line)
