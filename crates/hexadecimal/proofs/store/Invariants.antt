-- `store`: the bytes so far, and those of what is left of the line behind them. Rests on proofs/Digits.
use mathlib.Core.Path.{◌≡◌}
use mathlib.Core.List.{◌++◌}
use Prim.Native.Nat.{◌*◌}
use lib.ListN.{take, drop}
use Rattle.hexadecimal.specs.Hexadecimal.{line_bytes}
use Rattle.hexadecimal.proofs.store.Given as goal

abbrev pub invariant-loop-i : goal.invariant-loop-i
invariant-loop-i l = line_bytes l.line ≡ take l.i l.part ++ line_bytes (drop (2 * l.i) l.line)
