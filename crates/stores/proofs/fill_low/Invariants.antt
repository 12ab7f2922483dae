-- `stores::fill_low` meets its contract. The loop's invariant: all bytes are those that are filled and, from here on, the bytes that are left.
use mathlib.Core.Path.{◌≡◌}
use mathlib.Core.List.{◌++◌}
use Prim.Native.Nat.{◌-◌}
use lib.ListN.{length, take}
use Rattle.words.specs.Words.{bytes}
use Rattle.stores.proofs.fill_low.Given as goal

abbrev pub invariant-loop-byte : goal.invariant-loop-byte
invariant-loop-byte l =
    bytes (length l.initial.part) l.v ≡ take l.byte-index l.part ++ bytes (length l.initial.part - l.byte-index) l.rest
