-- `calls::count_people` meets its contract. The loop's invariant: the people that are left, counted on from what is counted, are all of them from
-- the start; and no pair of counters is so high that a slot for each byte left could wrap it.
use mathlib.Core.Path.{◌≡◌}
use Prim.Native.Nat.{◌+◌, ◌*◌, ◌-◌, ◌^◌, ◌≤◌}
use lib.ListN.{length}
use Rattle.std.specs.Slice.Iter.{chunks_exact_rest, chunks_exact_size}
use Rattle.calls.specs.Calls.{called, without, AtMost}
use Rattle.calls.specs.Engine.{everyone, raised, folded}
use Rattle.calls.proofs.count_people.Given as goal

abbrev pub invariant-loop-person : goal.invariant-loop-person
invariant-loop-person l =
    let rest = chunks_exact_rest l.person-iterator in
    (without l.code (everyone l.w l.len l.part) ≡ l.lacking + without l.code (everyone l.w l.len rest))
    × (raised 0 (folded l.initial.pairs) (called l.code (everyone l.w l.len l.part)) ≡ raised 0 (folded l.pairs) (called l.code (everyone l.w l.len rest)))
    × AtMost (2 ^ 64 - 1 - length rest) (folded l.pairs)
    × (length l.pairs ≡ 130)
    × (l.lacking + length rest ≤ length l.part)
    × (chunks_exact_size l.person-iterator ≡ l.len * l.w)
