-- `calls::count_calls` meets its contract. The loop's invariant: the part's tally is the one under way and the people that are left, who are whole; and
-- no pair of counters is so high that a slot for each byte left could wrap it.
use mathlib.Core.Path.{◌≡◌}
use Prim.Native.Nat.{◌+◌, ◌*◌, ◌-◌, ◌%◌, ◌/◌, ◌^◌, ◌≤◌, max}
use lib.ListN.{length}
use Rattle.std.specs.Slice.Iter.{chunks_rest, chunks_size}
use Rattle.calls.specs.Calls as spec
use Rattle.calls.specs.Engine.{everyone, raised, folded}
use Rattle.calls.proofs.count_calls.Given as goal

abbrev pub invariant-loop-block : goal.invariant-loop-block
invariant-loop-block l =
    let rest = chunks_rest l.block-iterator in
    (spec.without l.code (spec.people_of l.code l.len l.part) ≡ l.without + spec.without l.code (everyone l.w l.len rest))
    × (spec.counters 65 0 (spec.called l.code (spec.people_of l.code l.len l.part)) ≡ raised 0 (folded l.pairs) (spec.called l.code (everyone l.w l.len rest)))
    × spec.AtMost (2 ^ 64 - 1 - length rest) (folded l.pairs)
    × (length l.pairs ≡ 130)
    × (l.without + length rest ≤ length l.part)
    × (length rest % (l.len * l.w) ≡ 0)
    × (chunks_size l.block-iterator ≡ l.len * l.w * max (128 / l.len) 1)
