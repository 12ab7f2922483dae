-- `calls::count_person` meets its contract. The loop's invariant: what is left of the person, counted on from the counters as they are, is what
-- all of the person is from those at entry; and no pair of counters is so high that a slot for each byte left could wrap it.
use mathlib.Core.Path.{◌≡◌}
use Prim.Native.Nat.{◌*◌, ◌-◌, ◌^◌, ◌≤◌}
use lib.ListN.{length}
use Rattle.std.specs.Iterator.Adapters.{enumerate_source}
use Rattle.std.specs.Slice.Iter.{chunks_exact_rest, chunks_exact_size}
use Rattle.calls.specs.Calls.{slots, alleles, no_slot, AtMost}
use Rattle.calls.specs.Engine.{every, raised, folded}
use Rattle.calls.proofs.count_person.Given as goal

abbrev pub invariant-loop-i : goal.invariant-loop-i
invariant-loop-i l =
    let rest = chunks_exact_rest (enumerate_source l.i-iterator) in
    (no_slot (slots l.code (every l.w l.person)) ≡ l.none * no_slot (slots l.code (every l.w rest)))
    × (raised 0 (folded l.initial.pairs) (alleles l.code (every l.w l.person)) ≡ raised 0 (folded l.pairs) (alleles l.code (every l.w rest)))
    × AtMost (2 ^ 64 - 1 - length rest) (folded l.pairs)
    × (length l.pairs ≡ 130)
    × (chunks_exact_size (enumerate_source l.i-iterator) ≡ l.w)
    × (length rest ≤ length l.person)
    × (l.none ≤ 1)
