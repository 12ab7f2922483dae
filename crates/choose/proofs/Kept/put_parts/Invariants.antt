-- `choose::Kept::put_parts` meets its contract. The loop's invariant: everybody's parts stored are those of the people who are left, stored
-- from here on.
use Rattle.std.proofs.Common.{◌≡◌, ◌+◌, ◌-◌, ◌*◌, ◌≤◌, length, drop}
use Rattle.std.proofs.lemmas.List.Edits.{sets}
use Rattle.choice.specs.Choice.{chosen_parts}
use Rattle.choose.proofs.Kept.put_parts.Given as goal

abbrev pub invariant-loop-i : goal.invariant-loop-i
invariant-loop-i l =
    (sets l.initial.buf l.at (chosen_parts l.size l.choice l.parts) ≡ sets l.buf l.o (chosen_parts l.size (drop l.i l.choice) l.parts))
    × (l.o + (length l.choice - l.i) * l.size ≤ length l.buf)
    × (l.i ≤ length l.choice)
    × (l.most ≤ 131072)

abbrev pub decreases-loop-i : goal.decreases-loop-i
decreases-loop-i l = length l.choice - l.i
