-- `choose::Kept::put_fields` meets its contract. The loop's invariant: all fields stored are those that are left, stored from here on.
use Rattle.std.proofs.Common.{◌≡◌, ◌+◌, ◌-◌, ◌≤◌, length, drop}
use Rattle.std.proofs.lemmas.List.Edits.{sets}
use Rattle.choose.specs.Chosen.{chosen_fields}
use Rattle.choice.specs.Sizes.{fields_size}
use Rattle.choose.proofs.Kept.put_fields.Given as goal

abbrev pub invariant-loop : goal.invariant-loop
invariant-loop l =
    let kept = l.self.choice.now in
    let left = l.count - l.counter in
    (sets l.initial.buf l.to (chosen_fields l.self.people kept l.count l.from (drop l.from l.block)) ≡ sets l.buf l.o (chosen_fields l.self.people kept left l.at (drop l.at l.block)))
    × (l.o + fields_size l.self.people (length kept) left l.at (drop l.at l.block) ≤ length l.buf)
