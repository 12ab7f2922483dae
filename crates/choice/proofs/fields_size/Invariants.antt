-- `choice::fields_size` meets its contract. The loop's invariant: the whole size is what was counted and the size of the fields that are left.
use Rattle.std.proofs.Common.{◌≡◌, ◌+◌, ◌-◌, ◌≤◌, length, drop}
use Rattle.std.specs.Prelude.{max}
use Rattle.choice.specs.Sizes.{fields_size}
use Rattle.choice.proofs.fields_size.Given as goal

abbrev pub invariant-loop : goal.invariant-loop
invariant-loop l =
    (fields_size l.people l.kept l.count l.from (drop l.from l.block)
    ≡ l.sum + fields_size l.people l.kept (l.count - l.counter) l.at (drop l.at l.block))
    × (l.from ≤ l.at)
    × (l.sum ≤ l.at - l.from)
    × (l.at ≤ max l.from (length l.block))
