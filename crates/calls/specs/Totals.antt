-- Totals over people, and two tallies together: what the laws of a tally speak of. Rests on specs/Calls.
use Rattle.std.specs.Prelude.{ℕ, ◌+◌, List, [], ◌∷◌, length}
use Rattle.calls.specs.Calls.{slots}
use Rattle.calls.specs.declared.Calls.{Calls}

-- the sum of a list
unfoldable pub total : List ℕ → ℕ
total [] = 0
total (c ∷ cs) = c + total cs

-- how many slots people have
unfoldable pub slot_count : ℕ → List (List ℕ) → ℕ
slot_count t [] = 0
slot_count t (p ∷ ps) = length (slots t p) + slot_count t ps

-- one where there is a slot
abbrev pub some_slot : List ℕ → ℕ
some_slot [] = 0
some_slot (x ∷ xs) = 1

-- how many people have a slot
unfoldable pub with_slots : ℕ → List (List ℕ) → ℕ
with_slots t [] = 0
with_slots t (p ∷ ps) = some_slot (slots t p) + with_slots t ps

-- counters added, one by one
unfoldable pub sums : List ℕ → List ℕ → List ℕ
sums [] ds = ds
sums (c ∷ cs) [] = c ∷ cs
sums (c ∷ cs) (d ∷ ds) = (c + d) ∷ sums cs ds

-- two tallies together
unfoldable pub together : Calls → Calls → Calls
together a b = record { without = a.without + b.without; counts = sums a.counts b.counts }
