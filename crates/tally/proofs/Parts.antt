-- The calls of a record, where GT has a length and where it has none, and how many counters they are. Rests on specs/Tally.
use mathlib.Core.Path.{◌≡◌, refl}
use mathlib.Core.Bool.{Bool, true, false}
use mathlib.Core.List.{List}
use Prim.Native.Nat.{ℕ}
use lib.ListN.{length}
use lib.Dec.{eqb}
use borrow.Author.Tests.{eq-eqb, ne_eqb}
use Rattle.words.specs.Pick.{pick}
use Rattle.genotypes.specs.Formats.{gt_part}
use Rattle.genotypes.specs.declared.Gt.{Gt}
use Rattle.calls.specs.Calls.{counted, counters, people_tally}
use Rattle.tally.specs.Tally.{calls_of, nobody}

pub calls_of_none : (g : Gt) (people : ℕ) (s : List ℕ) → g.len ≡ 0 → calls_of g people s ≡ nobody people
unfolding calls_of
calls_of_none g people s h = rw (eq-eqb _ _ h)

pub calls_of_part : (g : Gt) (people : ℕ) (s : List ℕ) → (g.len ≡ 0 → ⊥)
    → calls_of g people s ≡ counted g.code g.len (gt_part people g s)
unfolding calls_of
calls_of_part g people s h = rw (ne_eqb _ _ h)

-- there are 65 counters, whatever is counted
pub calls_of_length : (g : Gt) (people : ℕ) (s : List ℕ) → length (calls_of g people s).counts ≡ 65
unfolding calls_of counted people_tally counters
calls_of_length g people s = by-len (eqb g.len 0)
  where
    by-len : (b : Bool)
        → length (pick b (nobody people) (counted g.code g.len (gt_part people g s))).counts ≡ 65
    by-len true = refl
    by-len false = refl
