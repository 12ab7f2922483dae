-- The INFO pair that stands at a place of a record, and a walker over the pairs. Rests on what a field is, and on fetching.
use Rattle.std.specs.Prelude.{ℕ, zero, suc, ◌+◌, List, [], ◌∷◌, ltb, length, take, drop, Err, Option, None, Ok, Some}
use Rattle.std.specs.Borrow.{Bor}
use Rattle.words.specs.Pick.{pick}
use Rattle.words.specs.Words.{number}
use Rattle.values.specs.Answers.{refusal, Says, refuses, holds, Answer}
use Rattle.facts.specs.declared.Facts.{Facts}
use Rattle.record.specs.Reading.{reading}
use Rattle.fetch.specs.Fields.{field_at}
use Rattle.fetch.specs.Fetch.{field_of}
use Rattle.fetch.specs.declared.Kind.TheVariants.{Filter, Info}
use Rattle.walker.specs.declared.Pair.{Pair}
use Rattle.fetch.specs.declared.Found.{Found}
use Rattle.record.specs.declared.Reading.{Reading}
use Rattle.walker.specs.declared.Walker.{Walker}

-- 01's number and values for each case: a pair's key, type, length, place and the place after it, and at the end, as where there is no field of that
-- number, 16; opening's refusal, or the place of the first pair
abbrev pub pair_says : Option Pair → Says
pair_says (Some p) = holds (p.key ∷ p.code ∷ p.len ∷ p.place ∷ p.next ∷ [])
pair_says None = refuses (refusal 16 0)

abbrev pub opening_says : Answer ℕ → Says
opening_says (Err r) = refuses r
opening_says (Ok at) = holds (at ∷ [])

-- a pair that is there
abbrev pub found_pair : ℕ → ℕ → ℕ → ℕ → ℕ → Option Pair
found_pair key t n place next = Some (record { key = key; code = t; len = n; place = place; next = next })

-- a field as the walker yields it; where none stands whole, the end
abbrev pub as_pair : Answer Found → Option Pair
as_pair (Ok x) = found_pair x.key x.code x.len x.place x.stop
as_pair (Err r) = None

-- a whole pair at the front of a list, an INFO field: a key of 11, 12 or 13, then a sound descriptor with all its elements; else the end
unfoldable pub pair_in : ℕ → List ℕ → Option Pair
pair_in at l = as_pair (field_at Info 1 at l)

-- at a place of a record, before the end of its site block; the end where that block is not all lent
unfoldable pub pair_at : List ℕ → ℕ → Option Pair
pair_at s at =
    let end = 8 + number 4 s in
    pick (ltb (length s) 8) None (pick (ltb (length s) end) None (pair_in at (drop at (take end s))))

-- the place after a pair; at the end the place itself
abbrev pub after_pair : Option Pair → ℕ → ℕ
after_pair (Some p') at = p'.next
after_pair None at = at

abbrev pub next_at : List ℕ → ℕ → ℕ
next_at s at = after_pair (pair_at s at) at

-- opening: reading's refusals, or the place of the first pair, which is where FILTER ends; an accepted record has its FILTER
abbrev pub first_after : Answer Found → Answer ℕ
first_after (Err r) = Err r
first_after (Ok x) = Ok x.stop

abbrev pub opened_by : List ℕ → Answer Reading → Answer ℕ
opened_by s (Err r) = Err r
opened_by s (Ok a) = first_after (field_of Filter 0 a.site s)

unfoldable pub opened : Facts → List ℕ → Answer ℕ
opened f s = opened_by s (reading f s)

-- the walker of a lent record and a place
abbrev pub walker : Bor (List ℕ) → ℕ → Walker
walker s at = record { bytes = s; at = at }

-- the same record, at the place after the pair
abbrev pub moved_on : Walker → Walker
moved_on w = walker w.bytes (next_at w.bytes.now w.at)

abbrev pub advanced : Walker → Option Pair → Walker
advanced w p = walker w.bytes (after_pair p w.at)

-- where a walker over a record stands after n steps from a place
unfoldable pub walked_to : List ℕ → ℕ → ℕ → ℕ
walked_to s zero at = at
walked_to s (suc n) at = walked_to s n (next_at s at)
