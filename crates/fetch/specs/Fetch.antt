-- Fetching: of a record that is read, the field of a kind and a number, counted from 0; its elements as a part of the record. Rests on reading and on
-- the account of a record's fields.
use Rattle.std.specs.Prelude.{ℕ, ◌-◌, List, [], take, drop, Err, Ok}
use Rattle.facts.specs.declared.Facts.{Facts}
use Rattle.fixed.specs.declared.Site.{Site}
use Rattle.record.specs.Reading.{reading}
use Rattle.fetch.specs.Account.{account, of_kind, numbered}
use Rattle.fetch.specs.declared.Found.{Found}
use Rattle.record.specs.declared.Reading.{Reading}
use Rattle.values.specs.Answers.{Answer}
use Rattle.fetch.specs.declared.Kind.{Kind}

-- the field of a kind and a number in a record whose front is a site: 16 where there is none, or none that stands there whole
unfoldable pub field_of : Kind → ℕ → Site → List ℕ → Answer Found
field_of kind number t s = numbered number (of_kind kind (account t s))

-- reading's refusals, then that field
abbrev pub found_in : Kind → ℕ → List ℕ → Answer Reading → Answer Found
found_in kind number s (Err r) = Err r
found_in kind number s (Ok a) = field_of kind number a.site s

unfoldable pub found : Facts → Kind → ℕ → List ℕ → Answer Found
found f kind number s = found_in kind number s (reading f s)

-- the bytes of a field's elements, and the place where they begin; of a refusal none, at the record's start
abbrev pub part_of : List ℕ → Answer Found → List ℕ
part_of s (Err r) = []
part_of s (Ok x) = take (x.stop - x.place) (drop x.place s)

abbrev pub start_of : Answer Found → ℕ
start_of (Err r) = 0
start_of (Ok x) = x.place

unfoldable pub fetched : Facts → Kind → ℕ → List ℕ → List ℕ
fetched f kind number s = part_of s (found f kind number s)

unfoldable pub fetched_at : Facts → Kind → ℕ → List ℕ → ℕ
fetched_at f kind number s = start_of (found f kind number s)
