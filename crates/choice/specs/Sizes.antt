-- The size of FORMAT fields of which some people are kept, which is known before any byte is written. Rests on fetch's FORMAT field at the front of a list.
use Rattle.std.specs.Prelude.{ℕ, zero, suc, ◌+◌, ◌-◌, ◌*◌, List, ltb, drop, Err, Ok}
use Rattle.words.specs.Pick.{pick}
use Rattle.types.specs.Rows.{width_of}
use Rattle.types.specs.declared.Use.TheVariants.{Format}
use Rattle.fetch.specs.declared.Found.{Found}
use Rattle.values.specs.Answers.{Answer}
use Rattle.fetch.specs.Fields.{paired}

-- a field before the rest: its key and descriptor, and so many people's parts
abbrev pub field_size : ℕ → ℕ → List ℕ → (ℕ → List ℕ → ℕ) → Answer Found → ℕ
field_size kept at l rest (Err r) = 0
field_size kept at l rest (Ok x) = x.place - at + kept * (x.len * width_of x.code) + rest x.stop (drop (x.stop - at) l)

-- so many FORMAT fields at the front of a list
unfoldable pub fields_size : ℕ → ℕ → ℕ → ℕ → List ℕ → ℕ
fields_size people kept zero at l = 0
fields_size people kept (suc n) at l = field_size kept at l (fields_size people kept n) (paired people Format at l)

-- the same of at most everybody; 0 of more people than there are
unfoldable pub kept_size : ℕ → ℕ → ℕ → ℕ → List ℕ → ℕ
kept_size people kept n at l = pick (ltb people kept) 0 (fields_size people kept n at l)
