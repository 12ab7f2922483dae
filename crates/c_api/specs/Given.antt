-- What a caller of another language gives as numbers: the header's facts, and the kind of a field. Rests on fetching.
use Rattle.std.specs.Prelude.{ℕ, ltb, eqb}
use Rattle.words.specs.Pick.{pick}
use Rattle.facts.specs.declared.Facts.{Facts}
use Rattle.fetch.specs.declared.Kind.{Kind}
use Rattle.fetch.specs.declared.Kind.TheVariants.{Id, Allele, Filter, Info, Format}

-- the facts, in the order of the first line of frames
abbrev pub facts_given : ℕ → ℕ → ℕ → ℕ → Facts
facts_given strings contigs people gt = record { strings = strings; contigs = contigs; people = people; gt = gt }

-- the kinds of fields, counted from 0
unfoldable pub kind_given : ℕ → Kind
kind_given kind = pick (eqb kind 1) Allele (pick (eqb kind 2) Filter (pick (eqb kind 3) Info (pick (eqb kind 4) Format Id)))

-- a kind outside the five has no field, just as ID has none of number 1
unfoldable pub number_given : ℕ → ℕ → ℕ
number_given kind number = pick (ltb 4 kind) 1 number
