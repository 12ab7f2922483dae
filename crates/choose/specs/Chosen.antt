-- The chosen record: it changes l_indiv and the people count, and keeps each chosen person's elements at their width, in order.
-- Keys, descriptors and all other site bytes stay. An empty choice also drops every FORMAT field and sets their count to 0.
-- Rests on the choice, on the layout, and on fetch's FORMAT field at the front of a list.
use Rattle.std.specs.Prelude.{ℕ, zero, suc, ◌-◌, ◌*◌, List, [], ◌∷◌, ◌++◌, length, take, drop, Err, Ok}
use Rattle.std.proofs.lemmas.List.Edits.{sets}
use Rattle.words.specs.Words.{bytes}
use Rattle.types.specs.Rows.{width_of}
use Rattle.types.specs.declared.Use.TheVariants.{Format}
use Rattle.fixed.specs.Layout.{indiv_at, people_at, members_of}
use Rattle.fixed.specs.declared.Site.{Site}
use Rattle.fetch.specs.Fields.{paired}
use Rattle.fetch.specs.declared.Found.{Found}
use Rattle.values.specs.Answers.{Answer}
use Rattle.choice.specs.Choice.{chosen_parts}

-- a FORMAT field before the rest of the block: its key and descriptor as they stand, then the chosen people's elements
abbrev pub chosen_field : List ℕ → ℕ → List ℕ → (ℕ → List ℕ → List ℕ) → Answer Found → List ℕ
chosen_field cs at l rest (Err r) = []
chosen_field cs at l rest (Ok x) =
    take (x.place - at) l ++ (chosen_parts (x.len * width_of x.code) cs (drop (x.place - at) l) ++ rest x.stop (drop (x.stop - at) l))

-- so many FORMAT fields at the front of a list
unfoldable pub chosen_fields : ℕ → List ℕ → ℕ → ℕ → List ℕ → List ℕ
chosen_fields people cs zero at l = []
chosen_fields people cs (suc n) at l = chosen_field cs at l (chosen_fields people cs n) (paired people Format at l)

-- the FORMAT fields that are kept: of nobody none
abbrev pub kept_formats : List ℕ → ℕ → ℕ
kept_formats [] formats = 0
kept_formats (c ∷ cs) formats = formats

-- the genotype block of the chosen record
unfoldable pub chosen_block : Site → List ℕ → List ℕ → List ℕ
chosen_block t cs s = chosen_fields t.people cs (kept_formats cs t.formats) t.border (drop t.border (take t.length s))

-- the site block with the lengths before it, l_indiv and the people count changed
unfoldable pub chosen_site : Site → List ℕ → ℕ → List ℕ → List ℕ
chosen_site t cs indiv s =
    sets (sets (take t.border s) indiv_at (bytes 4 indiv)) people_at (bytes 4 (members_of (kept_formats cs t.formats) (length cs)))

unfoldable pub chosen_record : Site → List ℕ → List ℕ → List ℕ
chosen_record t cs s = let block = chosen_block t cs s in chosen_site t cs (length block) s ++ block
