-- The columns of calls of some of the people, and the line of a chosen record. Rests on vcf_line's columns and on choose.
use Rattle.std.specs.Prelude.{ℕ, ◌≡◌, List, [], ◌∷◌, ◌++◌, map, length, get_or}
use Rattle.facts.specs.declared.Facts.{Facts}
use Rattle.fixed.specs.declared.Site.{Site}
use Rattle.contents.specs.Contents.{shown_of}
use Rattle.choose.specs.Chosen.{chosen_record}
use Rattle.choose_laws.specs.Releases.{for_people}
use Rattle.pieces.specs.Pieces.{joined_by}
use Rattle.vcf_line.specs.Line.{call_columns, site_columns, Names, line, printed}
use Rattle.vcf_laws.specs.Lines.{names_of}

-- of FORMAT and everybody's words: FORMAT, and the words of the chosen people in order; none of nobody, and none where there are none
unfoldable pub chosen_columns : List ℕ → List (List ℕ) → List (List ℕ)
chosen_columns [] columns = []
chosen_columns (c ∷ cs) [] = []
chosen_columns (c ∷ cs) (format ∷ words) = format ∷ map (λ i. get_or words i []) (c ∷ cs)

-- columns as a line
abbrev pub line_from : List (List ℕ) → List ℕ
line_from columns = joined_by 0x09 columns ++ (0x0A ∷ [])

-- a record's line is its columns; the line of a chosen record is those of the site, and of those of calls the chosen people's
pub record ChosenLine (f : Facts) (strings contigs : Names) (s : List ℕ) (t : Site) (cs l : List ℕ) : Type 0 where
  pub whole : l ≡ line_from (site_columns (names_of strings) (names_of contigs) (shown_of t s) ++ call_columns f.gt f.people (shown_of t s).formats)
  pub chosen : printed (for_people (length cs) f) strings contigs (chosen_record t cs s)
      ≡ line (line_from
      (site_columns (names_of strings) (names_of contigs) (shown_of t s) ++ chosen_columns cs (call_columns f.gt f.people (shown_of t s).formats)))
