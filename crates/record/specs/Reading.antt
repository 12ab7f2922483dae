-- Reading a record: its front, then its site block, then its genotype block, each to its last byte.
-- Rests on the definitions of fixed, site and genotypes.
use Rattle.std.specs.Prelude.{ℕ, ◌≤◌, List, [], ◌++◌, take, drop, Ok, Err}
use Rattle.values.specs.Answers.{Says, refuses, holds, Answer}
use Rattle.fixed.specs.Layout.{id_at, most_bytes}
use Rattle.fixed.specs.Fixed.{site_values, fixed}
use Rattle.facts.specs.declared.Facts.{Facts}
use Rattle.fixed.specs.declared.Site.{Site}
use Rattle.site.specs.Site.{site}
use Rattle.record.specs.declared.Reading.{Reading}
use Rattle.genotypes.specs.declared.Gt.{Gt}
use Rattle.genotypes.specs.Formats.{no_gt, gt_values, formats}

-- a record that is accepted, with its site and where GT stands
abbrev pub accepted_as : Site → Gt → Answer Reading
accepted_as t g = Ok (record { site = t; gt = g })

-- 01's number and values for each case: the refusal; or the length, the fixed fields and the counts, and where GT stands
abbrev pub reading_says : Answer Reading → Says
reading_says (Err r) = refuses r
reading_says (Ok a) = holds (site_values a.site ++ gt_values a.gt)

-- the site block: the record up to the border, from ID on
unfoldable pub site_of : Facts → Site → List ℕ → Answer ℕ
site_of f t s = site f.strings t.alleles t.infos id_at (drop id_at (take t.border s))

-- the genotype block: the record up to its length, from the border on
unfoldable pub genotypes_of : Facts → Site → List ℕ → Answer Gt
genotypes_of f t s =
    formats f.strings f.people f.gt t.alleles t.formats [] no_gt t.border (drop t.border (take t.length s))

abbrev pub after_genotypes : Site → Answer Gt → Answer Reading
after_genotypes t (Err r) = Err r
after_genotypes t (Ok g) = accepted_as t g

abbrev pub after_site : Facts → Site → List ℕ → Answer ℕ → Answer Reading
after_site f t s (Err r) = Err r
after_site f t s (Ok q) = after_genotypes t (genotypes_of f t s)

abbrev pub after_fixed : Facts → List ℕ → Answer Site → Answer Reading
after_fixed f s (Err r) = Err r
after_fixed f s (Ok t) = after_site f t s (site_of f t s)

-- the record at the front of a list, under the header's facts
unfoldable pub reading : Facts → List ℕ → Answer Reading
reading f s = after_fixed f s (fixed f s)

-- an accepted record lies in the slice
abbrev pub ReadingInside : ℕ → Answer Reading → Type 0
ReadingInside end (Err r) = Unit {0}
ReadingInside end (Ok a) = (id_at ≤ a.site.border) × (a.site.border ≤ a.site.length) × (a.site.length ≤ end) × (a.site.length ≤ most_bytes)
