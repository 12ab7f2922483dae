-- The sample record with a bare 00 for FILTER, for its INFO value and for GT: read, fetched, walked over, tallied, chosen from and built again.
-- So the hypotheses of the laws of a bare 00 are met. Rests on the definitions of those and on specs/Sample.
use Rattle.std.specs.Prelude.{ℕ, ◌≡◌, List, [], ◌∷◌, ◌++◌, replicate, Ok, None}
use Rattle.fixed.specs.declared.Site.{Site}
use Rattle.genotypes.specs.Formats.{gt_at}
use Rattle.record.specs.Reading.{reading, accepted_as}
use Rattle.shown.specs.Shown.{Shown, integers}
use Rattle.fetch.specs.Fetch.{found, fetched}
use Rattle.fetch.specs.declared.Kind.TheVariants.{Filter, Info, Format}
use Rattle.contents.specs.Contents.{shown_of}
use Rattle.walker.specs.Walk.{pair_at, opened, found_pair}
use Rattle.tally.specs.Tally.{nobody, tallied}
use Rattle.choose.specs.Chosen.{chosen_record}
use Rattle.build_laws.specs.Builds.{Tight, Builds}
use Rattle.bare_laws.specs.Ones.{with_ones}
use Rattle.fetch.specs.Fields.{found_field}
use Rattle.laws.specs.Sample.{facts, sample_front, site_to, showing}

-- after the front: no ID, alleles G and A, then a value of no elements, by its descriptor, for FILTER, for INFO 2 and for GT
abbrev pub empty_fields : ℕ → List ℕ
empty_fields d = 0x07 ∷ 0x17 ∷ 0x47 ∷ 0x17 ∷ 0x41 ∷ d ∷ 0x11 ∷ 0x02 ∷ d ∷ 0x11 ∷ 0x03 ∷ d ∷ []

unfoldable pub bare_sample : List ℕ
bare_sample = sample_front 0x21 3 1 2 ++ empty_fields 0x00

unfoldable pub one_sample : List ℕ
one_sample = sample_front 0x21 3 1 2 ++ empty_fields 0x01

abbrev pub bare_site : Site
bare_site = site_to 41 44

-- no filter, no value of INFO 2, no genotypes
abbrev pub empty_shown : Shown
empty_shown =
    showing [] (record { key = 2; value = record { kind = integers; elements = [] } } ∷ [])
    (record { key = 3; len = 0; value = record { kind = integers; elements = [] } } ∷ [])

pub record BareSample : Type 0 where
  -- GT is of type 0 and length 0, at its own place
  pub read : reading facts bare_sample ≡ accepted_as bare_site (gt_at 0 0 44)
  pub shows : shown_of bare_site bare_sample ≡ empty_shown
  -- key, type, length, place and end
  pub filter : found facts Filter 0 bare_sample ≡ found_field 0 0 0 38 38
  pub info : found facts Info 0 bare_sample ≡ found_field 2 0 0 41 41
  pub format : found facts Format 0 bare_sample ≡ found_field 3 0 0 44 44
  pub no_bytes : fetched facts Info 0 bare_sample ≡ []
  -- the walker yields the one pair, and then the end
  pub first : opened facts bare_sample ≡ Ok 38
  pub pair : pair_at bare_sample 38 ≡ found_pair 2 0 0 41 41
  pub end : pair_at bare_sample 41 ≡ None
  pub tally : tallied facts bare_sample ≡ record { answer = Ok bare_site; calls = nobody 2 }
  -- the record of the second person keeps each 00
  pub chosen : chosen_record bare_site (1 ∷ []) bare_sample ≡ sample_front 0x21 3 1 1 ++ empty_fields 0x00
  -- with 01 in place of each it is tight, and building again from what it shows gives just that
  pub ones : with_ones bare_site bare_sample ≡ one_sample
  pub tight : Tight facts (with_ones bare_site bare_sample)
  pub again : Builds facts (shown_of bare_site bare_sample) (replicate 44 0) one_sample
