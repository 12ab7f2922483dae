-- What a record shows, written as narrowly as it can be, and read again. Rests on build_laws' bytes of a record, on reading and on what a
-- record shows.
use Rattle.std.specs.Prelude.{◌≡◌, length}
use Rattle.facts.specs.declared.Facts.{Facts}
use Rattle.fixed.specs.declared.Site.{Site}
use Rattle.genotypes.specs.declared.Gt.{Gt}
use Rattle.record.specs.Reading.{reading, accepted_as}
use Rattle.shown.specs.Shown.{Shown}
use Rattle.contents.specs.Contents.{shown_of}
use Rattle.shown.specs.Records.{record_bytes}

-- the record of what is shown is accepted to its last byte, is of as many people as are given, and shows the same
pub record Tightened (f : Facts) (r : Shown) : Type 0 where
  pub site : Site
  pub gt : Gt
  pub read : reading f (record_bytes f.people r) ≡ accepted_as site gt
  pub whole : site.length ≡ length (record_bytes f.people r)
  pub people : site.people ≡ f.people
  pub shows : shown_of site (record_bytes f.people r) ≡ r
