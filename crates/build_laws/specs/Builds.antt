-- Finished builds: what they read back as, tight records, and building again what a record shows. Rests on specs/Runs and on reading.
use Rattle.std.specs.Prelude.{ℕ, ◌≡◌, List, take}
use Rattle.facts.specs.declared.Facts.{Facts}
use Rattle.fixed.specs.declared.Site.{Site}
use Rattle.genotypes.specs.declared.Gt.{Gt}
use Rattle.record.specs.Reading.{reading, accepted_as}
use Rattle.shown.specs.Shown.{Shown}
use Rattle.contents.specs.Contents.{shown_of}
use Rattle.build_laws.specs.Records.{All}
use Rattle.build_laws.specs.Runs.{Turn, turns_of, gives, FitTurn, Finished}

-- the bytes that a finished build wrote
abbrev pub wrote : {f : Facts} {xs : List Turn} {buf : List ℕ} → Finished f xs buf → List ℕ
wrote b = take b.last.at b.out

-- a buffer reads back as what was given: it is accepted under the same facts, as long as the state says, and shows the values of the turns
pub record ReadsBack (f : Facts) (xs : List Turn) (out : List ℕ) (length : ℕ) : Type 0 where
  pub site : Site
  pub gt : Gt
  pub read : reading f out ≡ accepted_as site gt
  pub whole : site.length ≡ length
  pub people : site.people ≡ f.people
  pub shows : shown_of site out ≡ gives xs

-- a tight record is what some finished build wrote
pub record Tight (f : Facts) (s : List ℕ) : Type 0 where
  pub turns : List Turn
  pub buf : List ℕ
  pub finished : Finished f turns buf
  pub fit : All FitTurn turns
  pub bytes : s ≡ wrote finished

-- a build of what a record shows writes so many bytes
pub record Builds (f : Facts) (r : Shown) (buf s : List ℕ) : Type 0 where
  pub finished : Finished f (turns_of r) buf
  pub same : wrote finished ≡ s
