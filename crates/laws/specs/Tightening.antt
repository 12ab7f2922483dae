-- Tightening: any accepted record, built again from what reading shows of it. `Keeps` are the rules of a record, `record_bytes` its bytes, and `Tight`
-- is a record that some build wrote; `Bytes s` says that each number of the list is a byte. Rests on reading, build_laws and keeps_laws.
use Rattle.std.specs.Prelude.{ℕ, ◌≤◌, ◌≡◌, List, length}
use Rattle.words.specs.Words.{Bytes}
use Rattle.facts.specs.declared.Facts.{Facts}
use Rattle.fixed.specs.declared.Site.{Site}
use Rattle.genotypes.specs.declared.Gt.{Gt}
use Rattle.record.specs.Reading.{reading, accepted_as}
use Rattle.contents.specs.Contents.{shown_of}
use Rattle.build_laws.specs.Records.{Keeps}
use Rattle.shown.specs.Records.{record_bytes}
use Rattle.build_laws.specs.Builds.{Tight, Builds}
use Rattle.keeps_laws.specs.Tightened.{Tightened}

pub record Tightening : Type 0 where
  -- what an accepted record shows keeps the rules of a record, and is written in no more bytes than the record has
  pub keeps : (f : Facts) (s : List ℕ) (t : Site) (g : Gt) → Bytes s → reading f s ≡ accepted_as t g → Keeps f (shown_of t s)
  pub no_longer : (f : Facts) (s : List ℕ) (t : Site) (g : Gt) → Bytes s → reading f s ≡ accepted_as t g
      → length (record_bytes f.people (shown_of t s)) ≤ t.length
  -- so every accepted record builds again, over any buffer as long as the record
  pub builds : (f : Facts) (s buf : List ℕ) (t : Site) (g : Gt) → Bytes s → reading f s ≡ accepted_as t g → t.length ≤ length buf
      → Builds f (shown_of t s) buf (record_bytes f.people (shown_of t s))
  -- to a tight record, which is accepted to its last byte under the same facts and shows the same
  pub tight : (f : Facts) (s : List ℕ) (t : Site) (g : Gt) → Bytes s → reading f s ≡ accepted_as t g → Tight f (record_bytes f.people (shown_of t s))
  pub reads : (f : Facts) (s : List ℕ) (t : Site) (g : Gt) → Bytes s → reading f s ≡ accepted_as t g → Tightened f (shown_of t s)
  -- a tight record is built again to itself, and no accepted record that shows the same is shorter
  pub same : (f : Facts) (s : List ℕ) (t : Site) (g : Gt) → Tight f s → reading f s ≡ accepted_as t g → record_bytes f.people (shown_of t s) ≡ s
  pub shortest : (f : Facts) (s s' : List ℕ) (t t' : Site) (g g' : Gt) → Bytes s → reading f s ≡ accepted_as t g → Tight f s'
      → reading f s' ≡ accepted_as t' g' → shown_of t s ≡ shown_of t' s' → length s' ≤ t.length
