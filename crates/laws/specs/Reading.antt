-- Demand 2, reading, for whoever knows 01 and no code: what is told of an accepted record are its own bytes, what it shows is what is fetched and keeps 01's
-- rules and no others, bytes after it make no difference, and its blocks are filled. `Bytes s` says that each number of the list is a byte. Rests on
-- reading, on what a record shows and is written as, and on record_laws.
use Rattle.std.specs.Prelude.{ℕ, ◌≤◌, ◌≡◌, List, ◌++◌, length, take}
use Rattle.words.specs.Words.{Bytes}
use Rattle.facts.specs.declared.Facts.{Facts}
use Rattle.fixed.specs.Layout.{most_bytes}
use Rattle.fixed.specs.declared.Site.{Site}
use Rattle.genotypes.specs.declared.Gt.{Gt}
use Rattle.record.specs.Reading.{reading, accepted_as}
use Rattle.fetch.specs.Fetch.{found}
use Rattle.fetch.specs.declared.Kind.{Kind}
use Rattle.shown.specs.Shown.{Shown}
use Rattle.shown.specs.Records.{record_bytes}
use Rattle.contents.specs.Contents.{shown_of}
use Rattle.contents.specs.Fetched.{ShownFetched}
use Rattle.keeps_laws.specs.Tightened.{Tightened}
use Rattle.record_laws.specs.Rules.{Rules}
use Rattle.record_laws.specs.Told.{own_length, Told, Filled}

pub record Readings : Type 0 where
  -- what reading tells are the bytes there: the record's length, each fixed field and each count by its place in the layout
  pub tells : (f : Facts) (s : List ℕ) (t : Site) (g : Gt) → reading f s ≡ accepted_as t g → Told f s t
  -- what an accepted record shows is what is fetched of it, field by field, and nothing else
  pub shows : (f : Facts) (s : List ℕ) (t : Site) (g : Gt) → reading f s ≡ accepted_as t g → ShownFetched f s t
  -- and it keeps each of 01's rules
  pub rules : (f : Facts) (s : List ℕ) (t : Site) (g : Gt) → Bytes s → reading f s ≡ accepted_as t g → Rules f (shown_of t s)
  -- and nothing besides is asked: whatever keeps them, and is written in at most 16,777,216 bytes, is accepted as it is written, and shows just that
  pub accepts : (f : Facts) (r : Shown) → Rules f r → length (record_bytes f.people r) ≤ most_bytes → Tightened f r
  -- bytes after the record belong to the next one: whatever follows its own 8 + l_shared + l_indiv bytes, and with nothing behind them, the answer is
  -- the same, refusals included
  pub after : (f : Facts) (s rest : List ℕ) → 8 ≤ length s → own_length s ≤ length s → reading f (take (own_length s) s ++ rest) ≡ reading f s
  pub alone : (f : Facts) (s : List ℕ) → 8 ≤ length s → own_length s ≤ length s → reading f (take (own_length s) s) ≡ reading f s
  -- and of an accepted record the same is found and shown
  pub found_after : (f : Facts) (s : List ℕ) (t : Site) (g : Gt) (rest : List ℕ) → reading f s ≡ accepted_as t g
      → (kind : Kind) (n : ℕ) → found f kind n (take t.length s ++ rest) ≡ found f kind n s
  pub shown_after : (f : Facts) (s : List ℕ) (t : Site) (g : Gt) (rest : List ℕ) → reading f s ≡ accepted_as t g
      → shown_of t (take t.length s ++ rest) ≡ shown_of t s
  -- the site block and the genotype block are each filled to their last byte
  pub filled : (f : Facts) (s : List ℕ) (t : Site) (g : Gt) → reading f s ≡ accepted_as t g → Filled s t
