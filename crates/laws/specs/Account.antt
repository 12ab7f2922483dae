-- One account of what a record holds: `account t s`, the list of its fields. Reading judges them in turn, fetching takes one by its number, the walker the
-- next, GT is the one with GT's key, and what a record shows is a map over it; so whoever reads "shown" on the pages of demands 2 and 3 may read
-- "fetched". Rests on fetch, the walker, contents and fetch_laws, and on build_laws for how large an element of a kind is.
use Rattle.std.specs.Prelude.{ℕ, ◌≡◌, ◌≢◌, List, [], ◌++◌, map, replicate, Ok}
use Rattle.fixed.specs.Fixed.{fixed}
use Rattle.facts.specs.declared.Facts.{Facts}
use Rattle.fixed.specs.declared.Site.{Site}
use Rattle.site.specs.Site.{site}
use Rattle.site.specs.Steps.{then, ended}
use Rattle.genotypes.specs.Formats.{formats, gt_at, no_gt}
use Rattle.genotypes.specs.declared.Gt.{Gt}
use Rattle.record.specs.Reading.{reading, accepted_as}
use Rattle.fetch.specs.Account.{Entry, fields_of, site_kinds, account, of_kind, numbered}
use Rattle.fetch.specs.Fetch.{field_of, found}
use Rattle.fetch.specs.declared.Kind.{Kind}
use Rattle.fetch.specs.declared.Kind.TheVariants.{Info, Format}
use Rattle.fetch_laws.specs.InTurn.{judging, in_turn, InTurn, Accepts, gt_in, formats_in_turn, with_gt}
use Rattle.walker.specs.Walk.{as_pair, pair_at, opened, walked_to}
use Rattle.shown.specs.Shown.{kind_of}
use Rattle.contents.specs.Fetched.{shown_at, ShownFetched}
use Rattle.fetch.specs.Fields.{found_field}
use Rattle.build_laws.specs.Records.{Fit}

pub record Accounts : Type 0 where
  -- of an accepted record every part is there: ID, as many alleles as it says, FILTER, as many INFO pairs, as many FORMAT fields
  pub there : (f : Facts) (s : List ℕ) (t : Site) (g : Gt) → reading f s ≡ accepted_as t g
      → map (λ (e : Entry). e.kind) (account t s) ≡ site_kinds t.alleles t.infos ++ replicate t.formats Format
  -- acceptance is the judgement of each in turn, to the last byte of its block, and no FORMAT key twice
  pub judged : (f : Facts) (s : List ℕ) (t : Site) (g : Gt) → reading f s ≡ accepted_as t g → InTurn f t s
  pub accepted : (f : Facts) (s : List ℕ) (t : Site) → fixed f s ≡ Ok t → InTurn f t s → Accepts f s t
  -- and a block's refusal is that of the first field that is refused, or of the first byte over
  pub site_block : (f : Facts) (t : Site) (at : ℕ) (l : List ℕ)
      → site f.strings t.alleles t.infos at l ≡ then at l (in_turn (judging f t) (site_kinds t.alleles t.infos) at l) ended
  pub genotype_block : (f : Facts) (t : Site) (n at : ℕ) (l : List ℕ)
      → formats f.strings f.people f.gt t.alleles n [] no_gt at l
      ≡ with_gt (gt_in f.gt (fields_of f.people (replicate n Format) at l)) (then at l (formats_in_turn f t n [] at l) ended)
  -- fetching is its number-th of a kind, for every number, and without reading again the same
  pub fetched : (f : Facts) (s : List ℕ) (t : Site) (g : Gt) (kind : Kind) (n : ℕ) → reading f s ≡ accepted_as t g
      → found f kind n s ≡ numbered n (of_kind kind (account t s))
  pub again : (f : Facts) (s : List ℕ) (t : Site) (g : Gt) (kind : Kind) (n : ℕ) → reading f s ≡ accepted_as t g → field_of kind n t s ≡ found f kind n s
  -- the walker is its next: the n-th pair that a walk yields from where it opens is its n-th INFO pair, for every n, and then the end
  pub walked : (f : Facts) (s : List ℕ) (t : Site) (g : Gt) (q n : ℕ) → reading f s ≡ accepted_as t g → opened f s ≡ Ok q
      → pair_at s (walked_to s n q) ≡ as_pair (numbered n (of_kind Info (account t s)))
  -- GT is its field with GT's key: whatever FORMAT field is fetched with that key is the one that reading told; where none is, there is no GT
  pub gt : (f : Facts) (s : List ℕ) (t : Site) (g : Gt) → reading f s ≡ accepted_as t g → g ≡ gt_in f.gt (of_kind Format (account t s))
  pub gt_fetched : (f : Facts) (s : List ℕ) (t : Site) (g : Gt) → reading f s ≡ accepted_as t g → (n code len place stop : ℕ)
      → found f Format n s ≡ found_field f.gt code len place stop → g ≡ gt_at code len place
  pub gt_none : (f : Facts) (s : List ℕ) (t : Site) (g : Gt) → reading f s ≡ accepted_as t g
      → ((n code len place stop : ℕ) → found f Format n s ≢ found_field f.gt code len place stop) → g ≡ no_gt
  -- what a record shows is what is fetched of it: keys, lengths and elements of every kind and number, and as many as the counts say
  pub shown : (f : Facts) (s : List ℕ) (t : Site) (g : Gt) → reading f s ≡ accepted_as t g → ShownFetched f s t
  -- and elements that are answered the same at every index are the same elements, where each is as large as its kind has them (`keeps` of Tightening:
  -- those of an accepted record are)
  pub elements : (t : ℕ) (xs ys : List ℕ) → Fit (kind_of t) xs → Fit (kind_of t) ys → ((i : ℕ) → shown_at t xs i ≡ shown_at t ys i) → xs ≡ ys
