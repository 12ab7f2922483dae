-- A bare 00: where it stands and where it is refused, what is told of it, and what building again makes of it. `with_ones t s` is the record s
-- with 01 in place of each bare 00, every other byte as it is. The laws of choosing and of building, on their own pages, are of every
-- accepted record, so of those with a bare 00 too. Rests on values, fetching, the walker, the tally, build_laws and bare_laws.
use Rattle.std.specs.Prelude.{ℕ, ◌+◌, ◌*◌, ◌<◌, ◌≤◌, ◌≡◌, List, [], ◌∷◌, true, length, get_or, Ok}
use Rattle.types.specs.declared.Use.{Use}
use Rattle.types.specs.declared.Use.TheVariants.{Id, Allele, Filter, Info, Format, Gt as GtUse}
use Rattle.values.specs.Answers.{no_integer, no_descriptor, typed}
use Rattle.values.specs.Values.{true_length, keyed, described}
use Rattle.facts.specs.declared.Facts.{Facts}
use Rattle.fixed.specs.declared.Site.{Site}
use Rattle.genotypes.specs.declared.Gt.{Gt}
use Rattle.record.specs.Reading.{reading, accepted_as}
use Rattle.fetch.specs.Fetch.{found, fetched}
use Rattle.fetch.specs.declared.Kind.{Kind}
use Rattle.contents.specs.Contents.{shown_of}
use Rattle.walker.specs.Walk.{pair_at, found_pair}
use Rattle.tally.specs.Tally.{nobody, tallied}
use Rattle.build_laws.specs.Builds.{Tight, Builds}
use Rattle.bare_laws.specs.Empty.{Empty}
use Rattle.bare_laws.specs.Ones.{same_or_one, with_ones}
use Rattle.fetch.specs.Fields.{found_field}
use Rattle.fetch_laws.specs.InTurn.{Accepts}

pub record Bare : Type 0 where
  -- 00 where a FILTER, INFO or FORMAT value stands, GT included: type 0, length 0, and the place just after it
  pub filter : (at : ℕ) (rest : List ℕ) → described Filter at (0x00 ∷ rest) ≡ typed 0 0 (at + 1)
  pub info : (at : ℕ) (rest : List ℕ) → described Info at (0x00 ∷ rest) ≡ typed 0 0 (at + 1)
  pub format : (at : ℕ) (rest : List ℕ) → described Format at (0x00 ∷ rest) ≡ typed 0 0 (at + 1)
  pub gt : (at : ℕ) (rest : List ℕ) → described GtUse at (0x00 ∷ rest) ≡ typed 0 0 (at + 1)
  -- 00 for an ID or an allele: 6 at its place
  pub id : (at : ℕ) (rest : List ℕ) → described Id at (0x00 ∷ rest) ≡ no_descriptor 6 at
  pub allele : (at : ℕ) (rest : List ℕ) → described Allele at (0x00 ∷ rest) ≡ no_descriptor 6 at
  -- 10 to F0, low half 0 with another length than 0: 6 at its place, whatever stands there
  pub lengths : (role : Use) (n at : ℕ) (rest : List ℕ) → 0 < n → described role at (n * 16 ∷ rest) ≡ no_descriptor 6 at
  -- 00 to F0 for a key or a true length: 6 at its place
  pub key : (strings n at : ℕ) (rest : List ℕ) → keyed strings at (n * 16 ∷ rest) ≡ no_integer 6 at
  pub true_length_lem : (n at : ℕ) (rest : List ℕ) → true_length at (n * 16 ∷ rest) ≡ no_integer 6 at
  -- what is fetched, or yielded by a walker, with type 0 is a bare 00: length 0, the place just after a byte 00, and no bytes
  pub fetches : (f : Facts) (kind : Kind) (number : ℕ) (s : List ℕ) (key n place stop : ℕ) → found f kind number s ≡ found_field key 0 n place stop
      → Empty s n place stop × (fetched f kind number s ≡ [])
  pub walks : (s : List ℕ) (at key n place next : ℕ) → pair_at s at ≡ found_pair key 0 n place next → Empty s n place next
  -- with a GT of type 0, as with none, everybody is without a genotype
  pub without : (f : Facts) (s : List ℕ) (t : Site) (g : Gt) → reading f s ≡ accepted_as t g → g.code ≡ 0 → t.alleles ≤ 64
      → tallied f s ≡ record { answer = Ok t; calls = nobody t.people }
  -- `with_ones` moves no other byte, and leaves no bare 00: each byte is the one that stood there, or 01 for 00, and nothing is fetched with type 0
  pub bytes : (f : Facts) (s : List ℕ) (t : Site) (g : Gt) → reading f s ≡ accepted_as t g
      → (i : ℕ) → same_or_one (get_or s i 0) (get_or (with_ones t s) i 0) ≡ true
  pub none_left : (f : Facts) (s : List ℕ) (t : Site) (g : Gt) → reading f s ≡ accepted_as t g
      → (kind : Kind) (number key code n place stop : ℕ) → found f kind number (with_ones t s) ≡ found_field key code n place stop → 0 < code
  -- with 01 in place of each bare 00 a record is accepted with the same site, is as long, and shows the same
  pub accepted : (f : Facts) (s : List ℕ) (t : Site) (g : Gt) → reading f s ≡ accepted_as t g → Accepts f (with_ones t s) t
  pub as_long : (f : Facts) (s : List ℕ) (t : Site) (g : Gt) → reading f s ≡ accepted_as t g → length (with_ones t s) ≡ length s
  pub shows : (f : Facts) (s : List ℕ) (t : Site) (g : Gt) → reading f s ≡ accepted_as t g → shown_of t (with_ones t s) ≡ shown_of t s
  -- so a record that is tight but for its bare 00, built again from what reading shows of it, has 01 in place of each
  pub again : (f : Facts) (s buf : List ℕ) (t : Site) (g : Gt) → reading f s ≡ accepted_as t g → Tight f (with_ones t s) → length s ≤ length buf
      → Builds f (shown_of t s) buf (with_ones t s)
  -- and a tight record has no bare 00: nothing in it is fetched with type 0, and `with_ones` is the record itself
  pub tight_none : (f : Facts) (s : List ℕ) → Tight f s
      → (kind : Kind) (number key code n place stop : ℕ) → found f kind number s ≡ found_field key code n place stop → 0 < code
  pub tight : (f : Facts) (s : List ℕ) (t : Site) (g : Gt) → Tight f s → reading f s ≡ accepted_as t g → with_ones t s ≡ s
