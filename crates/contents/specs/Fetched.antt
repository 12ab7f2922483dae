-- What an accepted record shows is what a caller gets of it, field by field: what `find` answers, what `fetch` lends, and what `element_at`
-- says of each element there. Rests on what a record shows, on fetching and on elements.
use Rattle.std.specs.Prelude.{Option, None, Some, ℕ, zero, suc, ◌*◌, ◌<◌, ◌≤◌, ◌≡◌, List, [], ◌∷◌, length, get_or, Err}
use Rattle.values.specs.Answers.{refusal}
use Rattle.facts.specs.declared.Facts.{Facts}
use Rattle.positions.specs.Positions.{pos_bits}
use Rattle.fixed.specs.declared.Site.{Site}
use Rattle.shown.specs.Shown.{integers, Pair, Field, kind_of}
use Rattle.fetch.specs.Account.{count_of}
use Rattle.fetch.specs.Fetch.{found, fetched}
use Rattle.fetch.specs.declared.Kind.{Kind}
use Rattle.fetch.specs.declared.Kind.TheVariants.{Id, Allele, Filter, Info, Format}
use Rattle.elements.specs.Elements.{shown_by, element_at}
use Rattle.elements.specs.declared.Shown.{Shown}
use Rattle.fetch.specs.Fields.{found_field}
use Rattle.contents.specs.Contents.{shown_of}

-- the element of a list at an index, as `element_at` answers it of a part of this type: what its 32 bits say, an integer's as the signed number that
-- they are; none past the last one
abbrev pub shown_at : ℕ → List ℕ → ℕ → Option Shown
shown_at t [] i = None
shown_at t (x ∷ xs) zero = Some (shown_by t x)
shown_at t (x ∷ xs) (suc i) = shown_at t xs i

-- the field of a kind and a number is found, and not refused, with this key, type and length; the elements of the part that is fetched, each shown
-- by that type, are these at every index; and they are so many vectors of that length
pub record Gives (f : Facts) (s : List ℕ) (kind : Kind) (number vectors key code len : ℕ) (xs : List ℕ) : Type 0 where
  pub place : ℕ
  pub stop : ℕ
  pub there : found f kind number s ≡ found_field key code len place stop
  pub shows : (i : ℕ) → element_at code i (fetched f kind number s) ≡ shown_at code xs i
  pub count : length xs ≡ vectors * len

-- ID or an allele: text, with no key; so it is the bytes that are fetched
pub record GivesText (f : Facts) (s : List ℕ) (kind : Kind) (number : ℕ) (xs : List ℕ) : Type 0 where
  pub len : ℕ
  pub given : Gives f s kind number 1 0 7 len xs
  pub bytes : xs ≡ fetched f kind number s

-- FILTER: integers, with no key
pub record GivesFilter (f : Facts) (s : List ℕ) (xs : List ℕ) : Type 0 where
  pub code : ℕ
  pub len : ℕ
  pub given : Gives f s Filter 0 1 0 code len xs
  pub kind : integers ≡ kind_of code

-- an INFO pair: its key, and the kind of its type
pub record GivesPair (f : Facts) (s : List ℕ) (number : ℕ) (x : Pair) : Type 0 where
  pub code : ℕ
  pub len : ℕ
  pub given : Gives f s Info number 1 x.key code len x.value.elements
  pub kind : x.value.kind ≡ kind_of code

-- a FORMAT field: its key, its length for each person, all people's elements, and the kind of its type
pub record GivesField (f : Facts) (s : List ℕ) (number people : ℕ) (x : Field) : Type 0 where
  pub code : ℕ
  pub given : Gives f s Format number people x.key code x.len x.value.elements
  pub kind : x.value.kind ≡ kind_of code

-- what a record shows, whose site is t: all that can be fetched of it, and nothing else; `get_or xs i d` is what stands at i of a list that is longer
-- than i, whatever d is
pub record ShownFetched (f : Facts) (s : List ℕ) (t : Site) : Type 0 where
  pub chrom : (shown_of t s).chrom ≡ t.chrom
  pub pos : (shown_of t s).pos ≡ pos_bits t.pos
  pub rlen : (shown_of t s).rlen ≡ t.rlen
  pub qual : (shown_of t s).qual ≡ t.qual
  pub id : GivesText f s Id 0 (shown_of t s).id
  pub alleles : length (shown_of t s).alleles ≡ t.alleles
  pub allele : (i : ℕ) (d : List ℕ) → i < t.alleles → GivesText f s Allele i (get_or (shown_of t s).alleles i d)
  pub filters : GivesFilter f s (shown_of t s).filters
  pub infos : length (shown_of t s).infos ≡ t.infos
  pub info : (i : ℕ) (d : Pair) → i < t.infos → GivesPair f s i (get_or (shown_of t s).infos i d)
  pub formats : length (shown_of t s).formats ≡ t.formats
  pub format : (i : ℕ) (d : Field) → i < t.formats → GivesField f s i t.people (get_or (shown_of t s).formats i d)
  -- a number that is no field's is refused with 16
  pub no_more : (kind : Kind) (i : ℕ) → count_of kind t ≤ i → found f kind i s ≡ Err (refusal 16 0)
