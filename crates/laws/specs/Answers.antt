-- Promises fix answers. The promise of every public function is an equation, between what it answers, or what a lent buffer holds
-- afterwards, and a definition of what it was given; so two answers that meet it are equal. `tools/promises` reads every public contract and fails the
-- gate where it is not of one of the shapes below. And what is told to other languages in numbers can be read from them, so that a record that was read
-- once is fetched from without reading it again. Rests on c_answers and c_state for what is told.
use Rattle.std.specs.Prelude.{ℕ, ◌/◌, ◌%◌, ◌<◌, ◌≡◌, List, ◌++◌, length, Err, None, Ok}
use Rattle.std.specs.Borrow.{Bor}
use Rattle.std.specs.Int.{w32}
use Rattle.std.proofs.Common.{SFits}
use Rattle.words.specs.Words.{Bytes}
use Rattle.values.specs.Answers.{refusal, refuses, refusal_in}
use Rattle.values.specs.declared.Refusal.{Refusal}
use Rattle.facts.specs.declared.Facts.{Facts}
use Rattle.fixed.specs.declared.Site.{Site}
use Rattle.genotypes.specs.declared.Gt.{Gt}
use Rattle.record.specs.Reading.{reading_says, reading, accepted_as}
use Rattle.fetch.specs.Fields.{found_says, found_field}
use Rattle.fetch.specs.Fetch.{field_of, found}
use Rattle.fetch.specs.declared.Kind.{Kind}
use Rattle.walker.specs.Walk.{pair_says, found_pair}
use Rattle.calls.specs.declared.Calls.{Calls}
use Rattle.tally.specs.Tally.{counting_says}
use Rattle.build.specs.Turns.{fresh_state}
use Rattle.build.specs.declared.Builder.{Builder}
use Rattle.c_answers.specs.Told.{answer, refused_answer, pair_answer, site_numbers, field_numbers, tally_numbers, site_told}
use Rattle.c_state.specs.Kept.{state_numbers, state_of}

-- the fields of a builder are in their ranges, as they are in every state that code holds
pub record Ranges (st : Builder) : Type 0 where
  pub alleles : st.alleles < 65536
  pub infos : st.infos < 65536
  pub formats : st.formats < 256
  pub keys : length st.keys ≡ 256

-- so are those of a site; its length and border are whatever they are
pub record SiteRanges (t : Site) : Type 0 where
  pub chrom : t.chrom < 4294967296
  pub pos : SFits w32 t.pos.0
  pub rlen : t.rlen < 4294967296
  pub qual : t.qual < 4294967296
  pub alleles : t.alleles < 65536
  pub infos : t.infos < 65536
  pub formats : t.formats < 256
  pub people : t.people < 4294967296

pub record Answers : Type 1 where
  -- two answers that meet a promise are equal, of whatever kind: a number, an enum, a struct, a list of bytes
  pub one : {A : Type 0} (promised first second : A) → first ≡ promised → second ≡ promised → first ≡ second
  -- so are an answer and a buffer together, each promised by its own equation; and an answer with two lent buffers, or with a state and a buffer
  pub both : {A B : Type 0} (promised : A × B) (first second : A × B) → (first.0 ≡ promised.0) × (first.1 ≡ promised.1)
      → (second.0 ≡ promised.0) × (second.1 ≡ promised.1) → first ≡ second
  pub three : {A B C : Type 0} (a a' a'' : A) (b b' b'' : B) (c c' c'' : C) → (a' ≡ a) × (b' ≡ b) × (c' ≡ c) → (a'' ≡ a) × (b'' ≡ b) × (c'' ≡ c)
      → (a' ≡ a'') × (b' ≡ b'') × (c' ≡ c'')
  -- a part that is returned is the same bytes at the same place; its ghost name, which is new for each call and no part of the machine's value, is not
  -- promised
  pub part : (first second : Bor (List ℕ)) (contents : List ℕ) (place : ℕ × ℕ) → (first.now ≡ contents) × (first.ref_ptr ≡ place)
      → (second.now ≡ contents) × (second.ref_ptr ≡ place) → (first.now ≡ second.now) × (first.ref_ptr ≡ second.ref_ptr)
  -- an answer in one number tells its number, and its place or length where that is below 2^32
  pub number : (n low : ℕ) → answer n low / 4294967296 ≡ n
  pub low : (n low : ℕ) → low < 4294967296 → answer n low % 4294967296 ≡ low
  -- what is told in numbers is what the answer says: of a refusal its number and place, else the values that it holds; at a walk's end 16
  pub refusal_said : (r : Refusal) → refused_answer r ≡ answer (refuses r).number (refuses r).place
  pub end_said : (room : ℕ) → pair_answer room None ≡ refused_answer (refusal_in (pair_says None))
  pub reading_said : (t : Site) (g : Gt) → site_numbers t g ≡ (reading_says (accepted_as t g)).values
  pub field_said : (key t n place stop : ℕ) → field_numbers key t n place stop ≡ (found_says (found_field key t n place stop)).values
  pub pair_said : (key t n place next : ℕ) → field_numbers key t n place next ≡ (pair_says (found_pair key t n place next)).values
  pub tally_said : (t : Site) (k : Calls) → tally_numbers t k ≡ (counting_says k (Ok t)).values
  -- the numbers of a state hold that state, whatever stands behind them; a fresh one is in its ranges
  pub fresh : Ranges fresh_state
  pub state : (st : Builder) (rest : List ℕ) → Ranges st → state_of (state_numbers st ++ rest) ≡ st
  -- the numbers that reading tells hold its site, whatever stands behind them; an accepted record's is in its ranges
  pub site : (t : Site) (g : Gt) (rest : List ℕ) → SiteRanges t → site_told (site_numbers t g ++ rest) ≡ t
  pub ranges : (f : Facts) (s : List ℕ) (t : Site) (g : Gt) → Bytes s → reading f s ≡ accepted_as t g → SiteRanges t
  -- so by those numbers a record gives the fields that fetching gives
  pub again : (f : Facts) (s : List ℕ) (t : Site) (g : Gt) (rest : List ℕ) (kind : Kind) (number : ℕ) → Bytes s
      → reading f s ≡ accepted_as t g → field_of kind number (site_told (site_numbers t g ++ rest)) s ≡ found f kind number s
  -- in fewer than 13 numbers there is no field, not even ID or FILTER
  pub few : (ns s : List ℕ) (kind : Kind) (number : ℕ) → length ns < 13
      → field_of kind number (site_told ns) s ≡ Err (refusal 16 0)
