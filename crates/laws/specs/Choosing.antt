-- Demand 3: choosing people obeys arithmetic. Each law is of any accepted record, a list of bytes as every slice is, and any choice that
-- ascends and is in range, but for what is answered to others; the chosen record is `chosen_record`, read under the header's facts for that number of
-- people. Rests on choose, choose_laws and the tally.
use Rattle.std.specs.Prelude.{ℕ, ◌+◌, ◌<◌, ◌≤◌, ◌≡◌, List, true, false, length, take, drop, Err, Ok}
use Rattle.words.specs.Words.{Bytes}
use Rattle.values.specs.Answers.{refusal}
use Rattle.values.specs.declared.Refusal.{Refusal}
use Rattle.facts.specs.declared.Facts.{Facts}
use Rattle.fixed.specs.declared.Site.{Site}
use Rattle.genotypes.specs.declared.Gt.{Gt}
use Rattle.record.specs.Reading.{reading, accepted_as}
use Rattle.fetch_laws.specs.InTurn.{Accepts}
use Rattle.contents.specs.Contents.{shown_of}
use Rattle.calls.specs.Totals.{together}
use Rattle.tally.specs.Tally.{tallied}
use Rattle.choice.specs.Choice.{ascending}
use Rattle.choose.specs.Chosen.{chosen_record}
use Rattle.choose.specs.Choose.{choosing, after_choosing}
use Rattle.choose_laws.specs.Bytes.{ChosenBytes}
use Rattle.choose_laws.specs.Releases.{for_people, released_site, released, everybody, composed}
use Rattle.choose_laws.specs.Divisions.{Division}

-- bytes that begin with a record that is accepted, and a choice of its people
pub record Choice (f : Facts) (s : List ℕ) (t : Site) (g : Gt) (cs : List ℕ) : Type 0 where
  pub bytes : Bytes s
  pub read : reading f s ≡ accepted_as t g
  pub ascends : ascending t.people cs ≡ true

-- two tallies are counted, and add up to a third, counter by counter: people, people without a genotype, missing alleles, the calls of each allele. All
-- three are of the same alleles
pub record AddUp (f : Facts) (s : List ℕ) (fa : Facts) (a : List ℕ) (fb : Facts) (b : List ℕ) : Type 0 where
  pub whole : Site
  pub first : Site
  pub second : Site
  pub people : whole.people ≡ first.people + second.people
  pub alleles_first : first.alleles ≡ whole.alleles
  pub alleles_second : second.alleles ≡ whole.alleles
  pub counted : (tallied f s).answer ≡ Ok whole
  pub counted_first : (tallied fa a).answer ≡ Ok first
  pub counted_second : (tallied fb b).answer ≡ Ok second
  pub sum : (tallied f s).calls ≡ together (tallied fa a).calls (tallied fb b).calls

pub record ChoosingPeople : Type 0 where
  -- the chosen record is accepted for that number of people, with the same fixed fields and counts but those that 01 names
  pub accepted : (f : Facts) (s : List ℕ) (t : Site) (g : Gt) (cs : List ℕ) → Choice f s t g cs
      → Accepts (for_people (length cs) f) (chosen_record t cs s) (released_site cs s t)
  -- it holds exactly their values: the site shows the same, each chosen person shows the same in each FORMAT field, and there is nothing else
  pub values : (f : Facts) (s : List ℕ) (t : Site) (g : Gt) (cs : List ℕ) → Choice f s t g cs
      → shown_of (released_site cs s t) (chosen_record t cs s) ≡ released cs (shown_of t s)
  -- choosing everybody gives the same bytes
  pub same : (f : Facts) (s : List ℕ) (t : Site) (g : Gt) → Bytes s → reading f s ≡ accepted_as t g
      → chosen_record t (everybody t.people) s ≡ take t.length s
  -- choosing from a choice is choosing once: the composed choice ascends and is in range, the bytes are the same, and so is the answer
  pub composes : (f : Facts) (s : List ℕ) (t : Site) (g : Gt) (cs ds : List ℕ) → Choice f s t g cs → ascending (length cs) ds ≡ true
      → Choice f s t g (composed cs ds)
  pub again : (f : Facts) (s : List ℕ) (t : Site) (g : Gt) (cs ds : List ℕ) → Choice f s t g cs → ascending (length cs) ds ≡ true
      → chosen_record (released_site cs s t) ds (chosen_record t cs s) ≡ chosen_record t (composed cs ds) s
  pub answers : (f : Facts) (s : List ℕ) (t : Site) (g : Gt) (cs ds : List ℕ) (room : ℕ) → Choice f s t g cs → ascending (length cs) ds ≡ true
      → choosing (for_people (length cs) f) ds room (chosen_record t cs s) ≡ choosing f (composed cs ds) room s
  -- with at most 64 alleles, for any division of the people the two tallies add up, counter by counter, to the whole record's
  pub tallies : (f : Facts) (s : List ℕ) (t : Site) (g : Gt) (cs ds : List ℕ) → Bytes s → reading f s ≡ accepted_as t g → t.alleles ≤ 64
      → Division t.people cs ds
      → AddUp f s (for_people (length cs) f) (chosen_record t cs s) (for_people (length ds) f) (chosen_record t ds s)
  -- its bytes: the site block is as it was but for the people count, and for an empty choice the FORMAT count; each FORMAT field has its key and
  -- descriptor as they stood, and the chosen people's bytes of its elements, at their width, in order; and no other list is that
  pub bytes : (f : Facts) (s : List ℕ) (t : Site) (g : Gt) (cs : List ℕ) → Choice f s t g cs → ChosenBytes t cs s (chosen_record t cs s)
  pub no_other : (t : Site) (cs s c c' : List ℕ) → ChosenBytes t cs s c → ChosenBytes t cs s c' → c ≡ c'
  -- what the function answers: reading's refusal; else 14 for a choice that does not ascend or is not in range; else 13 for a buffer that is too short;
  -- else the chosen length
  pub unread : (f : Facts) (s cs : List ℕ) (room : ℕ) (r : Refusal) → reading f s ≡ Err r → choosing f cs room s ≡ Err r
  pub wrong : (f : Facts) (s : List ℕ) (t : Site) (g : Gt) (cs : List ℕ) (room : ℕ) → reading f s ≡ accepted_as t g → ascending t.people cs ≡ false
      → choosing f cs room s ≡ Err (refusal 14 0)
  pub short : (f : Facts) (s : List ℕ) (t : Site) (g : Gt) (cs : List ℕ) (room : ℕ) → Choice f s t g cs → room < length (chosen_record t cs s)
      → choosing f cs room s ≡ Err (refusal 13 0)
  pub chosen : (f : Facts) (s : List ℕ) (t : Site) (g : Gt) (cs : List ℕ) (room : ℕ) → Choice f s t g cs → length (chosen_record t cs s) ≤ room
      → choosing f cs room s ≡ Ok (length (chosen_record t cs s))
  -- after the function, a buffer that has room begins with the chosen record, and its other bytes stay; on a refusal all do
  pub begins : (f : Facts) (s : List ℕ) (t : Site) (g : Gt) (cs buf : List ℕ) → Choice f s t g cs → length (chosen_record t cs s) ≤ length buf
      → take (length (chosen_record t cs s)) (after_choosing f cs buf s) ≡ chosen_record t cs s
  pub stays : (f : Facts) (s : List ℕ) (t : Site) (g : Gt) (cs buf : List ℕ) → Choice f s t g cs → length (chosen_record t cs s) ≤ length buf
      → drop (length (chosen_record t cs s)) (after_choosing f cs buf s) ≡ drop (length (chosen_record t cs s)) buf
  pub refused : (f : Facts) (s cs buf : List ℕ) (r : Refusal) → choosing f cs (length buf) s ≡ Err r → after_choosing f cs buf s ≡ buf
