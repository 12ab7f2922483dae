-- The tally of an accepted record with at most 64 alleles, `Bytes s` saying that each number of the list is a byte. GT's elements of each person are
-- `gt_people`; a slot is an element that is no end of vector, counted because it is none and not because it stands before one. Rests on the tally, on what
-- a code of GT says, and on tally_laws.
use Rattle.std.specs.Prelude.{ℕ, suc, ◌+◌, ◌<◌, ◌≤◌, ◌≡◌, List, map, length, get_or, Ok}
use Rattle.words.specs.Words.{Bytes}
use Rattle.facts.specs.declared.Facts.{Facts}
use Rattle.fixed.specs.declared.Site.{Site}
use Rattle.genotypes.specs.declared.Gt.{Gt}
use Rattle.record.specs.Reading.{reading, accepted_as}
use Rattle.calls.specs.Calls.{slots}
use Rattle.calls.specs.Totals.{total}
use Rattle.tally.specs.Tally.{tallied}
use Rattle.tally_laws.specs.Slots.{gt_people, slots_of, all_slots, is_some, count, slot_call, is_missing, is_allele}

pub record Tally (f : Facts) (s : List ℕ) (t : Site) (g : Gt) : Type 0 where
  -- it is counted, with the site that reading tells
  pub counted : (tallied f s).answer ≡ Ok t
  -- missing and called together are the GT slots that are no ends of vector
  pub slots : total (tallied f s).calls.counts ≡ length (all_slots g.code (gt_people g t.people s))
  -- people are those with a genotype, who have a slot, and those without
  pub people : count (λ p. is_some (slots_of g.code p)) (gt_people g t.people s) + (tallied f s).calls.without ≡ t.people
  -- missing alleles are the slots that say a missing one, and the calls of each allele the slots whose code says that allele
  pub missing : get_or (tallied f s).calls.counts 0 0 ≡ count (λ x. is_missing (slot_call g.code x)) (all_slots g.code (gt_people g t.people s))
  pub allele : (i : ℕ) → i < 64
      → get_or (tallied f s).calls.counts (suc i) 0 ≡ count (λ x. is_allele i (slot_call g.code x)) (all_slots g.code (gt_people g t.people s))

pub record Tallying : Type 0 where
  pub tallies : (f : Facts) (s : List ℕ) (t : Site) (g : Gt) → Bytes s → reading f s ≡ accepted_as t g → t.alleles ≤ 64 → Tally f s t g
  -- of an accepted record a person's elements before the first end of vector are those that are no ends of vector
  pub before : (f : Facts) (s : List ℕ) (t : Site) (g : Gt) → Bytes s → reading f s ≡ accepted_as t g
      → map (slots g.code) (gt_people g t.people s) ≡ map (slots_of g.code) (gt_people g t.people s)
