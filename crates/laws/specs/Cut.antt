-- What is chosen of 01's sample record: its second person, nobody, everybody, and what is refused. Rests on choose's definitions.
use Rattle.std.specs.Prelude.{◌≡◌, List, [], ◌∷◌, ◌++◌, ℕ, replicate, Ok, Err}
use Rattle.values.specs.Answers.{refusal}
use Rattle.fetch.specs.Fetch.{fetched}
use Rattle.fetch.specs.declared.Kind.TheVariants.{Format}
use Rattle.tally.specs.Tally.{tallied}
use Rattle.choose.specs.Chosen.{chosen_record}
use Rattle.choose.specs.Choose.{choosing}
use Rattle.choose_laws.specs.Releases.{for_people, released_site}
use Rattle.choose_laws.specs.Divisions.{Division}
use Rattle.laws.specs.Sample.{facts, sample_front, sample_fields, sample, sample_site}

-- the record of the second person, whose number is 1
unfoldable pub second : List ℕ
second = chosen_record sample_site (1 ∷ []) sample

pub record Cut : Type 0 where
  -- l_indiv is 5, there is one person, and GT is `04 81`; all other bytes stand as they did
  pub bytes : second ≡ sample_front 0x23 5 1 1 ++ (sample_fields ++ (0x11 ∷ 0x03 ∷ 0x21 ∷ 0x04 ∷ 0x81 ∷ []))
  pub gt : fetched (for_people 1 facts) Format 0 second ≡ 0x04 ∷ 0x81 ∷ []
  -- no call of allele 0 and one of allele 1
  pub tally : tallied (for_people 1 facts) second
      ≡ record { answer = Ok (released_site (1 ∷ []) sample sample_site); calls = record { without = 0; counts = 0 ∷ 0 ∷ 1 ∷ replicate 62 0 } }
  -- the two people are a division; everybody: the same bytes; nobody: l_indiv 0, no FORMAT field, no people
  pub divided : Division 2 (0 ∷ []) (1 ∷ [])
  pub everybody : chosen_record sample_site (0 ∷ 1 ∷ []) sample ≡ sample
  pub nobody : chosen_record sample_site [] sample ≡ sample_front 0x23 0 0 0 ++ sample_fields
  -- the answers: the length; 13 for one byte less of room; 14 for a person twice, a person too high, and whatever the room
  pub chosen : choosing facts (1 ∷ []) 48 sample ≡ Ok 48
  pub short : choosing facts (1 ∷ []) 47 sample ≡ Err (refusal 13 0)
  pub twice : choosing facts (1 ∷ 1 ∷ []) 0 sample ≡ Err (refusal 14 0)
  pub high : choosing facts (2 ∷ []) 50 sample ≡ Err (refusal 14 0)
  pub unread : choosing facts (2 ∷ []) 50 [] ≡ Err (refusal 1 0)
