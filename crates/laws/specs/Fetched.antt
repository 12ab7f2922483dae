-- What is fetched of 01's sample record: every field of each kind, and the refusals. Rests on fetch's definitions.
use Rattle.std.specs.Prelude.{◌≡◌, [], ◌∷◌, Err}
use Rattle.values.specs.Answers.{refusal}
use Rattle.fetch.specs.Fetch.{found, fetched}
use Rattle.fetch.specs.declared.Kind.TheVariants.{Id, Allele, Filter, Info, Format}
use Rattle.fetch.specs.Fields.{found_field}
use Rattle.laws.specs.Sample.{facts, sample}

-- a field: its key, type and length, and the places of its first element and after its last
pub record Fetched : Type 0 where
  -- no ID: length 0, just after the descriptor
  pub id : found facts Id 0 sample ≡ found_field 0 7 0 33 33
  pub first : found facts Allele 0 sample ≡ found_field 0 7 1 34 35
  pub second : found facts Allele 1 sample ≡ found_field 0 7 1 36 37
  pub filter : found facts Filter 0 sample ≡ found_field 0 1 1 38 39
  pub info : found facts Info 0 sample ≡ found_field 2 1 1 42 43
  -- two slots for each of two people
  pub format : found facts Format 0 sample ≡ found_field 3 1 2 46 50
  -- ID and FILTER have number 0 only; a number that is the count is no field's
  pub one_id : found facts Id 1 sample ≡ Err (refusal 16 0)
  pub one_filter : found facts Filter 1 sample ≡ Err (refusal 16 0)
  pub two_alleles : found facts Allele 2 sample ≡ Err (refusal 16 0)
  pub one_info : found facts Info 1 sample ≡ Err (refusal 16 0)
  pub one_format : found facts Format 1 sample ≡ Err (refusal 16 0)
  -- reading's refusals come first
  pub unread : found facts Id 1 [] ≡ Err (refusal 1 0)
  -- the bytes: none of an ID that is missing, G and A, offset 0, 14, and both people's slots; on a refusal none
  pub id_bytes : fetched facts Id 0 sample ≡ []
  pub first_bytes : fetched facts Allele 0 sample ≡ 0x47 ∷ []
  pub second_bytes : fetched facts Allele 1 sample ≡ 0x41 ∷ []
  pub filter_bytes_lem : fetched facts Filter 0 sample ≡ 0 ∷ []
  pub info_bytes_lem : fetched facts Info 0 sample ≡ 0x0E ∷ []
  pub format_bytes_lem : fetched facts Format 0 sample ≡ 0x02 ∷ 0x03 ∷ 0x04 ∷ 0x81 ∷ []
  pub no_bytes : fetched facts Allele 2 sample ≡ []
