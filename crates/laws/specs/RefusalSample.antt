-- Each number of each function's list is given: the sample record spoilt, and turns that are refused, one for each number in its order. So no list of
-- specs/Refusals is longer than it has to be. Rests on specs/Sample, and on refusal_laws for the lists.
use Rattle.build.specs.Answers.{Taken}
use Rattle.std.specs.Prelude.{ℕ, ◌≡◌, take, set, replicate, Err}
use mathlib.Core.List.{List, [], ◌∷◌, ◌++◌, map, flatten}
use Rattle.values.specs.Answers.{refusal, Answer}
use Rattle.shown.specs.Shown.{integers, text}
use Rattle.record.specs.Reading.{reading_says, reading}
use Rattle.fetch.specs.Fetch.{found}
use Rattle.fetch.specs.declared.Kind.TheVariants.{Info}
use Rattle.tally.specs.Tally.{tallied}
use Rattle.choose.specs.Choose.{choosing}
use Rattle.vcf_line.specs.Line.{Names, names_in, line_says, line_answer}
use Rattle.build.specs.Turns.{begun, id_given, allele_given, filter_given, info_given, format_given, built}
use Rattle.build.specs.declared.Stage.{Stage}
use Rattle.build.specs.declared.Stage.TheVariants.{Fresh, Begun, Named, Alleles, Filtered, Ended}
use Rattle.build.specs.declared.Builder.{Builder}
use Rattle.build.specs.declared.Turned.{Turned}
use Rattle.refusal_laws.specs.Numbers.{reading_gives, line_gives, begin_gives, id_gives, allele_gives, filter_gives, info_gives, format_gives, end_gives}
use Rattle.laws.specs.Sample.{facts, sample_front, sample}

-- a byte too few; a length over the most; a site block that ends before ID; an INFO pair that is not counted; no such contig; an ID of type 1; an
-- empty allele; a filter outside the dictionary; a space in an allele; a negative code of GT; a filter twice
abbrev pub spoilt : List (List ℕ)
spoilt =
    take 49 sample ∷ set sample 3 0xFF ∷ set sample 0 0x17 ∷ set sample 24 0 ∷ set sample 8 1 ∷ set sample 32 0x01 ∷ set sample 33 0x07
    ∷ set sample 38 0x04 ∷ set sample 34 0x20 ∷ set sample 46 0xFF ∷ set (set sample 37 0x21) 39 0 ∷ []

-- the sample with 65 alleles
unfoldable pub many_alleles : List ℕ
many_alleles =
    set (sample_front 0xA1 7 1 2) 26 65
    ++ (0x07 ∷ (flatten (replicate 65 (0x17 ∷ 0x47 ∷ []))
    ++ (0x11 ∷ 0 ∷ 0x11 ∷ 0x02 ∷ 0x11 ∷ 0x0E ∷ 0x11 ∷ 0x03 ∷ 0x21 ∷ 0x02 ∷ 0x03 ∷ 0x04 ∷ 0x81 ∷ [])))

-- four names of no text, and one; and no names
abbrev pub four_names : Names
four_names = names_in [] (0 ∷ 0 ∷ 0 ∷ 0 ∷ [])

abbrev pub one_name : Names
one_name = names_in [] (0 ∷ [])

abbrev pub no_names : Names
no_names = names_in [] []

-- a build that has come so far, with so many bytes, alleles, INFO fields and FORMAT fields; its FORMAT keys are 0
abbrev pub reached : Stage → ℕ → ℕ → ℕ → ℕ → Builder
reached stage at alleles infos formats =
    record {
      facts = facts;
      at = at;
      border = at;
      alleles = alleles;
      infos = infos;
      formats = formats;
      stage = stage;
      keys = replicate 256 0;
    }

-- with 40 bytes and two alleles; with the most bytes that a record has
abbrev pub after : Stage → Builder
after stage = reached stage 40 2 0 0

abbrev pub full_after : Stage → Builder
full_after stage = reached stage 16777216 2 0 0

-- the number of a turn's answer, 0 where it is taken
abbrev pub turn_number : Answer (Unit {0}) → ℕ
turn_number Taken = 0
turn_number (Err r) = r.number

abbrev pub numbers_of : List Turned → List ℕ
numbers_of ts = map (λ t. turn_number t.answer) ts

pub record RefusalSample : Type 0 where
  pub reads : map (λ s. (reading_says (reading facts s)).number) spoilt ≡ reading_gives
  pub fetches : found facts Info 1 sample ≡ Err (refusal 16 0)
  pub tallies : (tallied facts many_alleles).answer ≡ Err (refusal 15 0)
  pub chooses : choosing facts (1 ∷ 0 ∷ []) 50 sample ≡ Err (refusal 14 0)
  pub chooses_short : choosing facts (0 ∷ []) 47 sample ≡ Err (refusal 13 0)
  -- QUAL below 1 and no name; no name of a contig; a buffer that is a byte too short
  pub prints
      : map (λ x. (line_says x).number)
      (line_answer facts no_names no_names 0 (set sample 23 0x3E) ∷ line_answer facts four_names no_names 0 sample
      ∷ line_answer facts four_names one_name 27 sample ∷ [])
      ≡ line_gives
  -- out of order, then each rule in 01's order, then a record over the most bytes, then a buffer too short
  pub begins
      : numbers_of (begun (after Ended) 64 facts 0 0 0 0 ∷ begun (after Fresh) 64 facts 1 0 0 0 ∷ begun (after Fresh) 31 facts 0 0 0 0 ∷ []) ≡ begin_gives
  pub id
      : numbers_of
      (id_given (after Fresh) 64 [] ∷ id_given (after Begun) 64 (0 ∷ 0x41 ∷ []) ∷ id_given (full_after Begun) 64 [] ∷ id_given (after Begun) 40 [] ∷ [])
      ≡ id_gives
  pub allele
      : numbers_of
      (allele_given (after Begun) 64 (0x41 ∷ []) ∷ allele_given (reached Alleles 40 65535 0 0) 64 (0x41 ∷ []) ∷ allele_given (after Named) 64 []
      ∷ allele_given (after Named) 64 (0x20 ∷ []) ∷ allele_given (full_after Named) 64 (0x41 ∷ []) ∷ allele_given (after Named) 41 (0x41 ∷ []) ∷ [])
      ≡ allele_gives
  pub filter
      : numbers_of
      (filter_given (after Named) 64 [] ∷ filter_given (after Alleles) 64 (4 ∷ []) ∷ filter_given (after Alleles) 64 (0 ∷ 0 ∷ [])
      ∷ filter_given (full_after Alleles) 64 [] ∷ filter_given (after Alleles) 40 [] ∷ [])
      ≡ filter_gives
  pub info
      : numbers_of
      (info_given (after Alleles) 64 2 integers [] ∷ info_given (reached Filtered 40 2 65535 0) 64 2 integers []
      ∷ info_given (after Filtered) 64 4 integers [] ∷ info_given (after Filtered) 64 2 integers (0x80000002 ∷ [])
      ∷ info_given (full_after Filtered) 64 2 integers [] ∷ info_given (after Filtered) 42 2 integers [] ∷ [])
      ≡ info_gives
  pub format
      : numbers_of
      (format_given (after Alleles) 64 2 integers 0 [] ∷ format_given (reached Filtered 40 2 0 255) 64 2 integers 0 []
      ∷ format_given (after Filtered) 64 4 integers 0 [] ∷ format_given (reached Filtered 40 2 0 1) 64 0 integers 0 []
      ∷ format_given (after Filtered) 64 3 text 0 [] ∷ format_given (after Filtered) 64 2 integers 1 (1 ∷ [])
      ∷ format_given (after Filtered) 64 2 integers 1 (1 ∷ 0x80000002 ∷ []) ∷ format_given (after Filtered) 64 3 integers 1 (2 ∷ 6 ∷ [])
      ∷ format_given (full_after Filtered) 64 2 integers 0 [] ∷ format_given (after Filtered) 42 2 integers 0 [] ∷ [])
      ≡ format_gives
  pub ends : numbers_of (built (after Alleles) 64 ∷ built (after Filtered) 31 ∷ []) ≡ end_gives
