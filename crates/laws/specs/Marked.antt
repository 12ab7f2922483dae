-- 01's marked examples, M1 to M12, one statement with the fields of each; a value is one as reading judges it (`sound`), at place 0 of its block. Rests
-- on the definitions of types, values and vectors, and on the sample record.
use Rattle.std.specs.Prelude.{◌≡◌, Some, true, List, [], ◌∷◌, ℕ, pos, negsuc, take, drop}
use Rattle.std.specs.Int.{w32}
use Rattle.std.proofs.Common.{of_z}
use Rattle.types.specs.Elements.{narrowest}
use Rattle.types.specs.declared.Use.TheVariants.{Id, Info, Gt}
use Rattle.values.specs.Answers.{typed, no_descriptor, whole, no_value}
use Rattle.values.specs.Values.{described}
use Rattle.vectors.specs.Sound.{sound}
use Rattle.elements.specs.Elements.{element_at, call_at}
use Rattle.elements.specs.declared.Shown.TheVariants.{Integer}
use Rattle.elements.specs.declared.Call.TheVariants.{Allele}
use Rattle.tally.specs.Tally.{tallied}
use Rattle.fixed.specs.Layout.{indiv_at, field}
use Rattle.fetch.specs.Fetch.{fetched}
use Rattle.fetch.specs.declared.Kind.TheVariants.{Format}
use Rattle.choose_laws.specs.Releases.{for_people}
use Rattle.laws.specs.Cut.{second}
use Rattle.laws.specs.Sample.{facts, sample}

-- `negsuc n` is −(n + 1)
pub record Marked : Type 0 where
  -- M1 `47`: text of 4
  pub m1 : (rest : List ℕ) → described Id 0 (0x47 ∷ rest) ≡ typed 7 4 1
  -- M2 `F7 11 1B`: text of 27
  pub m2 : described Id 0 (0xF7 ∷ 0x11 ∷ 0x1B ∷ []) ≡ typed 7 27 3
  -- M3 `F7 11 0E`: 7, at the true length's descriptor
  pub m3 : described Id 0 (0xF7 ∷ 0x11 ∷ 0x0E ∷ []) ≡ no_descriptor 7 1
  -- M4 `F7 21`, with bytes enough: 6, at the true length's descriptor
  pub m4 : (rest : List ℕ) → described Id 0 (0xF7 ∷ 0x21 ∷ rest) ≡ no_descriptor 6 1
  -- M5 `07`: missing, that is of length 0
  pub m5 : (rest : List ℕ) → described Id 0 (0x07 ∷ rest) ≡ typed 7 0 1
  -- M6 −120 and 127 fit type 1; −121 and 128 take type 2
  pub m6_low : narrowest (of_z w32 (negsuc 119)) ≡ 1
  pub m6_high : narrowest (of_z w32 (pos 127)) ≡ 1
  pub m6_below : narrowest (of_z w32 (negsuc 120)) ≡ 2
  pub m6_above : narrowest (of_z w32 (pos 128)) ≡ 2
  -- M7 −32760 and 32767 fit type 2; −32761 and 32768 take type 3
  pub m7_low : narrowest (of_z w32 (negsuc 32759)) ≡ 2
  pub m7_high : narrowest (of_z w32 (pos 32767)) ≡ 2
  pub m7_below : narrowest (of_z w32 (negsuc 32760)) ≡ 3
  pub m7_above : narrowest (of_z w32 (pos 32768)) ≡ 3
  -- M8 type 1: `80` shows −2147483648, `82` gives 9
  pub m8_shown : element_at 1 0 (0x80 ∷ []) ≡ Some (Integer (negsuc 2147483647))
  pub m8_refused : sound 1 0 Info 0 (0x11 ∷ 0x82 ∷ []) ≡ no_value 9 1
  -- M9 `31 05 81 81` is accepted; `31 05 81 06` gives 9 at its last byte
  pub m9_accepted : (rest : List ℕ) → sound 1 0 Info 0 (0x31 ∷ 0x05 ∷ 0x81 ∷ 0x81 ∷ rest) ≡ whole 1 3 1 4
  pub m9_refused : (rest : List ℕ) → sound 1 0 Info 0 (0x31 ∷ 0x05 ∷ 0x81 ∷ 0x06 ∷ rest) ≡ no_value 9 3
  -- M10 two alleles, GT of one person and type 1: `05` is accepted, and says allele 1, phased; `06` and `FF` give 10 at the element
  pub m10_call : call_at 1 0 (0x05 ∷ []) ≡ Some (Allele 1 true)
  pub m10_accepted : (rest : List ℕ) → sound 1 2 Gt 0 (0x11 ∷ 0x05 ∷ rest) ≡ whole 1 1 1 2
  pub m10_high : (rest : List ℕ) → sound 1 2 Gt 0 (0x11 ∷ 0x06 ∷ rest) ≡ no_value 10 1
  pub m10_negative : (rest : List ℕ) → sound 1 2 Gt 0 (0x11 ∷ 0xFF ∷ rest) ≡ no_value 10 1
  -- M11 the sample record tallies 2 and 1: the calls of allele 0 and of allele 1
  pub m11 : take 2 (drop 1 (tallied facts sample).calls.counts) ≡ 2 ∷ 1 ∷ []
  -- M12 choosing person 1 of it leaves l_indiv 5, GT `04 81`, and a tally of 0 and 1
  pub m12_indiv : field indiv_at second ≡ 5
  pub m12_gt : fetched (for_people 1 facts) Format 0 second ≡ 0x04 ∷ 0x81 ∷ []
  pub m12_tally : take 2 (drop 1 (tallied (for_people 1 facts) second).calls.counts) ≡ 0 ∷ 1 ∷ []
