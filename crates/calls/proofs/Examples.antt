-- Small GT fields, their tallies computed. Rests on specs/Calls.
use mathlib.Core.Path.{◌≡◌, refl}
use mathlib.Core.List.{[], ◌∷◌, ◌++◌}
use lib.ListN.{replicate}
use Rattle.words.specs.Words.{le, number}
use Rattle.types.specs.Rows.{row_of, width_of}
use Rattle.types.specs.Elements.{marked, kind}
use Rattle.vectors.specs.Vectors.{numbers}
use Rattle.calls.specs.Calls.{slots, allele_of, alleles, people, called, without, how_many, counters, people_tally, people_of, counted}

-- two people of two slots: 0 and 0, then 1 and padding, which is no allele
pub padded : counted 1 2 (0x02 ∷ 0x03 ∷ 0x04 ∷ 0x81 ∷ []) ≡ record { without = 0; counts = 0 ∷ 2 ∷ 1 ∷ replicate 62 0 }
unfolding le number row_of width_of marked kind numbers slots allele_of alleles people called without how_many counters people_tally people_of counted
padded = refl

-- the missing mark and the codes 0 and 1 are each one missing allele; who starts with an end of vector has no genotype
pub missing : counted 1 2 (0x80 ∷ 0x81 ∷ 0x00 ∷ 0x01 ∷ 0x81 ∷ 0x81 ∷ []) ≡ record { without = 1; counts = 3 ∷ replicate 64 0 }
unfolding le number row_of width_of marked kind numbers slots allele_of alleles people called without how_many counters people_tally people_of counted
missing = refl

-- two bytes an element: allele 63 is the last that is counted, allele 64 is not
pub last : counted 2 1 (0x80 ∷ 0x00 ∷ 0x82 ∷ 0x00 ∷ []) ≡ record { without = 0; counts = replicate 64 0 ++ (1 ∷ []) }
unfolding le number row_of width_of marked kind numbers slots allele_of alleles people called without how_many counters people_tally people_of counted
last = refl

-- no elements, no people
pub nobody : counted 1 0 (0x02 ∷ 0x03 ∷ []) ≡ record { without = 0; counts = replicate 65 0 }
unfolding le number row_of width_of marked kind numbers slots allele_of alleles people called without how_many counters people_tally people_of counted
nobody = refl
