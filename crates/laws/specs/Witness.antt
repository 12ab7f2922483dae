-- A record with everything in it: floats, text in INFO and FORMAT, a true length, integers of all three types, an INFO key twice, two bare 00, marks and
-- padding, and a person without a genotype. It is accepted, its people can be divided, and so it meets the hypotheses of every page of laws. Rests on
-- reading and on the choice.
use Rattle.std.specs.Prelude.{ℕ, ◌≤◌, ◌≡◌, true, List, [], ◌∷◌, ◌++◌}
use Rattle.words.specs.Words.{Bytes}
use Rattle.facts.specs.declared.Facts.{Facts}
use Rattle.positions.specs.Positions.{pos_of}
use Rattle.fixed.specs.declared.Site.{Site}
use Rattle.genotypes.specs.Formats.{gt_at}
use Rattle.record.specs.Reading.{reading, accepted_as}
use Rattle.choice.specs.Choice.{ascending}
use Rattle.choose_laws.specs.Divisions.{Division}

abbrev pub witness_facts : Facts
witness_facts = record { strings = 8; contigs = 2; people = 3; gt = 5 }

-- its first bytes: both lengths, CHROM 1, POS 99, rlen 2, QUAL 30, two alleles and five INFO fields, five FORMAT fields and three people
abbrev pub witness_front : List ℕ
witness_front =
    0x51 ∷ 0x00 ∷ 0x00 ∷ 0x00 ∷ 0x42 ∷ 0x00 ∷ 0x00 ∷ 0x00 ∷ 0x01 ∷ 0x00 ∷ 0x00 ∷ 0x00 ∷ 0x63 ∷ 0x00 ∷ 0x00 ∷ 0x00
    ∷ 0x02 ∷ 0x00 ∷ 0x00 ∷ 0x00 ∷ 0x00 ∷ 0x00 ∷ 0xF0 ∷ 0x41 ∷ 0x05 ∷ 0x00 ∷ 0x02 ∷ 0x00 ∷ 0x03 ∷ 0x00 ∷ 0x00 ∷ 0x05 ∷ []

-- ID rs1, alleles AC and G, a bare 00 for FILTER
abbrev pub site_values : List ℕ
site_values = 0x37 ∷ 0x72 ∷ 0x73 ∷ 0x31 ∷ 0x27 ∷ 0x41 ∷ 0x43 ∷ 0x17 ∷ 0x47 ∷ 0x00 ∷ []

-- INFO 1: floats, 1 and missing
abbrev pub info_floats : List ℕ
info_floats = 0x11 ∷ 0x01 ∷ 0x25 ∷ 0x00 ∷ 0x00 ∷ 0x80 ∷ 0x3F ∷ 0x01 ∷ 0x00 ∷ 0x80 ∷ 0x7F ∷ []

-- INFO 2: text of a true length of 16
abbrev pub info_text : List ℕ
info_text = 0x11 ∷ 0x02 ∷ 0xF7 ∷ 0x11 ∷ 0x10 ∷ 0x61 ∷ 0x62 ∷ 0x63 ∷ 0x64 ∷ 0x65 ∷ 0x66 ∷ 0x67 ∷ 0x68 ∷ 0x69 ∷ 0x6A ∷ 0x6B ∷ 0x6C ∷ 0x6D ∷ 0x6E ∷ 0x6F ∷ 0x70 ∷ []

-- INFO 3 of type 2, INFO 3 again of type 3, INFO 6 with a bare 00
abbrev pub info_integers : List ℕ
info_integers = 0x11 ∷ 0x03 ∷ 0x12 ∷ 0xE8 ∷ 0x03 ∷ 0x11 ∷ 0x03 ∷ 0x13 ∷ 0xA0 ∷ 0x86 ∷ 0x01 ∷ 0x00 ∷ 0x11 ∷ 0x06 ∷ 0x00 ∷ []

-- GT: two calls, one call and an end of vector, nobody's
abbrev pub format_calls : List ℕ
format_calls = 0x11 ∷ 0x05 ∷ 0x21 ∷ 0x02 ∷ 0x05 ∷ 0x04 ∷ 0x81 ∷ 0x81 ∷ 0x81 ∷ []

-- FORMAT 1: a float, missing, an end of vector
abbrev pub format_floats : List ℕ
format_floats = 0x11 ∷ 0x01 ∷ 0x15 ∷ 0x00 ∷ 0x00 ∷ 0x00 ∷ 0x3F ∷ 0x01 ∷ 0x00 ∷ 0x80 ∷ 0x7F ∷ 0x02 ∷ 0x00 ∷ 0x80 ∷ 0x7F ∷ []

-- FORMAT 2: text of 3, padded
abbrev pub format_text : List ℕ
format_text = 0x11 ∷ 0x02 ∷ 0x37 ∷ 0x61 ∷ 0x62 ∷ 0x63 ∷ 0x61 ∷ 0x00 ∷ 0x00 ∷ 0x00 ∷ 0x00 ∷ 0x00 ∷ []

-- FORMAT 4: two of type 2, with a missing mark and ends of vector
abbrev pub format_short : List ℕ
format_short = 0x11 ∷ 0x04 ∷ 0x22 ∷ 0xE8 ∷ 0x03 ∷ 0x00 ∷ 0x80 ∷ 0x01 ∷ 0x80 ∷ 0x01 ∷ 0x80 ∷ 0x05 ∷ 0x00 ∷ 0x01 ∷ 0x80 ∷ []

-- FORMAT 7: of type 3, with the missing mark
abbrev pub format_long : List ℕ
format_long = 0x11 ∷ 0x07 ∷ 0x13 ∷ 0xA0 ∷ 0x86 ∷ 0x01 ∷ 0x00 ∷ 0x00 ∷ 0x00 ∷ 0x00 ∷ 0x80 ∷ 0xFE ∷ 0xFF ∷ 0xFF ∷ 0xFF ∷ []

unfoldable pub witness : List ℕ
witness =
    witness_front ++ (site_values ++ (info_floats ++ (info_text ++ (info_integers
    ++ (format_calls ++ (format_floats ++ (format_text ++ (format_short ++ format_long))))))))

abbrev pub witness_site : Site
witness_site =
    record { length = 155; border = 89; chrom = 1; pos = pos_of 99; rlen = 2; qual = 0x41F00000; alleles = 2; infos = 5; formats = 5; people = 3 }

pub record Witness : Type 0 where
  pub bytes : Bytes witness
  pub read : reading witness_facts witness ≡ accepted_as witness_site (gt_at 1 2 92)
  pub few : witness_site.alleles ≤ 64
  -- the first and the third person, and the second
  pub chosen : ascending 3 (0 ∷ 2 ∷ []) ≡ true
  pub divided : Division 3 (0 ∷ 2 ∷ []) (1 ∷ [])
