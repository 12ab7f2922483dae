-- The layout of a record's front: the place of each fixed field, and the rule that each keeps. Rests on words' numbers.
use Rattle.std.specs.Prelude.{ℕ, ◌+◌, ◌*◌, ◌/◌, ◌%◌, List, Bool, true, false, ltb, leb, eqb, drop}
use Rattle.words.specs.Pick.{pick}
use Rattle.words.specs.Words.{number}

-- the places of l_indiv, of the fixed fields, and of what follows them
abbrev pub indiv_at : ℕ
indiv_at = 4

abbrev pub chrom_at : ℕ
chrom_at = 8

abbrev pub pos_at : ℕ
pos_at = 12

abbrev pub rlen_at : ℕ
rlen_at = 16

abbrev pub qual_at : ℕ
qual_at = 20

abbrev pub counts_at : ℕ
counts_at = 24

abbrev pub people_at : ℕ
people_at = 28

abbrev pub id_at : ℕ
id_at = 32

-- of the fields that are filled in last, both block lengths and both counts, the last ends before here
abbrev pub filled_to : ℕ
filled_to = people_at + 4

-- two counts in one field: alleles above INFO fields, FORMAT fields above people
abbrev pub counts_of : ℕ → ℕ → ℕ
counts_of alleles infos = alleles * 65536 + infos

abbrev pub alleles_in : ℕ → ℕ
alleles_in counts = counts / 65536

abbrev pub infos_in : ℕ → ℕ
infos_in counts = counts % 65536

abbrev pub members_of : ℕ → ℕ → ℕ
members_of formats people = formats * 16777216 + people

abbrev pub formats_in : ℕ → ℕ
formats_in members = members / 16777216

abbrev pub people_in : ℕ → ℕ
people_in members = members % 16777216

-- the most bytes of a record
abbrev pub most_bytes : ℕ
most_bytes = 16777216

-- the four bytes at a place, as a number
unfoldable pub field : ℕ → List ℕ → ℕ
field at s = number 4 (drop at s)

-- POS is −1 to 2147483646
unfoldable pub pos_wrong : ℕ → Bool
pos_wrong x = pick (leb x 2147483646) false (ltb x 0xFFFFFFFF)

-- rlen is 0 or more
abbrev pub rlen_wrong : ℕ → Bool
rlen_wrong x = leb 0x80000000 x

-- QUAL is refused from 7F800002 to 7F800007
unfoldable pub qual_wrong : ℕ → Bool
qual_wrong x = pick (ltb x 0x7F800002) false (leb x 0x7F800007)

-- there is at least one allele
abbrev pub counts_wrong : ℕ → Bool
counts_wrong alleles = eqb alleles 0

-- people equals the number given; with no people there are no FORMAT fields
unfoldable pub people_wrong : ℕ → ℕ → ℕ → Bool
people_wrong given formats people = pick (eqb people given) (pick (eqb people 0) (ltb 0 formats) false) true
