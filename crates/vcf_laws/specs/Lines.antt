-- When two lines tell their records apart, in 02's words: what is asked of contig names, of ID texts and of alleles, and what is then the same; and what is
-- asked of the texts that a line takes as they are. Rests on what a record shows and on names.
use Rattle.std.specs.Prelude.{ℕ, ◌<◌, ◌≡◌, ◌≢◌, Bool, false, List, map}
use Rattle.words.specs.Lists.{among}
use Rattle.shown.specs.Shown.{Shown}
use Rattle.build_laws.specs.Records.{All}
use Rattle.pieces.specs.Pieces.{dot}
use Rattle.names.specs.Names.{before_zero, stretch_of, name_of}
use Rattle.vcf_line.specs.Line.{Names}

-- a byte stands nowhere in a text
abbrev pub Without : ℕ → List ℕ → Type 0
Without c x = among c x ≡ false

-- the names of a list as they print, and their whole stretches
abbrev pub names_of : Names → ℕ → List ℕ
names_of names i = name_of names.text names.ends i

abbrev pub stretches_of : Names → ℕ → List ℕ
stretches_of names i = stretch_of names.text names.ends i

-- no name below a count has a byte; two names below two counts are the same name where they are equal
abbrev pub EachWithout : ℕ → ℕ → (ℕ → List ℕ) → Type 0
EachWithout c size name = (i : ℕ) → i < size → Without c (name i)

abbrev pub Distinct : ℕ → ℕ → (ℕ → List ℕ) → Type 0
Distinct m n name = (i j : ℕ) → i < m → j < n → name i ≡ name j → i ≡ j

-- an allele has no comma and is no lone dot
pub record ClearAllele (a : List ℕ) : Type 0 where
  pub comma : Without 0x2C a
  pub dotless : a ≢ dot

-- the ID text has no tab and is no lone dot; each allele is clear
pub record Clear (r : Shown) : Type 0 where
  pub tab : Without 0x09 (before_zero r.id)
  pub dotless : before_zero r.id ≢ dot
  pub alleles : All ClearAllele r.alleles

-- the same contig, POS, ID text and list of alleles
pub record Same (r r' : Shown) : Type 0 where
  pub chrom : r.chrom ≡ r'.chrom
  pub pos : r.pos ≡ r'.pos
  pub id : before_zero r.id ≡ before_zero r'.id
  pub alleles : r.alleles ≡ r'.alleles

-- a byte stands in none of the texts that a line takes as they are: the contig's name, the ID text and the filters' names
pub record TextsWithout (c : ℕ) (string contig : ℕ → List ℕ) (r : Shown) : Type 0 where
  pub chrom : Without c (contig r.chrom)
  pub id : Without c (before_zero r.id)
  pub filters : All (λ i. Without c (string i)) r.filters

-- whether one of the FORMAT fields has GT's key
abbrev pub has_gt : ℕ → Shown → Bool
has_gt gt r = among gt (map (λ x. x.key) r.formats)
