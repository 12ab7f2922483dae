-- 01's rules for a record, on the numbers that it shows: of an integer its 32 bits with the marks of type 3, of a float its bits, of text its bytes.
-- They say nothing of how a record is judged. Rests on what a record shows.
use Rattle.std.specs.Prelude.{ℕ, ◌+◌, ◌*◌, ◌/◌, ◌<◌, ◌≤◌, ◌≡◌, ◌≢◌, ◌⊎◌, List, map, length, get_or, take, drop}
use Rattle.facts.specs.declared.Facts.{Facts}
use Rattle.shown.specs.Shown.{Shown, Kind, integers, floats, text, Pair, Field}
use Rattle.build_laws.specs.Records.{All, Fit}

-- from one number to another, both included
abbrev pub Between : ℕ → ℕ → ℕ → Type 0
Between low high x = (low ≤ x) × (x ≤ high)

-- 0 or more, and below a size; the 32 bits of a negative number are 80000000 or more
abbrev pub Below : ℕ → ℕ → Type 0
Below size x = (x < 0x80000000) × (x < size)

-- what stands at a place of a list stands at no later one
abbrev pub NoneTwice : List ℕ → Type 0
NoneTwice xs = (i j : ℕ) → i < j → j < length xs → get_or xs i 0 ≢ get_or xs j 0

-- 01's table of marks: the end of vector of each kind, the missing mark of integers, and what is reserved; in text nothing is
abbrev pub end_mark : Kind → ℕ
end_mark integers = 0x80000001
end_mark floats = 0x7F800002
end_mark text = 0

abbrev pub missing_mark : ℕ
missing_mark = 0x80000000

abbrev pub Reserved : Kind → ℕ → Type 0
Reserved integers x = Between 0x80000002 0x80000007 x
Reserved floats x = Between 0x7F800003 0x7F800007 x
Reserved text x = ⊥

-- a vector: no element is reserved, and after an end of vector only ends of vector follow
pub record Vector (k : Kind) (xs : List ℕ) : Type 0 where
  pub reserved : All (λ x. Reserved k x → ⊥) xs
  pub ends : (i j : ℕ) → i < j → j < length xs → get_or xs i 0 ≡ end_mark k → get_or xs j 0 ≡ end_mark k

-- an element of GT: an end of vector, the missing mark, or a code v of 0 or more whose allele, (v / 2, rounded down) − 1, is below the allele count
pub data GtElement (alleles v : ℕ) : Type 0 where
  ends : v ≡ end_mark integers → GtElement alleles v
  missing : v ≡ missing_mark → GtElement alleles v
  code : v < 0x80000000 → v / 2 < alleles + 1 → GtElement alleles v

pub record AlleleRules (xs : List ℕ) : Type 0 where
  -- length 1 or more
  pub some : 0 < length xs
  -- bytes 21 to 7E
  pub bytes : All (Between 0x21 0x7E) xs

pub record InfoRules (strings : ℕ) (p : Pair) : Type 0 where
  -- a key below the dictionary's size
  pub key : Below strings p.key
  -- then any typed value: one vector of its kind, each element of 32 bits or a byte
  pub fit : Fit p.value.kind p.value.elements
  pub vector : Vector p.value.kind p.value.elements

-- a person's vector, among vectors of a length that stand one after the other
abbrev pub vector_of : ℕ → ℕ → List ℕ → List ℕ
vector_of len person xs = take len (drop (person * len) xs)

pub record FormatRules (f : Facts) (alleles : ℕ) (x : Field) : Type 0 where
  -- a key below the dictionary's size
  pub key : Below f.strings x.key
  -- people × length elements, each person's vector in turn
  pub fit : Fit x.value.kind x.value.elements
  pub count : length x.value.elements ≡ f.people * x.len
  pub vectors : (person : ℕ) → person < f.people → Vector x.value.kind (vector_of x.len person x.value.elements)
  -- GT is integers, and each is an element of GT
  pub gt : x.key ≡ f.gt → (x.value.kind ≡ integers) × All (GtElement alleles) x.value.elements

-- a whole record, under a header's facts
pub record Rules (f : Facts) (r : Shown) : Type 0 where
  -- CHROM is 0 up to contigs − 1
  pub chrom : Below f.contigs r.chrom
  -- POS is −1 to 2147483646
  pub pos : (r.pos ≤ 2147483646) ⊎ (r.pos ≡ 0xFFFFFFFF)
  -- rlen is 0 or more
  pub rlen : r.rlen < 0x80000000
  -- QUAL is 32 float bits, and not 7F800002 to 7F800007
  pub qual_fit : r.qual < 4294967296
  pub qual : Between 0x7F800002 0x7F800007 r.qual → ⊥
  -- there is at least one allele, and there are at most 65535 alleles and INFO fields, 255 FORMAT fields and 16777215 people
  pub alleles_count : Between 1 65535 (length r.alleles)
  pub infos_count : length r.infos ≤ 65535
  pub formats_count : length r.formats ≤ 255
  pub people_count : f.people ≤ 16777215
  -- with no people there are no FORMAT fields
  pub nobody : f.people ≡ 0 → length r.formats ≡ 0
  -- ID is text, in which after a zero byte only zero bytes follow
  pub id_fit : Fit text r.id
  pub id : Vector text r.id
  pub alleles : All AlleleRules r.alleles
  -- FILTER's elements are each an offset below the dictionary's size, so no marks, and none stands twice
  pub filters : All (Below f.strings) r.filters
  pub filters_once : NoneTwice r.filters
  pub infos : All (InfoRules f.strings) r.infos
  -- FORMAT fields, no key twice
  pub formats : All (FormatRules f (length r.alleles)) r.formats
  pub formats_once : NoneTwice (map (λ x. x.key) r.formats)
