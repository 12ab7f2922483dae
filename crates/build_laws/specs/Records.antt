-- The rules that what a record shows keeps. Rests on build's rules of each turn, and on what a record shows and is written as.
use Rattle.std.specs.Prelude.{ℕ, ◌*◌, ◌<◌, ◌≤◌, ◌≡◌, List, [], ◌∷◌, ◌++◌, true, false, eqb, length}
use Rattle.words.specs.Lists.{among}
use Rattle.vectors.specs.Sound.{most_of}
use Rattle.fixed.specs.Layout.{most_bytes}
use Rattle.facts.specs.declared.Facts.{Facts}
use Rattle.genotypes.specs.Formats.{role_of}
use Rattle.shown.specs.Shown.{Shown, Kind, integers, floats, text, Pair, Field, is_integers}
use Rattle.build_given.specs.Given.{filters_number, allele_number}
use Rattle.shown.specs.Records.{record_bytes}
use Rattle.build_front.specs.Front.{fields_number}
use Rattle.build_rules.specs.Rules.{key_number}
use Rattle.build_rules.specs.Values.{any, given_as, given_number}

-- each of a list keeps a rule
abbrev pub All : {A : Type 0} → (A → Type 0) → List A → Type 0
All P [] = Unit {0}
All P (x ∷ xs) = P x × All P xs

-- the elements of a kind are 32 bits each, or bytes of text
abbrev pub most_element : Kind → ℕ
most_element integers = 4294967296
most_element floats = 4294967296
most_element text = 256

abbrev pub Fit : Kind → List ℕ → Type 0
Fit k xs = All (λ x. x < most_element k) xs

-- the rules of an allele, an INFO pair, and a FORMAT field after earlier keys
pub record KeepsAllele (xs : List ℕ) : Type 0 where
  pub fit : Fit text xs
  pub some : eqb (length xs) 0 ≡ false
  pub rules : allele_number xs ≡ 0

pub record KeepsInfo (strings : ℕ) (p : Pair) : Type 0 where
  pub fit : Fit p.value.kind p.value.elements
  pub key : p.key < 4294967296
  pub inside : key_number strings p.key ≡ 0
  pub rules : given_number any p.value.kind (length p.value.elements) p.value.elements ≡ 0

pub record KeepsField (f : Facts) (alleles : ℕ) (earlier : List ℕ) (x : Field) : Type 0 where
  pub fit : Fit x.value.kind x.value.elements
  pub key : x.key < 4294967296
  pub inside : key_number f.strings x.key ≡ 0
  pub once : among x.key earlier ≡ false
  pub whole : eqb x.key f.gt ≡ true → is_integers x.value.kind ≡ true
  pub count : f.people * x.len ≡ length x.value.elements
  pub rules : given_number (most_of (role_of x.key f.gt) alleles (given_as x.value.kind)) x.value.kind x.len x.value.elements ≡ 0

abbrev pub KeepsFields : Facts → ℕ → List ℕ → List Field → Type 0
KeepsFields f alleles earlier [] = Unit {0}
KeepsFields f alleles earlier (x ∷ xs) = KeepsField f alleles earlier x × KeepsFields f alleles (earlier ++ (x.key ∷ [])) xs

-- all rules of a record
pub record Keeps (f : Facts) (r : Shown) : Type 0 where
  pub bits : (r.chrom < 4294967296) × (r.pos < 4294967296) × (r.rlen < 4294967296) × (r.qual < 4294967296)
  pub fields : fields_number f r.chrom r.pos r.rlen r.qual ≡ 0
  pub id_fit : Fit text r.id
  pub id : given_number any text (length r.id) r.id ≡ 0
  pub some : 0 < length r.alleles
  pub alleles_most : length r.alleles ≤ 65535
  pub alleles : All KeepsAllele r.alleles
  pub filters_fit : Fit integers r.filters
  pub filters : filters_number f.strings r.filters ≡ 0
  pub infos_most : length r.infos ≤ 65535
  pub infos : All (KeepsInfo f.strings) r.infos
  pub formats_most : length r.formats ≤ 255
  pub people : 0 < length r.formats → 0 < f.people
  pub formats : KeepsFields f (length r.alleles) [] r.formats
  pub most : length (record_bytes f.people r) ≤ most_bytes
