-- What a record shows, as plain values with no widths and no places: its fixed fields, ID, alleles, filters, INFO pairs and FORMAT fields. Reader and
-- writer both speak of it. Rests on words' `pick`.
use Rattle.std.specs.Prelude.{ℕ, List, Bool, true, false, eqb}
use Rattle.words.specs.Pick.{pick}

-- a value is integers, shown as 32 bits with the marks of type 3, or floats' bits, or bytes of text
pub data Kind : Type 0 where
  integers : Kind
  floats : Kind
  text : Kind

pub record Elements : Type 0 where
  pub kind : Kind
  pub elements : List ℕ

-- an INFO pair: its key and its value
pub record Pair : Type 0 where
  pub key : ℕ
  pub value : Elements

-- a FORMAT field: its key, the length for each person, and all people's elements
pub record Field : Type 0 where
  pub key : ℕ
  pub len : ℕ
  pub value : Elements

-- a record: CHROM, POS and rlen as the 32 bits of their signed numbers (POS by `pos_bits` of positions), QUAL as its bits; then what the fields show
pub record Shown : Type 0 where
  pub chrom : ℕ
  pub pos : ℕ
  pub rlen : ℕ
  pub qual : ℕ
  pub id : List ℕ
  pub alleles : List (List ℕ)
  pub filters : List ℕ
  pub infos : List Pair
  pub formats : List Field

-- the kind of a type code's elements
abbrev pub kind_of : ℕ → Kind
kind_of t = pick (eqb t 7) text (pick (eqb t 5) floats integers)

abbrev pub is_integers : Kind → Bool
is_integers integers = true
is_integers floats = false
is_integers text = false
