-- The site's columns as they are made from the bytes of a record and from where its fields stand, with the tabs between them; of any site and any bytes,
-- as far as fields stand there whole. Rests on the account of a record's fields, on positions and on names.
use Rattle.std.specs.Prelude.{ℕ, ◌-◌, List, [], ◌∷◌, ◌++◌, map, length, take, drop, replicate, Err, Ok}
use Rattle.std.specs.Int.{w32}
use Rattle.std.proofs.Common.{of_z}
use Rattle.decimal.specs.Decimal.{decimal}
use Rattle.positions.specs.Positions.{pos_of, pos_bits, one_based}
use Rattle.fixed.specs.declared.Site.{Site}
use Rattle.vectors.specs.Vectors.{elements_of}
use Rattle.fetch.specs.Account.{Entry, fields_of}
use Rattle.fetch.specs.Fetch.{field_of, part_of}
use Rattle.fetch.specs.declared.Kind.TheVariants.{Id, Allele, Filter}
use Rattle.pieces.specs.Pieces.{listed, or_dot}
use Rattle.fetch.specs.declared.Found.{Found}
use Rattle.values.specs.Answers.{Answer}
use Rattle.names.specs.Names.{before_zero}

-- POS as VCF has it: one-based, in decimal digits; of the 32 bits that BCF stores
unfoldable pub pos_text : ℕ → List ℕ
pos_text p = decimal (of_z w32 (one_based (pos_of p).0))

-- CHROM, POS and ID
unfoldable pub front_text : (ℕ → List ℕ) → Site → List ℕ → List ℕ
front_text contig t s =
    contig t.chrom ++ (0x09 ∷ (pos_text (pos_bits t.pos) ++ (0x09 ∷ or_dot (before_zero (part_of s (field_of Id 0 t s))))))

-- the bytes of an entry of the account
abbrev pub part_at : List ℕ → Entry → List ℕ
part_at s e = take (e.stop - e.place) (drop e.place s)

-- the bytes of so many alleles from a place of their block on, as far as they stand there whole
unfoldable pub allele_parts : ℕ → List ℕ → ℕ → ℕ → List (List ℕ)
allele_parts people block at n = map (part_at block) (fields_of people (replicate n Allele) at (drop at block))

-- REF and ALT, each with a tab before it: the first allele, and those after it
abbrev pub alleles_from : Site → List ℕ → Answer Found → List ℕ
alleles_from t s (Err r) = []
alleles_from t s (Ok x) =
    0x09 ∷ (take (x.stop - x.place) (drop x.place s) ++ (0x09 ∷ listed 0x2C (allele_parts t.people (take t.border s) x.stop (t.alleles - 1))))

unfoldable pub alleles_text : Site → List ℕ → List ℕ
alleles_text t s = alleles_from t s (field_of Allele 0 t s)

-- the names of a part's elements of type t, joined by semicolons
unfoldable pub names_text : (ℕ → List ℕ) → ℕ → List ℕ → List ℕ
names_text string t l = listed 0x3B (map string (elements_of t (length l) l))

-- FILTER, with a tab before it
abbrev pub filters_from : (ℕ → List ℕ) → List ℕ → Answer Found → List ℕ
filters_from string s (Err r) = []
filters_from string s (Ok x) = 0x09 ∷ names_text string x.code (take (x.stop - x.place) (drop x.place s))

unfoldable pub filters_text : (ℕ → List ℕ) → Site → List ℕ → List ℕ
filters_text string t s = filters_from string s (field_of Filter 0 t s)
