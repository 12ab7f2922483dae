-- One account of what a record holds: its fields, one after the other, each with its kind, key, type, length, place and end. Fetching takes the field
-- of a number out of it, the walker the next, and what a record shows is a map over it. Rests on what a field is, and on the layout.
use Rattle.std.specs.Prelude.{ℕ, zero, suc, ◌-◌, List, [], ◌∷◌, ◌++◌, Bool, eqb, take, drop, replicate, Err, Ok}
use Rattle.words.specs.Pick.{pick}
use Rattle.values.specs.Answers.{refusal, Answer}
use Rattle.fixed.specs.Layout.{id_at}
use Rattle.fixed.specs.declared.Site.{Site}
use Rattle.fetch.specs.Fields.{field_at, found_field}
use Rattle.fetch.specs.declared.Kind.{Kind}
use Rattle.fetch.specs.declared.Found.{Found}
use Rattle.fetch.specs.declared.Kind.TheVariants.{Id, Allele, Filter, Info, Format}

-- a field of a record: its kind; its key, 0 where it has none; its value's type and length; the place of its first element, and the place after its last
pub record Entry : Type 0 where
  pub kind : Kind
  pub key : ℕ
  pub code : ℕ
  pub len : ℕ
  pub place : ℕ
  pub stop : ℕ

-- a field, and then those after it; where no whole field stands, there are none
abbrev pub entered : Kind → ℕ → List ℕ → (ℕ → List ℕ → List Entry) → Answer Found → List Entry
entered kind at l rest (Err r) = []
entered kind at l rest (Ok x) =
    record { kind = kind; key = x.key; code = x.code; len = x.len; place = x.place; stop = x.stop } ∷ rest x.stop (drop (x.stop - at) l)

-- fields of these kinds at the front of a list, one after the other, for so many people
unfoldable pub fields_of : ℕ → List Kind → ℕ → List ℕ → List Entry
fields_of people [] at l = []
fields_of people (kind ∷ kinds) at l = entered kind at l (fields_of people kinds) (field_at kind people at l)

-- what stands in the two blocks: ID, alleles, FILTER and INFO pairs; FORMAT fields
unfoldable pub site_kinds : ℕ → ℕ → List Kind
site_kinds alleles infos = Id ∷ (replicate alleles Allele ++ (Filter ∷ replicate infos Info))

unfoldable pub site_fields : Site → List ℕ → List Entry
site_fields t s = fields_of t.people (site_kinds t.alleles t.infos) id_at (drop id_at (take t.border s))

unfoldable pub genotype_fields : Site → List ℕ → List Entry
genotype_fields t s = fields_of t.people (replicate t.formats Format) t.border (drop t.border (take t.length s))

-- all of a record whose front is a site
unfoldable pub account : Site → List ℕ → List Entry
account t s = site_fields t s ++ genotype_fields t s

-- those of a kind
abbrev pub kind_number : Kind → ℕ
kind_number Id = 0
kind_number Allele = 1
kind_number Filter = 2
kind_number Info = 3
kind_number Format = 4

abbrev pub is_kind : Kind → Kind → Bool
is_kind kind other = eqb (kind_number kind) (kind_number other)

unfoldable pub of_kind : Kind → List Entry → List Entry
of_kind kind [] = []
of_kind kind (e ∷ es) = let rest = of_kind kind es in pick (is_kind kind e.kind) (e ∷ rest) rest

-- how many fields of a kind a record has
abbrev pub count_of : Kind → Site → ℕ
count_of Id t = 1
count_of Allele t = t.alleles
count_of Filter t = 1
count_of Info t = t.infos
count_of Format t = t.formats

-- the one of a number, counted from 0; 16 where there is none of that number
abbrev pub as_found : Entry → Answer Found
as_found e = found_field e.key e.code e.len e.place e.stop

unfoldable pub numbered : ℕ → List Entry → Answer Found
numbered n [] = Err (refusal 16 0)
numbered zero (e ∷ es) = as_found e
numbered (suc n) (e ∷ es) = numbered n es
