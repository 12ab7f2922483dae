-- A field at the front of a list: a value alone, or a key and then its value. Whatever walks a record's fields, reads them so. Rests on values.
use Rattle.std.specs.Prelude.{ℕ, ◌-◌, ◌<◌, ◌≤◌, List, [], ◌∷◌, drop, Err, Ok}
use Rattle.types.specs.declared.Use.{Use}
use Rattle.types.specs.declared.Use.TheVariants.{Id as IdUse, Allele as AlleleUse, Filter as FilterUse, Info as InfoUse, Format as FormatUse}
use Rattle.values.specs.Answers.{Says, refuses, holds, Answer}
use Rattle.values.specs.Values.{integer, present}
use Rattle.fetch.specs.declared.Kind.{Kind}
use Rattle.fetch.specs.declared.Found.{Found}
use Rattle.values.specs.declared.Value.{Value}
use Rattle.values.specs.declared.Integer.{Integer}
use Rattle.fetch.specs.declared.Kind.TheVariants.{Id, Allele, Filter, Info, Format}

-- a field that is there
abbrev pub found_field : ℕ → ℕ → ℕ → ℕ → ℕ → Answer Found
found_field key t n place stop = Ok (record { key = key; code = t; len = n; place = place; stop = stop })

-- 01's number and values for each case: the refusal; or the key, the type and the length, the place of the first element and the place after the last
abbrev pub found_says : Answer Found → Says
found_says (Err r) = refuses r
found_says (Ok x) = holds (x.key ∷ x.code ∷ x.len ∷ x.place ∷ x.stop ∷ [])

-- a value with its key
abbrev pub value_field : ℕ → Answer Value → Answer Found
value_field key (Err r) = Err r
value_field key (Ok v) = found_field key v.code v.len v.first v.stop

-- a key, and then the value after it
abbrev pub pair_field : ℕ → Use → ℕ → List ℕ → Answer Integer → Answer Found
pair_field vectors role at l (Err r) = Err r
pair_field vectors role at l (Ok i) = value_field i.bits (present vectors role i.next (drop (i.next - at) l))

-- a value alone, whose key is said to be 0; a key and its value, for so many vectors
unfoldable pub alone : Use → ℕ → List ℕ → Answer Found
alone role at l = value_field 0 (present 1 role at l)

unfoldable pub paired : ℕ → Use → ℕ → List ℕ → Answer Found
paired vectors role at l = pair_field vectors role at l (integer at l)

-- the field of a kind at the front of a list: INFO and FORMAT values have keys, and FORMAT values a vector for each person
abbrev pub field_at : Kind → ℕ → ℕ → List ℕ → Answer Found
field_at Id people at l = alone IdUse at l
field_at Allele people at l = alone AlleleUse at l
field_at Filter people at l = alone FilterUse at l
field_at Info people at l = paired 1 InfoUse at l
field_at Format people at l = paired people FormatUse at l

-- a field lies after a place and before an end
abbrev pub FoundInside : ℕ → ℕ → Answer Found → Type 0
FoundInside at end (Err r) = Unit {0}
FoundInside at end (Ok x) = (at < x.place) × (x.place ≤ x.stop) × (x.stop ≤ end)
