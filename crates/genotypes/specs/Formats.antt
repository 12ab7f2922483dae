-- FORMAT fields: a key, no key twice, and people times length elements, each person's vector in turn; GT has its own rule.
-- Rests on values and vectors.
use Rattle.std.specs.Prelude.{ℕ, zero, suc, ◌+◌, ◌-◌, ◌*◌, min, ◌<◌, ◌≤◌, List, [], ◌∷◌, ◌++◌, eqb, length, take, drop, Err, Ok}
use Rattle.words.specs.Lists.{among}
use Rattle.words.specs.Pick.{pick}
use Rattle.types.specs.Rows.{width_of}
use Rattle.types.specs.declared.Use.{Use}
use Rattle.types.specs.declared.Use.TheVariants.{Format, Gt as GtUse}
use Rattle.values.specs.Answers.{refusal, Says, refuses, holds, Answer}
use Rattle.values.specs.Values.{keyed}
use Rattle.values.specs.declared.Refusal.{Refusal}
use Rattle.vectors.specs.Sound.{sound}
use Rattle.genotypes.specs.declared.FormatField.{FormatField}
use Rattle.values.specs.declared.Value.{Value}
use Rattle.values.specs.declared.Integer.{Integer}
use Rattle.genotypes.specs.declared.Gt.{Gt}

-- 01's number and values for each case: a field, refused or with its key, type, length for each person, and the places of its first element and after
-- its last; the block, refused or sound, with where GT stands
abbrev pub no_field : ℕ → ℕ → Answer FormatField
no_field n p = Err (refusal n p)

abbrev pub whole_field : ℕ → ℕ → ℕ → ℕ → ℕ → Answer FormatField
whole_field key t n first stop = Ok (record { key = key; code = t; len = n; first = first; stop = stop })

abbrev pub field_says : Answer FormatField → Says
field_says (Err r) = refuses r
field_says (Ok w) = holds (w.key ∷ w.code ∷ w.len ∷ w.first ∷ w.stop ∷ [])

abbrev pub no_genotypes : ℕ → ℕ → Answer Gt
no_genotypes n p = Err (refusal n p)

-- where GT stands: type, length for each person, place of its first element
abbrev pub gt_at : ℕ → ℕ → ℕ → Gt
gt_at t n first = record { code = t; len = n; first = first }

abbrev pub no_gt : Gt
no_gt = gt_at 0 0 0

-- the bytes of GT's elements for so many people, in the slice that holds the record, as far as it goes
abbrev pub gt_part : ℕ → Gt → List ℕ → List ℕ
gt_part people g s = take (people * g.len * width_of g.code) (drop g.first s)

-- and where they stand in the slice: at GT's place, or at the slice's end
unfoldable pub gt_part_at : Gt → List ℕ → ℕ
gt_part_at g s = min g.first (length s)

abbrev pub gt_values : Gt → List ℕ
gt_values g = g.code ∷ g.len ∷ g.first ∷ []

abbrev pub genotypes_says : Answer Gt → Says
genotypes_says (Err r) = refuses r
genotypes_says (Ok g) = holds (gt_values g)

-- the key that is GT's makes its value GT
unfoldable pub role_of : ℕ → ℕ → Use
role_of key gt = pick (eqb key gt) GtUse Format

unfoldable pub gt_now : ℕ → ℕ → Gt → Gt → Gt
gt_now key gt field known = pick (eqb key gt) field known

-- a field's value, with its key
abbrev pub with_value : ℕ → Answer Value → Answer FormatField
with_value key (Err r) = Err r
with_value key (Ok v) = whole_field key v.code v.len v.first v.stop

-- a field's key: 11 at its element where it stood earlier; then the value, by its use
abbrev pub after_key : ℕ → ℕ → ℕ → List ℕ → ℕ → List ℕ → Answer Integer → Answer FormatField
after_key people gt alleles earlier at l (Err r) = Err r
after_key people gt alleles earlier at l (Ok i) =
    pick (among i.bits earlier) (no_field 11 (at + 1)) (with_value i.bits (sound people alleles (role_of i.bits gt) i.next (drop (i.next - at) l)))

-- one field, under the dictionary's size, the people, GT's offset and the alleles; after earlier keys
unfoldable pub format_field : ℕ → ℕ → ℕ → ℕ → List ℕ → ℕ → List ℕ → Answer FormatField
format_field strings people gt alleles earlier at l = after_key people gt alleles earlier at l (keyed strings at l)

-- what is known before a field: the keys of those before it, GT as far as it is among them, the place, and what is left of the block
pub record Before : Type 0 where
  pub earlier : List ℕ
  pub known : Gt
  pub at : ℕ
  pub left : List ℕ

-- what comes of a field: its refusal, or what is known before the next
pub data Came : Type 0 where
  refused_by : Refusal → Came
  came_to : Before → Came

-- after a field its key is an earlier one, and the field is GT where its key is GT's; the next stands where it ends
abbrev pub after_field : ℕ → Before → Answer FormatField → Came
after_field gt b (Err r) = refused_by r
after_field gt b (Ok w) =
    came_to (record {
      earlier = b.earlier ++ (w.key ∷ []);
      known = gt_now w.key gt (gt_at w.code w.len w.first) b.known;
      at = w.stop;
      left = drop (w.stop - b.at) b.left;
    })

abbrev pub format_step : ℕ → ℕ → ℕ → ℕ → Before → Came
format_step strings people gt alleles b = after_field gt b (format_field strings people gt alleles b.earlier b.at b.left)

-- the same step so many times, one after the other
abbrev pub and_on : Came → (Before → Came) → Came
and_on (refused_by r) next = refused_by r
and_on (came_to b) next = next b

unfoldable pub so_many : (Before → Came) → ℕ → Before → Came
so_many step zero b = came_to b
so_many step (suc n) b = and_on (step b) (so_many step n)

-- no field is left: the end of the block, or the first byte over
abbrev pub none_over : Gt → ℕ → List ℕ → Answer Gt
none_over known at [] = Ok known
none_over known at (b ∷ rest) = no_genotypes 4 at

abbrev pub all_read : Came → Answer Gt
all_read (refused_by r) = Err r
all_read (came_to b) = none_over b.known b.at b.left

-- so many fields, one after the other, and then the end of the block; after earlier keys, with GT as far as it is known
unfoldable pub formats : ℕ → ℕ → ℕ → ℕ → ℕ → List ℕ → Gt → ℕ → List ℕ → Answer Gt
formats strings people gt alleles n earlier known at l =
    all_read (so_many (format_step strings people gt alleles) n (record { earlier = earlier; known = known; at = at; left = l }))

-- a field lies after a place, and in the block, which has so many bytes
abbrev pub FieldInside : ℕ → ℕ → Answer FormatField → Type 0
FieldInside at end (Err r) = Unit {0}
FieldInside at end (Ok w) = (at < w.first) × (w.first ≤ w.stop) × (w.stop ≤ end)
