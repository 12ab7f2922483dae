-- What stands at a place ends later and inside its block, by the definitions alone: integers, descriptors, values, fields, runs of
-- fields. Rests on values' definitions and specs/Fetch.
use mathlib.Core.Path.{◌≡◌, refl}
use mathlib.Core.List.{List, [], ◌∷◌}
use mathlib.Core.Bool.{Bool, true, false}
use Prim.Native.Nat.{ℕ, zero, suc, ◌+◌, ◌-◌, ◌*◌, ◌/◌, ◌%◌, ◌≤◌}
use native.Mathlib.Omega.{arith}
use lib.Dec.{ltb, leb, eqb}
use lib.ListN.{length, drop, length-drop}
use borrow.Author.Tests.{ltb-false, leb-true}
use lib.Seq.{drop-drop}
use Rattle.words.specs.Pick.{pick}
use Rattle.words.specs.Words.{outside}
use Rattle.types.specs.Rows.{row_of, width_of, allowed}
use Rattle.types.specs.declared.Use.{Use}
use Rattle.types.specs.declared.Use.TheVariants.{Integer as IntegerUse, Id as IdUse, Allele as AlleleUse, Filter as FilterUse, Info as InfoUse, Format as FormatUse}
use Rattle.values.specs.Answers.{IntegerInside, DescriptorInside, ValueInside, Answer}
use Rattle.values.specs.Values.{integer, in_dictionary, keyed, long_enough, true_length, with_length, may_stand, described, with_elements, present}
use Rattle.site.specs.Steps.{then, times}
use Rattle.fetch.specs.Fields.{value_field, pair_field, alone, paired, field_at, FoundInside}
use Rattle.fetch.specs.Engine.{field_step, passing, past}
use Rattle.fetch.proofs.Fields.{value_found, found_on}
use Rattle.fetch.specs.declared.Kind.{Kind}
use Rattle.fetch.specs.declared.Found.{Found}
use Rattle.values.specs.declared.Descriptor.{Descriptor}
use Rattle.std.specs.Prelude.{Err, Ok}
use Rattle.values.specs.declared.Integer.{Integer}
use Rattle.fetch.specs.declared.Kind.TheVariants.{Id, Allele, Filter, Info, Format}

-- what holds of both branches of a test, whichever the test says
tested : {A : Type 0} (P : A → Type 0) (b : Bool) (x y : A) → (b ≡ true → P x) → (b ≡ false → P y) → P (pick b x y)
tested P true x y h k = h refl
tested P false x y h k = k refl

either : {A : Type 0} (P : A → Type 0) (b : Bool) (x y : A) → P x → P y → P (pick b x y)
either P b x y h k = tested P b x y (λ e. h) (λ e. k)

pub integer_inside : (at : ℕ) (l : List ℕ) → IntegerInside at (at + length l) (integer at l)
unfolding integer
integer_inside at [] = tt
integer_inside at (d ∷ rest) =
    let P = IntegerInside at (at + length (d ∷ rest)) in
    either P (allowed (row_of (d % 16)) IntegerUse) _ _
    (either P (eqb (d / 16) 1) _ _
    (tested P (ltb (length rest) (width_of (d % 16))) _ _ (λ e. tt)
    (λ e. (omega arith, omega (arith, ltb-false (length rest) (width_of (d % 16)) e)))) tt) tt

pub keyed_inside : (strings at : ℕ) (l : List ℕ) → IntegerInside at (at + length l) (keyed strings at l)
unfolding keyed
keyed_inside strings at l = by_key (integer at l) (integer_inside at l)
  where
    by_key : (i : Answer Integer) → IntegerInside at (at + length l) i → IntegerInside at (at + length l) (in_dictionary strings at i)
    by_key (Err r) h = tt
    by_key (Ok i) h = either (IntegerInside at (at + length l)) (outside strings i.bits) _ _ tt h

long_inside : (at end : ℕ) (i : Answer Integer) → IntegerInside at end i → IntegerInside at end (long_enough at i)
long_inside at end (Err r) h = tt
long_inside at end (Ok i) h =
    either (IntegerInside at end) (ltb i.bits 15) _ _ tt (either (IntegerInside at end) (leb 0x80000000 i.bits) _ _ tt h)

length_inside : (t at end stop : ℕ) (i : Answer Integer) → end ≤ stop → IntegerInside (at + 1) end i → DescriptorInside at stop (with_length t i)
length_inside t at end stop (Err r) e h = tt
length_inside t at end stop (Ok i) e h = (omega arith, omega arith)

described_inside : (role : Use) (at : ℕ) (l : List ℕ) → DescriptorInside at (at + length l) (described role at l)
unfolding described true_length
described_inside role at [] = tt
described_inside role at (d ∷ rest) =
    let P = DescriptorInside at (at + length (d ∷ rest)) in
    let i = integer (at + 1) rest in
    either P (may_stand role (d % 16) (d / 16)) _ _
    (either P (ltb (d / 16) 15) _ _ (omega arith, omega arith)
    (length_inside (d % 16) at (at + 1 + length rest) (at + length (d ∷ rest)) (long_enough (at + 1) i) (omega arith)
    (long_inside (at + 1) (at + 1 + length rest) i (integer_inside (at + 1) rest)))) tt

elements_inside : (vectors at end : ℕ) (d : Answer Descriptor) → DescriptorInside at end d → ValueInside at end (with_elements vectors end d)
elements_inside vectors at end (Err r) h = tt
elements_inside vectors at end (Ok d) h =
    tested (ValueInside at end) (leb (d.first + vectors * d.len * width_of d.code) end) _ _ (λ e. (h.0, omega arith, leb-true _ _ e)) (λ e. tt)

pub present_inside : (vectors : ℕ) (role : Use) (at : ℕ) (l : List ℕ) → ValueInside at (at + length l) (present vectors role at l)
unfolding present
present_inside vectors role at l = elements_inside vectors at (at + length l) (described role at l) (described_inside role at l)

key_inside : (vectors : ℕ) (role : Use) (at : ℕ) (l : List ℕ) (i : Answer Integer) → IntegerInside at (at + length l) i
    → FoundInside at (at + length l) (pair_field vectors role at l i)
key_inside vectors role at l (Err r) h = tt
key_inside vectors role at l (Ok i) h =
    let m = drop (i.next - at) l in
    let e : i.next + length m ≤ at + length l = rw (length-drop (i.next - at) l) (omega arith) in
    found_on (value_field i.bits (present vectors role i.next m)) i.next at (i.next + length m) (at + length l) (omega arith) e
    (value_found i.bits (present vectors role i.next m) i.next i.next (i.next + length m) (omega arith) (present_inside vectors role i.next m))

alone_inside : (role : Use) (at : ℕ) (l : List ℕ) → FoundInside at (at + length l) (alone role at l)
unfolding alone
alone_inside role at l = value_found 0 (present 1 role at l) at at (at + length l) (omega arith) (present_inside 1 role at l)

pub paired_inside : (vectors : ℕ) (role : Use) (at : ℕ) (l : List ℕ) → FoundInside at (at + length l) (paired vectors role at l)
unfolding paired
paired_inside vectors role at l = key_inside vectors role at l (integer at l) (integer_inside at l)

pub field_inside : (kind : Kind) (people at : ℕ) (l : List ℕ) → FoundInside at (at + length l) (field_at kind people at l)
field_inside Id people at l = alone_inside IdUse at l
field_inside Allele people at l = alone_inside AlleleUse at l
field_inside Filter people at l = alone_inside FilterUse at l
field_inside Info people at l = paired_inside 1 InfoUse at l
field_inside Format people at l = paired_inside people FormatUse at l

-- a step does not go back
abbrev pub StepLater : ℕ → Answer ℕ → Type 0
StepLater at (Err r) = Unit {0}
StepLater at (Ok q) = at ≤ q

field_later : (at end : ℕ) (r : Answer Found) → FoundInside at end r → StepLater at (field_step r)
field_later at end (Err r) h = tt
field_later at end (Ok x) h = omega arith

pub passing_later : (kind : Kind) (people at : ℕ) (l : List ℕ) → StepLater at (passing kind people at l)
unfolding passing
passing_later kind people at l = field_later at (at + length l) (field_at kind people at l) (field_inside kind people at l)

later_on : (at q : ℕ) (p : Answer ℕ) → at ≤ q → StepLater q p → StepLater at p
later_on at q (Err r) h k = tt
later_on at q (Ok e) h k = omega arith

pub then_later : (at : ℕ) (l : List ℕ) (p : Answer ℕ) (next : ℕ → List ℕ → Answer ℕ) → StepLater at p → ((q : ℕ) (m : List ℕ) → StepLater q (next q m))
    → StepLater at (then at l p next)
then_later at l (Err r) next h k = tt
then_later at l (Ok q) next h k = later_on at q (next q (drop (q - at) l)) h (k q (drop (q - at) l))

pub past_later : (kind : Kind) (people n at : ℕ) (l : List ℕ) → StepLater at (past kind people n at l)
unfolding past times
past_later kind people zero at l = omega arith
past_later kind people (suc n) at l =
    then_later at l (passing kind people at l) (past kind people n) (passing_later kind people at l) (past_later kind people n)

-- on from one place to a later one and then to another
pub drop_past : (l : List ℕ) (at p q : ℕ) → at ≤ p → p ≤ q → drop (q - p) (drop (p - at) l) ≡ drop (q - at) l
drop_past l at p q h k = let e : p - at + (q - p) ≡ q - at = omega arith in rw (drop-drop (q - p) (p - at) l, e)
