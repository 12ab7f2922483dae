-- What stands at a place of a block: accepted, it ends later and inside the block; refused, it is told by reading's numbers, at a place up to the end
-- of the block. Rests on the definitions of values and vectors.
use mathlib.Core.Path.{◌≡◌, refl}
use mathlib.Core.List.{List, [], ◌∷◌}
use mathlib.Core.Bool.{Bool, true, false}
use Prim.Native.Nat.{ℕ, zero, suc, ◌+◌, ◌-◌, ◌*◌, ◌/◌, ◌%◌, ◌<◌, ◌≤◌}
use native.Mathlib.Nat.{suc-mul, div-mul-le_self}
use native.Mathlib.Omega.{arith}
use lib.Dec.{ltb, leb, eqb}
use lib.ListN.{length, take, drop, length-take}
use borrow.Author.Tests.{ltb-false, leb-true}
use Rattle.words.specs.Lists.{among}
use Rattle.words.specs.Words.{outside}
use Rattle.types.specs.Rows.{row_of, width_of, allowed}
use Rattle.types.specs.Elements.{kind}
use Rattle.types.specs.declared.Element.{Element}
use Rattle.types.specs.declared.Element.TheVariants.{Plain, Missing, End, Reserved}
use Rattle.types.specs.declared.Use.{Use}
use Rattle.types.specs.declared.Use.TheVariants.{Integer as IntegerUse}
use Rattle.values.specs.Values.{integer, long_enough, true_length, in_dictionary, keyed, may_stand, with_length, described, with_elements, present}
use Rattle.vectors.specs.Vectors.{numbers, element_turn, follow, vector, and_then, vectors, judged, Sound}
use Rattle.vectors.specs.Sound.{most_of, judged_from, soundly, sound}
use Rattle.vectors.proofs.Turns.{vectors_fit}
use Rattle.refusal_laws.specs.Numbers.{reading_gives}
use Rattle.refusal_laws.specs.Refused.{Told}
use Rattle.values.specs.declared.Value.{Value}
use Rattle.values.specs.declared.Descriptor.{Descriptor}
use Rattle.std.specs.Prelude.{Err, Ok}
use Rattle.values.specs.declared.Integer.{Integer}
use Rattle.values.specs.Answers.{Answer, whole}
use Rattle.refusal_laws.proofs.Among.{tested, either, among_wider}

-- what is said of each answer at a place of a block that ends at a place
abbrev pub IntegerTold : ℕ → ℕ → Answer Integer → Type 0
IntegerTold at end (Err r) = Told reading_gives end r
IntegerTold at end (Ok i) = (at < i.next) × (i.next ≤ end)

abbrev pub DescriptorTold : ℕ → ℕ → Answer Descriptor → Type 0
DescriptorTold at end (Err r) = Told reading_gives end r
DescriptorTold at end (Ok d) = (at < d.first) × (d.first ≤ end)

abbrev pub ValueTold : ℕ → ℕ → Answer Value → Type 0
ValueTold at end (Err r) = Told reading_gives end r
ValueTold at end (Ok v) = (at < v.first) × (v.first ≤ v.stop) × (v.stop ≤ end)

-- one integer; a true length; a key
pub integer_told : (at : ℕ) (l : List ℕ) → IntegerTold at (at + length l) (integer at l)
unfolding integer among
integer_told at [] = record { number = refl; place = omega arith }
integer_told at (d ∷ rest) =
    let P = IntegerTold at (at + length (d ∷ rest)) in
    either P (allowed (row_of (d % 16)) IntegerUse) _ _
    (either P (eqb (d / 16) 1) _ _
    (tested P (ltb (length rest) (width_of (d % 16))) _ _ (λ e. record { number = refl; place = omega arith })
    (λ e. (omega arith, omega (arith, ltb-false (length rest) (width_of (d % 16)) e))))
    (record { number = refl; place = omega arith }))
    (record { number = refl; place = omega arith })

long_told : (at end : ℕ) (i : Answer Integer) → at ≤ end → IntegerTold at end i → IntegerTold at end (long_enough at i)
unfolding among
long_told at end (Err r) a h = h
long_told at end (Ok i) a h =
    let P = IntegerTold at end in
    either P (ltb i.bits 15) _ _ (record { number = refl; place = a })
    (either P (leb 0x80000000 i.bits) _ _ (record { number = refl; place = a }) h)

true_told : (at : ℕ) (l : List ℕ) → IntegerTold at (at + length l) (true_length at l)
unfolding true_length
true_told at l = long_told at (at + length l) (integer at l) (omega arith) (integer_told at l)

key_told : (strings at end : ℕ) (i : Answer Integer) → IntegerTold at end i → IntegerTold at end (in_dictionary strings at i)
unfolding among
key_told strings at end (Err r) h = h
key_told strings at end (Ok i) h =
    either (IntegerTold at end) (outside strings i.bits) _ _ (record { number = refl; place = omega arith }) h

pub keyed_told : (strings at : ℕ) (l : List ℕ) → IntegerTold at (at + length l) (keyed strings at l)
unfolding keyed
keyed_told strings at l = key_told strings at (at + length l) (integer at l) (integer_told at l)

-- a descriptor; a value that is there
length_told : (t at end stop : ℕ) (i : Answer Integer) → end ≤ stop → IntegerTold (at + 1) end i → DescriptorTold at stop (with_length t i)
length_told t at end stop (Err r) e h = record { number = h.number; place = omega arith }
length_told t at end stop (Ok i) e h = (omega arith, omega arith)

described_told : (role : Use) (at : ℕ) (l : List ℕ) → DescriptorTold at (at + length l) (described role at l)
unfolding described among
described_told role at [] = record { number = refl; place = omega arith }
described_told role at (d ∷ rest) =
    let P = DescriptorTold at (at + length (d ∷ rest)) in
    either P (may_stand role (d % 16) (d / 16)) _ _
    (either P (ltb (d / 16) 15) _ _ (omega arith, omega arith)
    (length_told (d % 16) at (at + 1 + length rest) (at + length (d ∷ rest)) (true_length (at + 1) rest) (omega arith) (true_told (at + 1) rest)))
    (record { number = refl; place = omega arith })

elements_told : (vectors at end : ℕ) (d : Answer Descriptor) → DescriptorTold at end d → ValueTold at end (with_elements vectors end d)
unfolding among
elements_told vectors at end (Err r) h = h
elements_told vectors at end (Ok d) h =
    tested (ValueTold at end) (leb (d.first + vectors * d.len * width_of d.code) end) _ _ (λ e. (h.0, omega arith, leb-true _ _ e))
    (λ e. record { number = refl; place = omega arith })

pub present_told : (vectors : ℕ) (role : Use) (at : ℕ) (l : List ℕ) → ValueTold at (at + length l) (present vectors role at l)
unfolding present
present_told vectors role at l = elements_told vectors at (at + length l) (described role at l) (described_told role at l)

-- elements, judged: refused with some of these numbers at a place up to an end
abbrev pub JudgedTold : List ℕ → ℕ → Answer (Unit {0}) → Type 0
JudgedTold ns end (Err r) = Told ns end r
JudgedTold ns end Sound = Unit {0}

-- an element is refused with 9 or 10
abbrev pub element_gives : List ℕ
element_gives = 9 ∷ 10 ∷ []

pub turn_told : (ns : List ℕ) (most at end : ℕ) (ended : Bool) (k : Element) (x : ℕ) (rest : Bool → Answer (Unit {0})) → among 9 ns ≡ true
    → (ltb most x ≡ true → among 10 ns ≡ true) → at ≤ end → ((b : Bool) → JudgedTold ns end (rest b))
    → JudgedTold ns end (follow at (element_turn most ended k x) rest)
turn_told ns most at end ended Reserved x rest nine ten h on = record { number = nine; place = h }
turn_told ns most at end ended End x rest nine ten h on = on true
turn_told ns most at end true Missing x rest nine ten h on = record { number = nine; place = h }
turn_told ns most at end false Missing x rest nine ten h on = on false
turn_told ns most at end true Plain x rest nine ten h on = record { number = nine; place = h }
turn_told ns most at end false Plain x rest nine ten h on =
    tested (λ u. JudgedTold ns end (follow at u rest)) (ltb most x) (Err 10) (Ok false) (λ e. record { number = ten e; place = h }) (λ e. on false)

pub vector_told : (most t w at end : ℕ) (ended : Bool) (xs : List ℕ) → at + length xs * w ≤ end
    → JudgedTold element_gives end (vector most t w at ended xs)
unfolding vector among
vector_told most t w at end ended [] h = tt
vector_told most t w at end ended (x ∷ xs) h =
    let room : at + w + length xs * w ≤ end = omega (arith, suc-mul (length xs) w) in
    turn_told element_gives most at end ended (kind t x) x _ refl (λ e. refl) (omega arith) (λ b. vector_told most t w (at + w) end b xs room)

pub and_told : (ns : List ℕ) (end : ℕ) (j next : Answer (Unit {0})) → JudgedTold ns end j → JudgedTold ns end next → JudgedTold ns end (and_then j next)
and_told ns end (Err r) next h k = h
and_told ns end Sound next h k = k

length_numbers : (w n : ℕ) (l : List ℕ) → length (numbers w n l) ≡ n
unfolding numbers
length_numbers w zero l = refl
length_numbers w (suc n) l = rw (length_numbers w n (drop w l))

vectors_told : (most t w len n at end : ℕ) (l : List ℕ) → at + n * (len * w) ≤ end → JudgedTold element_gives end (vectors most t w len n at l)
unfolding vectors
vectors_told most t w len zero at end l h = tt
vectors_told most t w len (suc n) at end l h =
    let more = suc-mul n (len * w) in
    let one : at + length (numbers w len l) * w ≤ end = rw (length_numbers w len l) (omega arith) in
    and_told element_gives end (vector most t w at false (numbers w len l)) (vectors most t w len n (at + len * w) (drop (len * w) l))
    (vector_told most t w at end false (numbers w len l) one)
    (vectors_told most t w len n (at + len * w) end (drop (len * w) l) (omega arith))

pub judged_told : (most t len : ℕ) (l : List ℕ) → JudgedTold element_gives (length l) (judged most t len l)
unfolding judged
judged_told most t len l =
    let w = width_of t in
    let n = length l / w in
    vectors_told most t w len (n / len) 0 (length l) l
    (vectors_fit (n / len) n len w (length l) (div-mul-le_self n len) (div-mul-le_self (length l) w))

-- a part of a block is no longer than it says
pub part_short : (first stop k : ℕ) (l : List ℕ) → length (take (stop - first) (drop k l)) ≤ stop - first
part_short first stop k l = rw length-take (omega arith)

-- a sound value
from_told : (at end first : ℕ) (v : Answer Value) (j : Answer (Unit {0})) (m : ℕ) → first + m ≤ end → JudgedTold element_gives m j → ValueTold at end v
    → ValueTold at end (judged_from first v j)
unfolding among
from_told at end first v Sound m e h k = k
from_told at end first v (Err r) m e h k =
    record { number = among_wider r.number element_gives reading_gives refl h.number; place = omega (arith, h.place) }

soundly_told : (alleles : ℕ) (role : Use) (at end : ℕ) (l : List ℕ) (v : Answer Value) → ValueTold at end v → ValueTold at end (soundly alleles role at l v)
soundly_told alleles role at end l (Err r) h = h
soundly_told alleles role at end l (Ok v) h =
    let part = take (v.stop - v.first) (drop (v.first - at) l) in
    let short = part_short v.first v.stop (v.first - at) l in
    from_told at end v.first (whole v.code v.len v.first v.stop) (judged (most_of role alleles v.code) v.code v.len part) (length part) (omega (arith, short))
    (judged_told (most_of role alleles v.code) v.code v.len part) h

pub sound_told : (vectors alleles : ℕ) (role : Use) (at : ℕ) (l : List ℕ) → ValueTold at (at + length l) (sound vectors alleles role at l)
unfolding sound
sound_told vectors alleles role at l =
    soundly_told alleles role at (at + length l) l (present vectors role at l) (present_told vectors role at l)
