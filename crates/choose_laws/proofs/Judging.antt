-- Elements of everybody that are judged sound are sound for the chosen people. Rests on vectors' judging and on proofs/Numbers.
use mathlib.Core.Path.{◌≡◌, refl}
use mathlib.Core.List.{List, [], ◌∷◌, ◌++◌}
use mathlib.Core.Bool.{Bool, true, false}
use Prim.Native.Nat.{ℕ, zero, suc, ◌+◌, ◌*◌, ◌/◌, ◌<◌, ◌≤◌}
use native.Mathlib.Omega.{arith}
use native.Mathlib.Nat.{suc-mul, zero-mul, mul_comm, mul-zero, zero-div, div-div-eq-div-mul, div-eq_of_eq-mul_left}
use lib.Dec.{ltb}
use lib.ListN.{length, take, drop, length-drop}
use lib.Seq.{length-take-le, take_at, drop_at, drop-drop}
use Rattle.types.specs.Rows.{width_of}
use Rattle.types.specs.Elements.{kind}
use Rattle.types.specs.declared.Element.{Element}
use Rattle.types.specs.declared.Element.TheVariants.{Plain, Missing, End, Reserved}
use Rattle.vectors.specs.Vectors.{numbers, element_turn, follow, vector, and_then, vectors, judged, Sound}
use Rattle.fetch_laws.proofs.Bytes.{part_of_lem}
use Rattle.choice.specs.Choice.{ascending_from, chosen_parts}
use Rattle.choice.proofs.Choice.{ascends, part_inside, length_chosen_parts}
use Rattle.std.specs.Prelude.{Err}
use Rattle.values.specs.Answers.{Answer}
use Rattle.fetch_laws.proofs.Fronts.{numbers_take}

-- a vector that is sound at one place is sound at any
vector_anywhere : (most t w at at' : ℕ) (e : Bool) (xs : List ℕ) → vector most t w at e xs ≡ Sound → vector most t w at' e xs ≡ Sound
unfolding vector
vector_anywhere most t w at at' e [] h = refl
vector_anywhere most t w at at' e (x ∷ xs) h =
    by_kind (kind t x) e h (λ b. vector_anywhere most t w (at + w) (at' + w) b xs)
  where
    Rest : Type 0
    Rest = (b : Bool) → vector most t w (at + w) b xs ≡ Sound → vector most t w (at' + w) b xs ≡ Sound

    by_kind : (k : Element) (b : Bool) → follow at (element_turn most b k x) (λ b. vector most t w (at + w) b xs) ≡ Sound → Rest
        → follow at' (element_turn most b k x) (λ b. vector most t w (at' + w) b xs) ≡ Sound
    by_kind End b s on = on true s
    by_kind Reserved b s on = cc
    by_kind Missing true s on = cc
    by_kind Missing false s on = on false s
    by_kind Plain true s on = cc
    by_kind Plain false s on = by_most (ltb most x) refl
      where
        by_most : (q : Bool) → ltb most x ≡ q
            → follow at' (element_turn most false Plain x) (λ b. vector most t w (at' + w) b xs) ≡ Sound
        by_most true g = let z = rw g at s in cc
        by_most false g = rw g (on false (rw g at s))

pub both_sound : (a b : Answer (Unit {0})) → and_then a b ≡ Sound → (a ≡ Sound) × (b ≡ Sound)
both_sound Sound b h = (refl, h)
both_sound (Err r) b h = let z : ◌≡◌ {A = ℕ} 0 1 = cc in absurd (omega arith)

-- each person of sound people is sound
vectors_person : (most t w len n at at' c : ℕ) (l : List ℕ) → c < n → vectors most t w len n at l ≡ Sound
    → vector most t w at' false (numbers w len (drop (c * (len * w)) l)) ≡ Sound
unfolding vectors
vectors_person most t w len zero at at' c l h s = absurd (omega arith)
vectors_person most t w len (suc n) at at' zero l h s =
    rw zero-mul (vector_anywhere most t w at at' false _ (both_sound (vector most t w at false (numbers w len l)) _ s).0)
vectors_person most t w len (suc n) at at' (suc c) l h s =
    let size = len * w in
    let on = (both_sound (vector most t w at false (numbers w len l)) _ s).1 in
    let e : size + c * size ≡ suc c * size = omega (arith, suc-mul c size) in
    rw (drop-drop (c * size) size l, e) at (vectors_person most t w len n (at + size) at' c (drop size l) (omega arith) on)

-- the numbers at the front of a list are those of its bytes, whatever follows
numbers_front : (w n : ℕ) (l m : List ℕ) → n * w ≤ length l → numbers w n (take (n * w) l ++ m) ≡ numbers w n l
numbers_front w n l m h =
    numbers_take w n (take (n * w) l ++ m) l (take_at (take (n * w) l) m (n * w) (length-take-le (n * w) l h))

-- so people chosen from them are sound
vectors_chosen_parts : (most t w len least people at : ℕ) (cs l : List ℕ) → ascending_from least people cs ≡ true → people * (len * w) ≤ length l
    → vectors most t w len people 0 l ≡ Sound → vectors most t w len (length cs) at (chosen_parts (len * w) cs l) ≡ Sound
unfolding vectors chosen_parts
vectors_chosen_parts most t w len least people at [] l h r s = refl
vectors_chosen_parts most t w len least people at (c ∷ cs) l h r s =
    let size = len * w in
    let a = ascends least people c cs h in
    let p = part_inside c people size (length l) a.below r in
    let k : size ≤ length (drop (c * size) l) = rw length-drop (omega arith) in
    let rest = chosen_parts size cs l in
    rw (
      numbers_front w len (drop (c * size) l) rest k,
      vectors_person most t w len people 0 at c l a.below s,
      drop_at (take size (drop (c * size) l)) rest size (length-take-le size (drop (c * size) l) k),
    )
    (vectors_chosen_parts most t w len (suc c) people (at + size) cs l a.rest r s)

-- so many vectors that fill a part are all that is judged of it
judged_vectors : (most t len k : ℕ) (l : List ℕ) → 0 < len * width_of t → length l ≡ k * (len * width_of t)
    → judged most t len l ≡ vectors most t (width_of t) len k 0 l
unfolding judged
judged_vectors most t len k l p h =
    let e : length l / width_of t / len ≡ k =
    rw (div-div-eq-div-mul (length l) (width_of t) len, mul_comm (width_of t) len) (div-eq_of_eq-mul_left p h) in
    rw e

-- nothing is sound
judged_none : (most t len : ℕ) (l : List ℕ) → length l ≡ 0 → judged most t len l ≡ Sound
unfolding judged vectors
judged_none most t len l h = rw (h, zero-div (width_of t), zero-div len)

-- a choice takes what it takes of everybody's parts
pub chosen_parts_take : (size least people : ℕ) (cs l : List ℕ) → ascending_from least people cs ≡ true
    → chosen_parts size cs (take (people * size) l) ≡ chosen_parts size cs l
unfolding chosen_parts
chosen_parts_take size least people [] l h = refl
chosen_parts_take size least people (c ∷ cs) l h =
    let a = ascends least people c cs h in
    let p = part_inside c people size (people * size) a.below (omega arith) in
    rw (part_of_lem l (c * size) size (people * size) p, chosen_parts_take size (suc c) people cs l a.rest)

-- the law: elements of everybody that are judged sound are sound for the chosen people
pub judged_chosen_parts : (most t len people : ℕ) (cs l : List ℕ) → ascending_from 0 people cs ≡ true → length l ≡ people * (len * width_of t)
    → judged most t len l ≡ Sound → judged most t len (chosen_parts (len * width_of t) cs l) ≡ Sound
judged_chosen_parts most t len people cs l h e s = by_size (len * width_of t) refl
  where
    n : length (chosen_parts (len * width_of t) cs l) ≡ length cs * (len * width_of t)
    n = length_chosen_parts (len * width_of t) 0 people cs l h (omega arith)

    by_size : (size : ℕ) → len * width_of t ≡ size → judged most t len (chosen_parts (len * width_of t) cs l) ≡ Sound
    by_size zero q = judged_none most t len _ (rw (n, q) (mul-zero (length cs)))
    by_size (suc size) q =
        let p : 0 < len * width_of t = omega arith in
        rw (judged_vectors most t len (length cs) (chosen_parts (len * width_of t) cs l) p n)
        (vectors_chosen_parts most t (width_of t) len 0 people 0 cs l h (omega arith) (rw (judged_vectors most t len people l p e) at s))
