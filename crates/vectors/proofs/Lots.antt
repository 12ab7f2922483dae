-- A part taken piece by piece from its front: elements, vectors, and lots of vectors. Rests on specs/Engine and on Plain.
use Rattle.std.proofs.Common.{◌≡◌, Bool, ◌⊎◌, refl, true, false, ap, ◌∙◌, ℕ, zero, suc, ◌+◌, ◌*◌, ◌-◌, ◌/◌, ◌<◌, ◌≤◌, min, List, [], ◌∷◌, ◌++◌, length, take, drop, inl, inr, arith, append-nil, length-append}
use Rattle.std.proofs.Math.Nat.{div-div-eq-div-mul, div-zero, mul_assoc, le-div_iff_mul-le, div-mul-le_self, mul-add-div_right, mul-div_cancel, div_self, mul_comm, suc-mul, div-eq_of_lt}
use Rattle.std.proofs.Math.Seq.{drop-append_seam, take-append_seam}
use Rattle.std.proofs.lemmas.Bool.{cases_lt}
use Rattle.std.proofs.lemmas.List.{take_all, length-drop, take-append-le, drop-append-le, nil_from_length}
use Rattle.words.specs.Words.{number}
use Rattle.types.specs.Rows.{width_of}
use Rattle.vectors.specs.Engine.{all_passed, judged_at}
use Rattle.vectors.specs.Vectors.{numbers, follow, vector, vectors, and_then, judged, JudgedInside, Sound}
use Rattle.std.specs.Prelude.{Err, Result, Ok}
use Rattle.values.specs.Answers.{Answer}
use Rattle.vectors.proofs.Plain.{Passing, all_on, all_more, on_split, vectors_add, vectors_on}

pub length_cut : (all x rest : List ℕ) → all ≡ x ++ rest → length all ≡ length x + length rest
length_cut all x rest e = ap length e ∙ length-append x rest

-- what stands at the front does not depend on what follows it
number_front : (w : ℕ) (x y : List ℕ) → w ≤ length x → number w (x ++ y) ≡ number w x
unfolding number
number_front w x y h = rw (take-append-le w x y h)

numbers_front : (w n : ℕ) (x y : List ℕ) → n * w ≤ length x → numbers w n (x ++ y) ≡ numbers w n x
unfolding numbers
numbers_front w zero x y h = refl
numbers_front w (suc n) x y h =
    let f : w ≤ length x = omega (arith, suc-mul n w) in
    let r : n * w ≤ length (drop w x) = rw length-drop (omega (arith, suc-mul n w)) in
    rw (number_front w x y f, drop-append-le w x y f, numbers_front w n (drop w x) y r)

vectors_front : (most t w len n at : ℕ) (x y : List ℕ) → n * (len * w) ≤ length x → vectors most t w len n at (x ++ y) ≡ vectors most t w len n at x
unfolding vectors
vectors_front most t w len zero at x y h = refl
vectors_front most t w len (suc n) at x y h =
    let f : len * w ≤ length x = omega (arith, suc-mul n (len * w)) in
    let r : n * (len * w) ≤ length (drop (len * w) x) = rw length-drop (omega (arith, suc-mul n (len * w))) in
    rw (numbers_front w len x y f, drop-append-le (len * w) x y f, vectors_front most t w len n (at + len * w) (drop (len * w) x) y r)

-- the elements of a part: the first, and the others
pub numbers_chunk : (w : ℕ) (all x rest : List ℕ) → (0 < w) × (w ≤ 4) → all ≡ x ++ rest → length x ≡ w
    → numbers w (length all / w) all ≡ number 4 x ∷ numbers w (length rest / w) rest
unfolding numbers number
numbers_chunk w all x rest h e l =
    let n : length all / w ≡ suc (length rest / w) =
    rw (e, length-append, l) (ap (λ k. k / w) (omega arith) ∙ mul-add-div_right h.0 1 (length rest) ∙ omega arith) in
    let front : take w (x ++ rest) ≡ x = rw l at (take-append_seam {A = ℕ} x rest) in
    let back : drop w (x ++ rest) ≡ rest = rw l at (drop-append_seam {A = ℕ} x rest) in
    rw (n, e, front, back, take_all 4 x (omega arith))

pub numbers_none : (w : ℕ) (l : List ℕ) → length l < w → numbers w (length l / w) l ≡ []
unfolding numbers
numbers_none w l h = rw (div-eq_of_lt h)

-- the vectors of a part: so many of them, and the others
judged_split : (most t len w size at m : ℕ) (x rest : List ℕ) → w ≡ width_of t → (size ≡ len * w) × (0 < size) → length x ≡ m * size
    → judged_at most t len at (x ++ rest) ≡ and_then (judged_at most t len at x) (judged_at most t len (at + length x) rest)
unfolding judged_at
judged_split most t len w size at m x rest h (q, p) e =
    let n : length (x ++ rest) / size ≡ m + length rest / size = rw (length-append, e) (mul-add-div_right p m (length rest)) in
    let k : length x / size ≡ m = rw e (mul-div_cancel m p) in
    let back : drop (m * size) (x ++ rest) ≡ rest = rw e at (drop-append_seam {A = ℕ} x rest) in
    rw (← h, ← q, n, k, vectors_add most t w len m (length rest / size) at (x ++ rest), ← q, back, vectors_front most t w len m at x rest (rw (e, q) (omega arith)), e)

and_sound : (a : Answer (Unit {0})) → and_then a Sound ≡ a
and_sound Sound = refl
and_sound (Err r) = refl

pos-of_mul : (a b : ℕ) → 0 < a * b → 0 < b
pos-of_mul a zero h = absurd (omega arith)
pos-of_mul a (suc b) h = omega arith

-- a part of vectors of so many bytes: the first, and the others
pub judged_vector : (most t len w size at : ℕ) (all x rest : List ℕ) → w ≡ width_of t → (size ≡ len * w) × (0 < size) → all ≡ x ++ rest → length x ≡ size
    → judged_at most t len at all ≡ and_then (vector most t w at false (numbers w (length x / w) x)) (judged_at most t len (at + size) rest)
unfolding vectors judged_at
judged_vector most t len w size at all x rest h (q, p) e l =
    let some : 0 < w = pos-of_mul len w (omega arith) in
    let n : length x / w ≡ len = rw (l, q) (mul-div_cancel len some) in
    let one : length x / (len * width_of t) ≡ 1 = rw (← h, ← q, l) (div_self p) in
    rw (e, judged_split most t len w size at 1 x rest h (q, p) (omega (arith, l)), one, and_sound, ← h, n, l)

-- less than a vector
pub judged_none : (most t len w size at : ℕ) (l : List ℕ) → w ≡ width_of t → size ≡ len * w → length l < size → judged_at most t len at l ≡ Sound
unfolding judged_at vectors
judged_none most t len w size at l e q h = rw (← e, ← q, div-eq_of_lt h)

-- so many vectors or all that are left, and the others
pub judged_lot : (most t len w size at many top : ℕ) (all x rest : List ℕ) → w ≡ width_of t → (size ≡ len * w) × (0 < size) → all ≡ x ++ rest
    → length x ≡ min (min (size * many) top) (length all) → length all ≤ top
    → judged_at most t len at all ≡ and_then (judged_at most t len at x) (judged_at most t len (at + length x) rest)
judged_lot most t len w size at many top all x rest h (q, p) e l r =
    let n = length_cut all x rest e in
    elim (cases_lt (length all) (size * many)) [
      | inl short ↦
          let none : rest ≡ [] = nil_from_length rest (omega arith) in
          rw (e, none, append-nil, judged_none most t len w size (at + length x) [] h q p, and_sound)
      | inr long ↦ rw e (judged_split most t len w size at many x rest h (q, p) (omega (arith, mul_comm many size)))
    ]

-- elements that all pass, by marks a, b and d, which are a type's: the part is sound, wherever it stands
pub judged_plain : (t w low high missing top most len a b d : ℕ) (l : List ℕ) → Passing t low high missing top → (width_of t ≡ w) × (0 < w)
    → (a ≡ low) × (b ≡ high) × (d ≡ missing) → top ≤ most → all_passed a b d top (numbers w (length l / w) l) ≡ true
    → (at : ℕ) → judged_at most t len at l ≡ Sound
unfolding judged_at
judged_plain t w low high missing top most len a b d l p (e, some) marks h q at =
    let n = length l / (len * w) in
    let fits : n * len ≤ length l / w = (le-div_iff_mul-le some).1 (rw mul_assoc (div-mul-le_self (length l) (len * w))) in
    let sum : length l / w ≡ n * len + (length l / w - n * len) = omega arith in
    let on = all_more top most t _ h (all_on t low high missing top p (numbers w (length l / w) l) (rw (marks.0, marks.1, marks.2) at q)) in
    rw e (vectors_on most t w len n at l (on_split most t w (n * len) (length l / w - n * len) l (rw (← sum) on)).0)

-- the judgement of a part, from its front
pub judged_front : (most t len : ℕ) (l : List ℕ) → judged most t len l ≡ judged_at most t len 0 l
unfolding judged judged_at
judged_front most t len l = rw (div-div-eq-div-mul, mul_comm (width_of t) len)

-- where vectors have no bytes, or more than the part
pub judged_nothing : (most t len end : ℕ) (l : List ℕ) → length l < end → (len * width_of t ≡ 0) ⊎ (end ≤ len * width_of t) → judged most t len l ≡ Sound
unfolding judged_at vectors
judged_nothing most t len end l h (inl z) = rw (judged_front, z, div-zero)
judged_nothing most t len end l h (inr r) =
    let short : length l < len * width_of t = omega arith in
    rw (judged_front, div-eq_of_lt short)

-- a refusal's place lies in the part
follow_inside : (at end : ℕ) (t : Result Bool ℕ) (next : Bool → Answer (Unit {0})) → at ≤ end → ((e : Bool) → JudgedInside end (next e)) → JudgedInside end (follow at t next)
follow_inside at end (Err n) next h r = h
follow_inside at end (Ok e) next h r = r e

vector_inside : (most t w n at end : ℕ) (e : Bool) (l : List ℕ) → at + n * w ≤ end → JudgedInside end (vector most t w at e (numbers w n l))
unfolding vector numbers
vector_inside most t w zero at end e l h = tt
vector_inside most t w (suc n) at end e l h =
    follow_inside at end _ _ (omega arith) (λ b. vector_inside most t w n (at + w) end b (drop w l) (omega (arith, suc-mul n w)))

and_inside : (end : ℕ) (a b : Answer (Unit {0})) → JudgedInside end a → JudgedInside end b → JudgedInside end (and_then a b)
and_inside end Sound b h g = g
and_inside end (Err r) b h g = h

vectors_inside : (most t w len n at end : ℕ) (l : List ℕ) → at + n * (len * w) ≤ end → JudgedInside end (vectors most t w len n at l)
unfolding vectors
vectors_inside most t w len zero at end l h = tt
vectors_inside most t w len (suc n) at end l h =
    let r = suc-mul n (len * w) in
    and_inside end _ _ (vector_inside most t w len at end false l (omega (arith, r))) (vectors_inside most t w len n (at + len * w) end (drop (len * w) l) (omega (arith, r)))

pub judged_inside : (most t len : ℕ) (l : List ℕ) → JudgedInside (length l) (judged_at most t len 0 l)
unfolding judged_at
judged_inside most t len l = vectors_inside most t (width_of t) len _ 0 (length l) l (omega (arith, div-mul-le_self (length l) (len * width_of t)))
