-- Text as reading judges it is text as it is given: its numbers are its bytes, and no number of a refusal depends on places.
-- Rests on vectors' rule.
use mathlib.Core.Path.{◌≡◌, refl, ◌∙◌, sym}
use mathlib.Core.List.{List, [], ◌∷◌}
use mathlib.Core.Bool.{Bool, false}
use Prim.Native.Nat.{ℕ, zero, suc, ◌+◌, ◌-◌, ◌*◌, ◌/◌, ◌≤◌}
use native.Mathlib.Omega.{arith}
use native.Mathlib.Nat.{div-one, mul-one, suc-mul, div-mul-le_self}
use lib.ListN.{length, take, drop, length-drop}
use Rattle.words.specs.Words.{number, le}
use Rattle.types.specs.Rows.{row_of, width_of}
use Rattle.types.specs.Elements.{kind}
use Rattle.values.specs.Answers.{refusal, Answer}
use Rattle.vectors.specs.Vectors.{numbers, element_turn, follow, vector, vectors, and_then, judged, Sound}
use Rattle.std.specs.Prelude.{Err, Result, Ok}
use Rattle.build_given.specs.Given.{number_of, vectors_given, elements_number}

-- a judgement without its place
abbrev placeless : Answer (Unit {0}) → Answer (Unit {0})
placeless Sound = Sound
placeless (Err r) = Err (refusal r.number 0)

number_placeless : (j : Answer (Unit {0})) → number_of (placeless j) ≡ number_of j
number_placeless Sound = refl
number_placeless (Err r) = refl

placeless_then : (a b : Answer (Unit {0})) → placeless (and_then a b) ≡ and_then (placeless a) (placeless b)
placeless_then Sound b = refl
placeless_then (Err r) b = refl

placeless_follow : (at : ℕ) (u : Result Bool ℕ) (f g : Bool → Answer (Unit {0})) → ((e : Bool) → placeless (f e) ≡ g e)
    → placeless (follow at u f) ≡ follow 0 u g
placeless_follow at (Err n) f g h = refl
placeless_follow at (Ok e) f g h = h e

placeless_vector : (most t w at : ℕ) (e : Bool) (xs : List ℕ) → placeless (vector most t w at e xs) ≡ vector most t 0 0 e xs
unfolding vector
placeless_vector most t w at e [] = refl
placeless_vector most t w at e (x ∷ xs) =
    placeless_follow at (element_turn most e (kind t x) x) _ _ (λ b. placeless_vector most t w (at + w) b xs)

-- numbers of one byte each
numbers_bytes : (n : ℕ) (l : List ℕ) → n ≤ length l → numbers 1 n l ≡ take n l
unfolding numbers number le
numbers_bytes zero l h = refl
numbers_bytes (suc n) [] h = absurd (omega arith)
numbers_bytes (suc n) (b ∷ l) h =
    let e : b + 0 * 256 ≡ b = omega arith in
    rw (e, numbers_bytes n l (omega arith))

placeless_vectors : (most t len n at : ℕ) (l : List ℕ) → n * len ≤ length l
    → placeless (vectors most t 1 len n at l) ≡ vectors_given most t len n l
unfolding vectors vectors_given
placeless_vectors most t len zero at l h = refl
placeless_vectors most t len (suc n) at l h =
    let s : suc n * len ≡ n * len + len = suc-mul n len in
    let d : length (drop len l) ≡ length l - len = length-drop len l in
    let v : placeless (vector most t 1 at false (numbers 1 len l)) ≡ vector most t 0 0 false (take len l)
    = placeless_vector most t 1 at false (numbers 1 len l) ∙ rw (numbers_bytes len l (omega arith)) in
    placeless_then (vector most t 1 at false (numbers 1 len l)) _
    ∙ rw (v, mul-one len, placeless_vectors most t len n (at + len) (drop len l) (omega arith))

-- text, judged as reading judges it
pub text_number : (most len : ℕ) (l : List ℕ) → number_of (judged most 7 len l) ≡ elements_number most 7 len l
unfolding judged elements_number width_of row_of
text_number most len l =
    let e : placeless (judged most 7 len l) ≡ vectors_given most 7 len (length l / len) l
    = rw (div-one (length l)) (placeless_vectors most 7 len (length l / len) 0 l (div-mul-le_self (length l) len)) in
    sym (number_placeless (judged most 7 len l)) ∙ rw e
