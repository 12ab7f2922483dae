-- The elements of a value as they are written: all are shown as they were given, and where their rules give number 0 they are judged sound.
-- Rests on proofs/Widths and on the definitions of encode, build_given and vectors.
use mathlib.Core.Path.{◌≡◌, refl}
use mathlib.Core.List.{List, [], ◌∷◌, ◌++◌, append_assoc, map}
use mathlib.Core.Bool.{Bool, true, false}
use Prim.Native.Nat.{ℕ, zero, suc, ◌+◌, ◌*◌, ◌/◌, ◌<◌, ◌≤◌}
use native.Mathlib.Omega.{arith}
use native.Mathlib.Nat.{suc-mul, mul-div_cancel, div-mul-le_self}
use lib.Dec.{ltb}
use lib.ListN.{length, take, drop, length-append, length-drop}
use lib.Seq.{drop_at, drop-drop}
use borrow.Author.Tests.{ltb-false, le-ltb}
use Rattle.words.specs.Words.{bytes}
use Rattle.words.proofs.Words.{length_bytes}
use Rattle.types.specs.Rows.{width_of}
use Rattle.types.specs.Elements.{kind}
use Rattle.types.specs.declared.Element.{Element}
use Rattle.types.specs.declared.Element.TheVariants.{Plain, Missing, End, Reserved}
use Rattle.types.specs.declared.Use.{Use}
use Rattle.vectors.specs.Sound.{most_of}
use Rattle.vectors.specs.Vectors.{numbers, shown_numbers, element_turn, follow, vector, and_then, vectors, judged, Sound}
use Rattle.encode.specs.Encode.{narrowed, elements_bytes}
use Rattle.build_given.specs.Given.{number_of, vectors_given, elements_number}
use Rattle.build_laws.specs.Records.{All}
use Rattle.std.specs.Prelude.{Err}
use Rattle.values.specs.Answers.{Answer}
use Rattle.build_laws.proofs.Widths.{Held, stored, number_stored, shown_held}

-- elements take their width each
pub length_elements_bytes : (t : ℕ) (xs : List ℕ) → length (elements_bytes t xs) ≡ length xs * width_of t
unfolding elements_bytes
length_elements_bytes t [] = omega arith
length_elements_bytes t (x ∷ xs) =
    rw (length-append, length_bytes (width_of t) (narrowed t x), length_elements_bytes t xs) (omega (arith, suc-mul (length xs) (width_of t)))

-- the elements that are read are those that were given
pub shown_numbers_elements : (t g : ℕ) (xs m : List ℕ) → All (Held t g) xs → shown_numbers t (width_of t) (length xs) (elements_bytes t xs ++ m) ≡ xs
unfolding shown_numbers elements_bytes
shown_numbers_elements t g [] m h = refl
shown_numbers_elements t g (x ∷ xs) m h =
    let b = bytes (width_of t) (narrowed t x) in
    let rest = elements_bytes t xs ++ m in
    let e : drop (width_of t) (b ++ rest) ≡ rest = drop_at b rest (width_of t) (length_bytes (width_of t) (narrowed t x)) in
    rw (append_assoc b (elements_bytes t xs) m, e, shown_held t g x rest h.0, shown_numbers_elements t g xs m h.1)

-- as numbers they are what is stored for them
numbers_elements : (t n : ℕ) (xs : List ℕ) → n ≤ length xs → numbers (width_of t) n (elements_bytes t xs) ≡ map (stored t) (take n xs)
unfolding numbers elements_bytes
numbers_elements t zero xs h = refl
numbers_elements t (suc n) [] h = absurd (omega arith)
numbers_elements t (suc n) (x ∷ xs) h =
    let b = bytes (width_of t) (narrowed t x) in
    let e : drop (width_of t) (b ++ elements_bytes t xs) ≡ elements_bytes t xs =
    drop_at b (elements_bytes t xs) (width_of t) (length_bytes (width_of t) (narrowed t x)) in
    rw (e, number_stored t x (elements_bytes t xs), numbers_elements t n xs (omega arith))

drop_elements : (t n : ℕ) (xs : List ℕ) → n ≤ length xs → drop (n * width_of t) (elements_bytes t xs) ≡ elements_bytes t (drop n xs)
unfolding elements_bytes
drop_elements t zero xs h = let e : 0 * width_of t ≡ 0 = omega arith in rw e
drop_elements t (suc n) [] h = absurd (omega arith)
drop_elements t (suc n) (x ∷ xs) h =
    let w = width_of t in
    let b = bytes w (narrowed t x) in
    let e : suc n * w ≡ w + n * w = omega (arith, suc-mul n w) in
    let l = elements_bytes t xs in
    rw (e, ← drop-drop (n * w) w (b ++ l), drop_at b l w (length_bytes w (narrowed t x))) (drop_elements t n xs (omega arith))

-- a vector with number 0 is sound: its refusals have numbers 9 and 10
number_vector : (most t w at : ℕ) (e : Bool) (xs : List ℕ) → number_of (vector most t w at e xs) ≡ 0 → vector most t w at e xs ≡ Sound
unfolding vector
number_vector most t w at e [] h = refl
number_vector most t w at e (x ∷ xs) h = by_kind (kind t x) e h (λ b. number_vector most t w (at + w) b xs)
  where
    rest : Bool → Answer (Unit {0})
    rest b = vector most t w (at + w) b xs

    by_kind : (k : Element) (b : Bool) → number_of (follow at (element_turn most b k x) rest) ≡ 0
        → ((b : Bool) → number_of (rest b) ≡ 0 → rest b ≡ Sound) → follow at (element_turn most b k x) rest ≡ Sound
    by_kind End b s on = on true s
    by_kind Reserved b s on = absurd (omega arith)
    by_kind Missing true s on = absurd (omega arith)
    by_kind Missing false s on = on false s
    by_kind Plain true s on = absurd (omega arith)
    by_kind Plain false s on = by_most (ltb most x) refl
      where
        by_most : (q : Bool) → ltb most x ≡ q → follow at (element_turn most false Plain x) rest ≡ Sound
        by_most true p = let z = rw p at s in absurd (omega arith)
        by_most false p = rw p (on false (rw p at s))

-- a vector that is sound as it was given is sound as it is stored
vector_stored : (t g w w' at at' alleles : ℕ) (role : Use) (e : Bool) (xs : List ℕ) → All (Held t g) xs
    → vector (most_of role alleles g) g w at e xs ≡ Sound → vector (most_of role alleles t) t w' at' e (map (stored t) xs) ≡ Sound
unfolding vector
vector_stored t g w w' at at' alleles role e [] f h = refl
vector_stored t g w w' at at' alleles role e (x ∷ xs) f h =
    rw f.0.same (by_kind (kind g x) e h (λ b. vector_stored t g w w' (at + w) (at' + w') alleles role b xs f.1))
  where
    given : Bool → Answer (Unit {0})
    given b = vector (most_of role alleles g) g w (at + w) b xs

    held : Bool → Answer (Unit {0})
    held b = vector (most_of role alleles t) t w' (at' + w') b (map (stored t) xs)

    by_kind : (k : Element) (b : Bool) → follow at (element_turn (most_of role alleles g) b k x) given ≡ Sound → ((b : Bool) → given b ≡ Sound → held b ≡ Sound)
        → follow at' (element_turn (most_of role alleles t) b k (stored t x)) held ≡ Sound
    by_kind End b s on = on true s
    by_kind Reserved b s on = cc
    by_kind Missing true s on = cc
    by_kind Missing false s on = on false s
    by_kind Plain true s on = cc
    by_kind Plain false s on = by_most (ltb (most_of role alleles g) x) refl
      where
        by_most : (q : Bool) → ltb (most_of role alleles g) x ≡ q → follow at' (element_turn (most_of role alleles t) false Plain (stored t x)) held ≡ Sound
        by_most true p = let z = rw p at s in cc
        by_most false p =
            let i = f.0.under role alleles (ltb-false (most_of role alleles g) x p) in
            rw (le-ltb (most_of role alleles t) (stored t x) i) (on false (rw p at s))

-- both of two are sound where their number is 0 and the first one's says so
number_both : (a b : Answer (Unit {0})) → (number_of a ≡ 0 → a ≡ Sound) → number_of (and_then a b) ≡ 0 → (a ≡ Sound) × (number_of b ≡ 0)
number_both Sound b f h = (refl, h)
number_both (Err r) b f h = let e = f h in let z : ◌≡◌ {A = ℕ} 0 1 = cc in absurd (omega arith)

held_take : (t g n : ℕ) (xs : List ℕ) → All (Held t g) xs → All (Held t g) (take n xs)
held_take t g zero xs h = tt
held_take t g (suc n) [] h = tt
held_take t g (suc n) (x ∷ xs) h = (h.0, held_take t g n xs h.1)

held_drop : (t g n : ℕ) (xs : List ℕ) → All (Held t g) xs → All (Held t g) (drop n xs)
held_drop t g zero xs h = h
held_drop t g (suc n) [] h = tt
held_drop t g (suc n) (x ∷ xs) h = held_drop t g n xs h.1

vectors_elements : (t g len n at alleles : ℕ) (role : Use) (xs : List ℕ) → All (Held t g) xs → n * len ≤ length xs
    → number_of (vectors_given (most_of role alleles g) g len n xs) ≡ 0
    → vectors (most_of role alleles t) t (width_of t) len n at (elements_bytes t xs) ≡ Sound
unfolding vectors_given vectors
vectors_elements t g len zero at alleles role xs f l h = refl
vectors_elements t g len (suc n) at alleles role xs f l h =
    let most = most_of role alleles g in
    let k = suc-mul n len in
    let b = number_both (vector most g 0 0 false (take len xs)) (vectors_given most g len n (drop len xs))
    (number_vector most g 0 0 false (take len xs)) h in
    rw (
      numbers_elements t len xs (omega arith),
      vector_stored t g 0 (width_of t) 0 at alleles role false (take len xs) (held_take t g len xs f) b.0,
      drop_elements t len xs (omega arith),
    )
    (vectors_elements t g len n (at + len * width_of t) alleles role (drop len xs) (held_drop t g len xs f) (rw length-drop (omega arith)) b.1)

-- so elements whose rules give number 0 are judged sound
pub judged_elements : (t g len alleles : ℕ) (role : Use) (xs : List ℕ) → All (Held t g) xs → 0 < width_of t
    → elements_number (most_of role alleles g) g len xs ≡ 0 → judged (most_of role alleles t) t len (elements_bytes t xs) ≡ Sound
unfolding elements_number judged
judged_elements t g len alleles role xs f p h =
    let e : length (elements_bytes t xs) / width_of t ≡ length xs = rw (length_elements_bytes t xs) (mul-div_cancel (length xs) p) in
    rw e (vectors_elements t g len (length xs / len) 0 alleles role xs f (div-mul-le_self (length xs) len) h)
