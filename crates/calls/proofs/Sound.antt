-- The tally of a GT field whose elements were judged sound, under at most 64 alleles: every slot is counted. Rests on the laws of a tally
-- and on vectors' judging.
use mathlib.Core.Path.{◌≡◌, refl, ◌∙◌}
use mathlib.Core.List.{List, [], ◌∷◌, ◌++◌}
use mathlib.Core.Bool.{Bool, true, false}
use Prim.Native.Nat.{ℕ, zero, suc, ◌+◌, ◌*◌, ◌/◌, ◌≤◌}
use native.Mathlib.Omega.{arith}
use lib.Dec.{ltb}
use lib.ListN.{drop, length}
use borrow.Author.Tests.{ltb-false}
use Rattle.types.specs.Rows.{width_of}
use Rattle.types.specs.Elements.{kind}
use Rattle.types.specs.declared.Element.{Element}
use Rattle.types.specs.declared.Element.TheVariants.{Plain, Missing, End, Reserved}
use Rattle.vectors.specs.Sound.{code_most}
use Rattle.vectors.specs.Vectors.{numbers, element_turn, follow, vector, and_then, vectors, judged, Sound}
use Rattle.values.specs.declared.Refusal.{Refusal}
use Rattle.vectors.proofs.Codes.{code_sound}
use Rattle.calls.specs.Calls.{slots, alleles, people, called, AtMost, people_tally, people_of, counted}
use Rattle.calls.specs.Engine.{slotted}
use Rattle.calls.specs.Totals.{total, slot_count, with_slots}
use Rattle.calls.proofs.Turns.{calls, alleles_cons}
use Rattle.std.specs.Prelude.{Err}
use Rattle.values.specs.Answers.{Answer}
use Rattle.calls.proofs.Laws.{people_tally_slots, with_and_without, length_people}

-- a bound of a list is one of its first number and of the rest, and of two lists one after the other
at_most_cons : (m x : ℕ) (xs : List ℕ) → x ≤ m → AtMost m xs → AtMost m (x ∷ xs)
at_most_cons m x xs h b zero = h
at_most_cons m x xs h b (suc j) = b j

at_most_append : (m : ℕ) (xs ys : List ℕ) → AtMost m xs → AtMost m ys → AtMost m (xs ++ ys)
at_most_append m [] ys a b = b
at_most_append m (x ∷ xs) ys a b = at_most_cons m x (xs ++ ys) (a 0) (at_most_append m xs ys (λ j. a (suc j)) b)

-- what is refused is not sound
pub refused : {P : Type 0} (r : Refusal) → Err r ≡ Sound → P
refused r h = let z : ◌≡◌ {A = ℕ} 0 1 = cc in absurd (omega arith)

pub both_sound : (a b : Answer (Unit {0})) → and_then a b ≡ Sound → (a ≡ Sound) × (b ≡ Sound)
both_sound Sound b h = (refl, h)
both_sound (Err r) b h = refused r h

-- the alleles of sound elements, whose codes are at most `most`
vector_alleles : (most t w m at : ℕ) (e : Bool) (xs : List ℕ) → most / 2 ≤ m → vector most t w at e xs ≡ Sound → AtMost m (alleles t xs)
unfolding vector alleles slots
vector_alleles most t w m at e [] h s = λ j. omega arith
vector_alleles most t w m at e (x ∷ xs) h s =
    rw (alleles_cons t x xs) (by_kind (kind t x) e s (λ b. vector_alleles most t w m (at + w) b xs h))
  where
    Rest : Type 0
    Rest = (b : Bool) → vector most t w (at + w) b xs ≡ Sound → AtMost m (alleles t xs)

    by_kind : (k : Element) (b : Bool) → follow at (element_turn most b k x) (λ b. vector most t w (at + w) b xs) ≡ Sound → Rest
        → AtMost m (calls (slotted k x) (alleles t xs))
    by_kind End b r on = λ j. omega arith
    by_kind Reserved b r on = refused _ r
    by_kind Missing true r on = refused _ r
    by_kind Missing false r on = at_most_cons m 0 (alleles t xs) (omega arith) (on false r)
    by_kind Plain true r on = refused _ r
    by_kind Plain false r on = by_most (ltb most x) refl
      where
        by_most : (q : Bool) → ltb most x ≡ q → AtMost m ((x / 2) ∷ alleles t xs)
        by_most true g = refused _ (rw g at r)
        by_most false g =
            let q : x ≤ most = ltb-false most x g in
            at_most_cons m (x / 2) (alleles t xs) (omega arith) (on false (rw g at r))

people_alleles : (most t w len m n at : ℕ) (l : List ℕ) → most / 2 ≤ m → vectors most t w len n at l ≡ Sound
    → AtMost m (called t (people w len n l))
unfolding vectors called people
people_alleles most t w len m zero at l h s = λ j. omega arith
people_alleles most t w len m (suc n) at l h s =
    let b = both_sound (vector most t w at false (numbers w len l)) _ s in
    at_most_append m (alleles t (numbers w len l)) _ (vector_alleles most t w m at false _ h b.0)
    (people_alleles most t w len m n (at + len * w) (drop (len * w) l) h b.1)

-- missing and called together are the slots that aren't ends of vector, in a GT field that was judged under at most 64 alleles
pub sound_slots : (count t len : ℕ) (l : List ℕ) → count ≤ 64 → judged (code_most count t) t len l ≡ Sound
    → total (counted t len l).counts ≡ slot_count t (people_of t len l)
unfolding judged counted people_of
sound_slots count t len l h s =
    let c = (code_sound count t (code_most count t) (omega arith)).1 in
    people_tally_slots t (people_of t len l) (people_alleles (code_most count t) t (width_of t) len 64 _ 0 l (omega arith) s)

-- people are those with a slot and those without
pub counted_people : (t len : ℕ) (l : List ℕ) → with_slots t (people_of t len l) + (counted t len l).without ≡ length l / width_of t / len
unfolding counted people_tally people_of
counted_people t len l = with_and_without t (people_of t len l) ∙ length_people (width_of t) len _ l
