-- A value whose descriptor 00 becomes 01: where it stands, what it holds and whether it is sound stay, and of its type 0 becomes 1.
-- Rests on specs/Ones and on fetch_laws' laws of what stands at a front.
use mathlib.Core.Path.{◌≡◌, refl, sym, ◌∙◌}
use mathlib.Core.List.{List, [], ◌∷◌, ◌++◌, append_assoc}
use mathlib.Core.Logic.{◌≢◌}
use mathlib.Core.Bool.{Bool, true, false}
use Prim.Native.Nat.{ℕ, zero, suc, ◌+◌, ◌-◌, ◌*◌, ◌/◌, ◌%◌, ◌<◌, ◌≤◌}
use native.Mathlib.Omega.{arith}
use native.Mathlib.Nat.{mul-zero, zero-mul, zero-div}
use lib.Dec.{eqb, ltb}
use lib.ListN.{length, take, drop, length-drop}
use lib.Seq.{length-take-le, take_at, drop_at}
use borrow.Author.Tests.{eqb-true, eqb-false, ne_eqb, le-leb}
use Rattle.words.specs.Pick.{pick}
use Rattle.types.specs.Rows.{row_of, width_of, allowed}
use Rattle.types.specs.declared.Use.{Use}
use Rattle.types.specs.declared.Use.TheVariants.{Id, Allele, Filter, Integer as IntegerUse, Info, Format, Gt}
use Rattle.values.specs.Answers.{no_descriptor, typed, Answer, whole}
use Rattle.values.specs.Values.{true_length, with_length, may_stand, described, present}
use Rattle.values.proofs.Stand.{may_stand_wide}
use Rattle.vectors.specs.Vectors.{vectors as vectors_of, judged, elements_of, Sound}
use Rattle.vectors.specs.Sound.{most_of, soundly, sound}
use Rattle.fetch_laws.proofs.Agree.{sound_there, soundly_judged}
use Rattle.fetch.proofs.Inside.{present_inside}
use Rattle.fetch_laws.proofs.Present.{present_typed}
use Rattle.fetch_laws.proofs.Fronts.{present_front, take_past}
use Rattle.contents.proofs.Bare.{present_zero}
use Rattle.contents.proofs.Elements.{elements_of_take, elements_of_none}
use Rattle.std.specs.Prelude.{Err, Ok}
use Rattle.values.specs.declared.Integer.{Integer}
use Rattle.bare_laws.specs.Ones.{one_for}
use Rattle.values.proofs.Held.{same_typed}

-- the type of a value once its descriptor 00 is 01
abbrev pub code_for : ℕ → ℕ
code_for t = pick (eqb t 0) 1 t

-- a use that takes a bare 00 takes integers
one_allowed : (role : Use) → allowed (row_of 0) role ≡ true → allowed (row_of 1) role ≡ true
unfolding row_of
one_allowed Id h = cc
one_allowed Allele h = cc
one_allowed Filter h = refl
one_allowed IntegerUse h = cc
one_allowed Info h = refl
one_allowed Format h = refl
one_allowed Gt h = refl

-- bytes with 01 for a first 00 are as many, and the same from the second on
pub length_one_for : (l : List ℕ) → length (one_for l) ≡ length l
length_one_for [] = refl
length_one_for (d ∷ l) = refl

one_for_later : (k : ℕ) (l m : List ℕ) → 0 < k → drop k (one_for l ++ m) ≡ drop k (l ++ m)
one_for_later zero l m h = absurd (omega arith)
one_for_later (suc k) [] m h = refl
one_for_later (suc k) (d ∷ l) m h = refl

-- bytes that do not begin with 00 stay
pub one_for_same : (d : ℕ) (l : List ℕ) → d ≢ 0 → one_for (d ∷ l) ≡ d ∷ l
one_for_same d l h = rw (ne_eqb d 0 h)

-- the type of a descriptor is its low half
described_type : (role : Use) (at d : ℕ) (rest : List ℕ) (t n first : ℕ) → described role at (d ∷ rest) ≡ typed t n first → d % 16 ≡ t
unfolding described
described_type role at d rest t n first h = by_tests (may_stand role (d % 16) (d / 16)) (ltb (d / 16) 15) (true_length (at + 1) rest) h
  where
    by_tests : (a b : Bool) (i : Answer Integer)
        → pick a (pick b (typed (d % 16) (d / 16) (at + 1)) (with_length (d % 16) i)) (no_descriptor 6 at) ≡ typed t n first → d % 16 ≡ t
    by_tests false b i e = cc
    by_tests true true i e = (same_typed e).0
    by_tests true false (Err r) e = cc
    by_tests true false (Ok i) e = (same_typed e).0

-- so that of another type than 0 is no 00
described_other : (role : Use) (at : ℕ) (l : List ℕ) (t n first k : ℕ) → described role at l ≡ typed t n first → eqb t 0 ≡ false
    → one_for (take k l) ≡ take k l
described_other role at [] t n first zero h e = refl
described_other role at [] t n first (suc k) h e = refl
described_other role at (d ∷ rest) t n first zero h e = refl
described_other role at (d ∷ rest) t n first (suc k) h e =
    let low = described_type role at d rest t n first h in
    let other = eqb-false t 0 e in
    one_for_same d (take k rest) (λ z. other (omega arith))

one_wide : 0 < width_of 1
unfolding width_of row_of
one_wide = omega arith

-- 01 in the place of a bare 00
present_one : (vectors : ℕ) (role : Use) (at : ℕ) (m : List ℕ) → allowed (row_of 0) role ≡ true
    → present vectors role at (0x01 ∷ m) ≡ whole 1 0 (at + 1) (at + 1)
unfolding present described
present_one vectors role at m h =
    let none : at + 1 + vectors * 0 * width_of 1 ≡ at + 1 = rw (mul-zero vectors, zero-mul (width_of 1)) (omega arith) in
    rw (may_stand_wide role 1 0 (one_allowed role h) one_wide, none, le-leb (at + 1) (at + suc (length m)) (omega arith))

-- the law: a value that is there is there with 01 for its 00, before whatever follows
pub present_ones : (vectors : ℕ) (role : Use) (at : ℕ) (l m : List ℕ) (t n first stop : ℕ) → present vectors role at l ≡ whole t n first stop
    → present vectors role at (one_for (take (stop - at) l) ++ m) ≡ whole (code_for t) n first stop
present_ones vectors role at l m t n first stop h = by_type (eqb t 0) refl
  where
    bare : t ≡ 0 → present vectors role at (one_for (take (stop - at) l) ++ m) ≡ whole 1 n first stop
    bare e =
        let b = present_zero vectors role at l n first stop (rw e at h) in
        let k = b.1 in
        let next = b.0.next in
        let one : stop - at ≡ 1 = omega arith in
        let stop1 : stop ≡ at + 1 = omega arith in
        rw (one, b.0.zero, b.0.none, next, stop1) (present_one vectors role at m b.0.takes)

    other : eqb t 0 ≡ false → present vectors role at (one_for (take (stop - at) l) ++ m) ≡ whole t n first stop
    other e =
        let i = present_typed vectors role at l t n first stop h in
        let a = i.ends in
        let b = i.later in
        let c = i.inside in
        let els = take (stop - first) (drop (first - at) l) in
        let whole = length-take-le (stop - first) (drop (first - at) l) (rw length-drop (omega arith)) in
        let size : length els ≡ vectors * n * width_of t = omega arith in
        let split : take (stop - at) l ++ m ≡ take (first - at) l ++ (els ++ m) = rw (take_past l at first stop b (omega arith), append_assoc) in
        let here : at + (first - at) ≡ first = omega arith in
        rw (
          described_other role at l t n first (stop - at) i.descriptor e,
          split,
          present_front vectors vectors role at at l els m t n first stop h size,
          here,
          sym a,
        )

    by_type : (b : Bool) → eqb t 0 ≡ b → present vectors role at (one_for (take (stop - at) l) ++ m) ≡ whole (pick b 1 t) n first stop
    by_type true e = bare (eqb-true t 0 e)
    by_type false e = other e

-- its elements and what follows it, in the bytes that it becomes
pub drop_ones : (at stop : ℕ) (l m : List ℕ) → at ≤ stop → stop ≤ at + length l → drop (stop - at) (one_for (take (stop - at) l) ++ m) ≡ m
drop_ones at stop l m h k =
    drop_at (one_for (take (stop - at) l)) m (stop - at) (length_one_for (take (stop - at) l) ∙ length-take-le (stop - at) l (omega arith))

pub part_ones : (at first stop : ℕ) (l m : List ℕ) → at < first → first ≤ stop → stop ≤ at + length l
    → take (stop - first) (drop (first - at) (one_for (take (stop - at) l) ++ m)) ≡ take (stop - first) (drop (first - at) l)
part_ones at first stop l m h k i =
    let els = take (stop - first) (drop (first - at) l) in
    let whole : length els ≡ stop - first = length-take-le (stop - first) (drop (first - at) l) (rw length-drop (omega arith)) in
    let front : length (take (first - at) l) ≡ first - at = length-take-le (first - at) l (omega arith) in
    rw (
      one_for_later (first - at) (take (stop - at) l) m (omega arith),
      take_past l at first stop (omega arith) k,
      append_assoc (take (first - at) l) els m,
      drop_at (take (first - at) l) (els ++ m) (first - at) front,
      take_at els m (stop - first) whole,
    )

-- its elements are shown by their own bytes
pub elements_ones : (vectors : ℕ) (role : Use) (at : ℕ) (l m : List ℕ) (t n first stop : ℕ) → present vectors role at l ≡ whole t n first stop
    → elements_of (code_for t) (stop - first) (drop (first - at) (one_for (take (stop - at) l) ++ m)) ≡ elements_of t (stop - first) (drop (first - at) l)
elements_ones vectors role at l m t n first stop h = by_type (eqb t 0) refl
  where
    by_type : (b : Bool) → eqb t 0 ≡ b
        → elements_of (pick b 1 t) (stop - first) (drop (first - at) (one_for (take (stop - at) l) ++ m)) ≡ elements_of t (stop - first) (drop (first - at) l)
    by_type true e =
        let z = eqb-true t 0 e in
        let b = present_zero vectors role at l n first stop (rw z at h) in
        let none : stop - first ≡ 0 = omega (arith, b.1) in
        rw (none, elements_of_none 1, elements_of_none t)
    by_type false e =
        let i = rw h at (present_inside vectors role at l) in
        elements_of_take t (stop - first) _ _ (part_ones at first stop l m i.0 i.1 i.2)

-- a sound value stays sound
judged_none : (most t : ℕ) → judged most t 0 [] ≡ Sound
unfolding judged vectors_of
judged_none most t = rw (zero-div (width_of t))

pub soundly_ones : (vectors alleles : ℕ) (role : Use) (at : ℕ) (l m : List ℕ) (t n first stop : ℕ) → present vectors role at l ≡ whole t n first stop
    → soundly alleles role at l (whole t n first stop) ≡ whole t n first stop
    → soundly alleles role at (one_for (take (stop - at) l) ++ m) (whole (code_for t) n first stop) ≡ whole (code_for t) n first stop
soundly_ones vectors alleles role at l m t n first stop p h =
    let i = rw p at (present_inside vectors role at l) in
    let j = soundly_judged alleles role at l t n first stop h in
    rw (part_ones at first stop l m i.0 i.1 i.2, by_type j (eqb t 0) refl)
  where
    part : List ℕ
    part = take (stop - first) (drop (first - at) l)

    by_type : judged (most_of role alleles t) t n part ≡ Sound → (b : Bool) → eqb t 0 ≡ b
        → judged (most_of role alleles (pick b 1 t)) (pick b 1 t) n part ≡ Sound
    by_type j true e =
        let z = eqb-true t 0 e in
        let b = present_zero vectors role at l n first stop (rw z at p) in
        let none : stop - first ≡ 0 = omega (arith, b.1) in
        rw (none, b.0.none) (judged_none (most_of role alleles 1) 1)
    by_type j false e = j

pub sound_ones : (vectors alleles : ℕ) (role : Use) (at : ℕ) (l m : List ℕ) (t n first stop : ℕ)
    → sound vectors alleles role at l ≡ whole t n first stop
    → sound vectors alleles role at (one_for (take (stop - at) l) ++ m) ≡ whole (code_for t) n first stop
unfolding sound
sound_ones vectors alleles role at l m t n first stop h =
    let p = sound_there vectors alleles role at l t n first stop h in
    rw (present_ones vectors role at l m t n first stop p) (soundly_ones vectors alleles role at l m t n first stop p (rw p at h))
