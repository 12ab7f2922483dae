-- A choice taken person by person, and what it says of the people in it. Rests on specs/Choice.
use mathlib.Core.Path.{◌≡◌, refl, sym}
use mathlib.Core.List.{List, [], ◌∷◌, ◌++◌, append_assoc}
use mathlib.Core.Bool.{Bool, true, false}
use Prim.Native.Nat.{ℕ, zero, suc, ◌+◌, ◌-◌, ◌*◌, ◌<◌, ◌≤◌}
use native.Mathlib.Omega.{arith}
use native.Mathlib.Nat.{suc-mul, zero-mul, mul-le-mul_right}
use native.Mathlib.Numerals.{add-one}
use lib.Dec.{leb, ltb}
use lib.ListN.{length, get_or, take, drop, length-append, length-drop, drop_of_length-le}
use lib.Seq.{drop-cons, drop-drop, take-add, length-take-le}
use borrow.Author.Tests.{ltb-false, leb-false, le-ltb, lt-leb}
use Rattle.words.specs.Pick.{pick}
use Rattle.choice.specs.Choice.{ascending_from, chosen_parts}

-- the next person, where there is one
pub ascending_turn : (cs : List ℕ) (least people i : ℕ) → i < length cs
    → ascending_from least people (drop i cs)
    ≡ pick (ltb (get_or cs i 0) least) false (pick (leb people (get_or cs i 0)) false (ascending_from (get_or cs i 0 + 1) people (drop (i + 1) cs)))
unfolding ascending_from
ascending_turn cs least people i h = rw (drop-cons cs i 0 h, add-one, add-one)

pub ascending_end : (cs : List ℕ) (least people i : ℕ) → length cs ≤ i → ascending_from least people (drop i cs) ≡ true
unfolding ascending_from
ascending_end cs least people i h = rw (drop_of_length-le cs {i = i} h)

-- what a choice that ascends says of its first person, and of the others
pub record Ascends (least people c : ℕ) (cs : List ℕ) : Type 0 where
  pub from : least ≤ c
  pub below : c < people
  pub rest : ascending_from (suc c) people cs ≡ true

pub ascends : (least people c : ℕ) (cs : List ℕ) → ascending_from least people (c ∷ cs) ≡ true → Ascends least people c cs
unfolding ascending_from
ascends least people c cs h = by_tests (ltb c least) (leb people c) refl refl h
  where
    by_tests : (a b : Bool) → ltb c least ≡ a → leb people c ≡ b → pick a false (pick b false (ascending_from (suc c) people cs)) ≡ true
        → Ascends least people c cs
    by_tests true b p q e = let z : ◌≡◌ {A = ℕ} 0 1 = cc in absurd (omega arith)
    by_tests false true p q e = let z : ◌≡◌ {A = ℕ} 0 1 = cc in absurd (omega arith)
    by_tests false false p q e = record { from = ltb-false c least p; below = leb-false people c q; rest = e }

-- there are at most as many as the people that are left
pub length_ascending : (least people : ℕ) (cs : List ℕ) → ascending_from least people cs ≡ true → length cs ≤ people - least
length_ascending least people [] h = omega arith
length_ascending least people (c ∷ cs) h =
    let a = ascends least people c cs h in
    let r = length_ascending (suc c) people cs a.rest in
    let x = a.from in
    let y = a.below in
    omega arith

-- each person's part lies among everybody's
pub part_inside : (c people size m : ℕ) → c < people → people * size ≤ m → c * size + size ≤ m
part_inside c people size m h r =
    let q : suc c * size ≤ people * size = mul-le-mul_right size h in
    omega (arith, suc-mul c size)

pub length_chosen_parts : {A : Type 0} (size least people : ℕ) (cs : List ℕ) (l : List A) → ascending_from least people cs ≡ true
    → people * size ≤ length l → length (chosen_parts size cs l) ≡ length cs * size
unfolding chosen_parts
length_chosen_parts size least people [] l h r = sym (zero-mul size)
length_chosen_parts size least people (c ∷ cs) l h r =
    let a = ascends least people c cs h in
    let p = part_inside c people size (length l) a.below r in
    let q : length (take size (drop (c * size) l)) ≡ size = length-take-le size (drop (c * size) l) (rw length-drop (omega arith)) in
    rw (length-append, q, length_chosen_parts size (suc c) people cs l a.rest r, suc-mul) (omega arith)

-- the number that stands k places on is at least k higher
growing : (least people c k : ℕ) (cs : List ℕ) → ascending_from least people (c ∷ cs) ≡ true → k ≤ length cs → c + k ≤ get_or (c ∷ cs) k 0
growing least people c zero cs h r = omega arith
growing least people c (suc k) [] h r = absurd (omega arith)
growing least people c (suc k) (d ∷ ds) h r =
    let a = ascends least people c (d ∷ ds) h in
    let b = ascends (suc c) people d ds a.rest in
    let q = growing (suc c) people d k ds a.rest (omega arith) in
    let x = b.from in
    omega arith

-- where the number k places on is just k higher all between are neighbours, and their parts are one stretch
pub neighbours : {A : Type 0} (size least people c k : ℕ) (cs : List ℕ) (l : List A) → ascending_from least people (c ∷ cs) ≡ true → k ≤ length cs
    → get_or (c ∷ cs) k 0 ≡ c + k
    → chosen_parts size (c ∷ cs) l ≡ take (suc k * size) (drop (c * size) l) ++ chosen_parts size (drop k cs) l
unfolding chosen_parts
neighbours size least people c zero cs l h r e = let q : suc zero * size ≡ size = omega (arith, suc-mul zero size, zero-mul size) in rw q
neighbours size least people c (suc k) [] l h r e = absurd (omega arith)
neighbours size least people c (suc k) (d ∷ ds) l h r e =
    let a = ascends least people c (d ∷ ds) h in
    let b = ascends (suc c) people d ds a.rest in
    let q = growing (suc c) people d k ds a.rest (omega arith) in
    let x = b.from in
    let same : d ≡ suc c = omega arith in
    let on = neighbours size (suc c) people d k ds l a.rest (omega arith) (omega arith) in
    let j : suc (suc k) * size ≡ size + suc k * size = omega (arith, suc-mul (suc k) size) in
    let p : d * size ≡ c * size + size = rw same (omega (arith, suc-mul c size)) in
    rw (on, j, take-add size (suc k * size) (drop (c * size) l), drop-drop size (c * size) l, p, append_assoc)

-- a choice from a higher number on is one from a lower number on; what is left of a choice is a choice
ascending_lower : (low least people : ℕ) (cs : List ℕ) → low ≤ least → ascending_from least people cs ≡ true → ascending_from low people cs ≡ true
unfolding ascending_from
ascending_lower low least people [] r h = refl
ascending_lower low least people (c ∷ cs) r h =
    let a = ascends least people c cs h in
    let x = a.from in
    rw (le-ltb c low (omega arith), lt-leb people c a.below) a.rest

pub ascending_drop : (least people i : ℕ) (cs : List ℕ) → ascending_from least people cs ≡ true → ascending_from least people (drop i cs) ≡ true
ascending_drop least people zero cs h = h
ascending_drop least people (suc i) [] h = h
ascending_drop least people (suc i) (c ∷ cs) h =
    let a = ascends least people c cs h in
    let x = a.from in
    ascending_lower least (suc c) people (drop i cs) (omega arith) (ascending_drop (suc c) people i cs a.rest)

-- each person of a choice is one of the people
pub ascending_below : (least people i : ℕ) (cs : List ℕ) → ascending_from least people cs ≡ true → i < length cs → get_or cs i 0 < people
ascending_below least people i [] h r = absurd (omega arith)
ascending_below least people zero (c ∷ cs) h r = (ascends least people c cs h).below
ascending_below least people (suc i) (c ∷ cs) h r =
    ascending_below (suc c) people i cs (ascends least people c cs h).rest (omega arith)
