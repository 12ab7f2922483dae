-- Laws of choices and of the parts that they take: everybody, and a choice from a choice. Rests on choose's laws of a choice.
use mathlib.Core.Path.{◌≡◌, refl, sym}
use mathlib.Core.List.{List, [], ◌∷◌, ◌++◌, append_assoc}
use mathlib.Core.Bool.{true}
use Prim.Native.Nat.{ℕ, zero, suc, ◌+◌, ◌*◌, ◌<◌, ◌≤◌}
use native.Mathlib.Omega.{arith}
use native.Mathlib.Nat.{suc-mul, zero-mul}
use lib.ListN.{length, get_or, take, drop, length-drop}
use lib.Seq.{drop-drop, take-add, take_at, drop_at, length-take-le}
use borrow.Author.Tests.{le-ltb, lt-leb}
use Rattle.choice.specs.Choice.{ascending_from, ascending, chosen_parts}
use Rattle.choice.proofs.Choice.{Ascends, ascends, part_inside, ascending_below}
use Rattle.choose_laws.specs.Releases.{people_from, everybody, composed}

-- a person before a choice that ascends from there on
pub ascending_cons : (least people c : ℕ) (cs : List ℕ) → least ≤ c → c < people → ascending_from (suc c) people cs ≡ true
    → ascending_from least people (c ∷ cs) ≡ true
unfolding ascending_from
ascending_cons least people c cs p q h = rw (le-ltb c least p, lt-leb people c q) h

-- so many people from one on
pub length_people_from : (k n : ℕ) → length (people_from k n) ≡ n
unfolding people_from
length_people_from k zero = refl
length_people_from k (suc n) = rw (length_people_from (suc k) n)

-- everybody's parts are one stretch
pub chosen_parts_people_from : {A : Type 0} (size k n : ℕ) (l : List A)
    → chosen_parts size (people_from k n) l ≡ take (n * size) (drop (k * size) l)
unfolding chosen_parts people_from
chosen_parts_people_from size k zero l = rw (zero-mul size)
chosen_parts_people_from size k (suc n) l =
    let e : suc n * size ≡ size + n * size = omega (arith, suc-mul n size) in
    let d : k * size + size ≡ suc k * size = omega (arith, suc-mul k size) in
    rw (chosen_parts_people_from size (suc k) n l, e, take-add size (n * size) (drop (k * size) l), drop-drop size (k * size) l, d)

pub chosen_parts_everybody : {A : Type 0} (size n : ℕ) (l : List A) → chosen_parts size (everybody n) l ≡ take (n * size) l
chosen_parts_everybody size n l = rw (zero-mul size) at (chosen_parts_people_from size 0 n l)

-- the persons of a choice: from the least on, each higher than those before
get_or_from : (least people : ℕ) (cs : List ℕ) (i : ℕ) → ascending_from least people cs ≡ true → i < length cs → least ≤ get_or cs i 0
get_or_from least people [] i h q = absurd (omega arith)
get_or_from least people (c ∷ cs) zero h q = (ascends least people c cs h).from
get_or_from least people (c ∷ cs) (suc i) h q =
    let a = ascends least people c cs h in
    let x = a.from in
    let r = get_or_from (suc c) people cs i a.rest (omega arith) in
    omega arith

get_or_higher : (least people : ℕ) (cs : List ℕ) (i j : ℕ) → ascending_from least people cs ≡ true → i < j → j < length cs
    → get_or cs i 0 < get_or cs j 0
get_or_higher least people [] i j h p q = absurd (omega arith)
get_or_higher least people (c ∷ cs) i zero h p q = absurd (omega arith)
get_or_higher least people (c ∷ cs) zero (suc j) h p q = get_or_from (suc c) people cs j (ascends least people c cs h).rest (omega arith)
get_or_higher least people (c ∷ cs) (suc i) (suc j) h p q =
    get_or_higher (suc c) people cs i j (ascends least people c cs h).rest (omega arith) (omega arith)

composed_from : (people k least : ℕ) (cs ds : List ℕ) → ascending people cs ≡ true → ascending_from k (length cs) ds ≡ true
    → ((j : ℕ) → k ≤ j → j < length cs → least ≤ get_or cs j 0) → ascending_from least people (composed cs ds) ≡ true
unfolding ascending_from
composed_from people k least cs [] h a low = refl
composed_from people k least cs (d ∷ ds) h a low =
    let b = ascends k (length cs) d ds a in
    ascending_cons least people (get_or cs d 0) (composed cs ds) (low d b.from b.below) (ascending_below 0 people d cs h b.below)
    (composed_from people (suc d) (suc (get_or cs d 0)) cs ds h b.rest (λ j p q. get_or_higher 0 people cs d j h p q))

-- a choice from a choice is a choice
pub ascending_composed : (people : ℕ) (cs ds : List ℕ) → ascending people cs ≡ true → ascending (length cs) ds ≡ true
    → ascending people (composed cs ds) ≡ true
ascending_composed people cs ds h a = composed_from people 0 0 cs ds h a (λ j p q. omega arith)

-- the part that stands at a number among the chosen parts
part_chosen_parts : {A : Type 0} (size least people d : ℕ) (cs : List ℕ) (l m : List A) → ascending_from least people cs ≡ true
    → people * size ≤ length l → d < length cs
    → take size (drop (d * size) (chosen_parts size cs l ++ m)) ≡ take size (drop (get_or cs d 0 * size) l)
unfolding chosen_parts
part_chosen_parts size least people d [] l m h r q = absurd (omega arith)
part_chosen_parts {A} size least people d (c ∷ cs) l m h r q =
    by_number d q (λ k p. part_chosen_parts size (suc c) people k cs l m a.rest r p)
  where
    a : Ascends least people c cs
    a = ascends least people c cs h

    part : List A
    part = take size (drop (c * size) l)

    rest : List A
    rest = chosen_parts size cs l ++ m

    n : length part ≡ size
    n =
        let p = part_inside c people size (length l) a.below r in
        length-take-le size (drop (c * size) l) (rw length-drop (omega arith))

    by_number : (d : ℕ) → d < suc (length cs)
        → ((k : ℕ) → k < length cs → take size (drop (k * size) rest) ≡ take size (drop (get_or cs k 0 * size) l))
        → take size (drop (d * size) (part ++ chosen_parts size cs l ++ m)) ≡ take size (drop (get_or (c ∷ cs) d 0 * size) l)
    by_number zero q on = rw (zero-mul size, append_assoc part (chosen_parts size cs l) m, take_at part rest size n)
    by_number (suc d) q on =
        let e : suc d * size ≡ size + d * size = omega (arith, suc-mul d size) in
        rw (
          e,
          sym (drop-drop (d * size) size (part ++ chosen_parts size cs l ++ m)),
          append_assoc part (chosen_parts size cs l) m,
          drop_at part rest size n,
        )
        (on d (omega arith))

-- the parts of a choice out of the parts of a choice
pub chosen_parts_composed : {A : Type 0} (size least people : ℕ) (cs ds : List ℕ) (l m : List A) → ascending people cs ≡ true
    → people * size ≤ length l → ascending_from least (length cs) ds ≡ true
    → chosen_parts size ds (chosen_parts size cs l ++ m) ≡ chosen_parts size (composed cs ds) l
unfolding chosen_parts
chosen_parts_composed size least people cs [] l m h r a = refl
chosen_parts_composed size least people cs (d ∷ ds) l m h r a =
    let b = ascends least (length cs) d ds a in
    rw (part_chosen_parts size 0 people d cs l m h r b.below, chosen_parts_composed size (suc d) people cs ds l m h r b.rest)
