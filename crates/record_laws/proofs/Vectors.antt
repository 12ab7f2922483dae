-- Vectors whose number is 0 keep 01's rules of a vector, and GT's those of GT. Rests on specs/Rules, on the table of marks and on vectors' judgement.
use mathlib.Core.Path.{◌≡◌, refl}
use mathlib.Core.List.{List, [], ◌∷◌}
use mathlib.Core.Bool.{Bool, true, false}
use Prim.Native.Nat.{ℕ, zero, suc, ◌+◌, ◌-◌, ◌*◌, ◌/◌, ◌<◌, ◌≤◌}
use native.Mathlib.Omega.{arith}
use native.Mathlib.Nat.{zero-mul, suc-mul, mul-div_cancel}
use lib.Dec.{ltb, eqb}
use lib.ListN.{length, get_or, take, drop, length-drop}
use lib.Seq.{drop-drop, take-length}
use borrow.Author.Tests.{ltb-false, le-ltb, eqb-true, ne_eqb}
use Rattle.words.specs.Pick.{pick}
use Rattle.types.specs.Elements.{marked, kind}
use Rattle.types.specs.declared.Element.{Element}
use Rattle.types.specs.declared.Element.TheVariants.{Plain, Missing, End, Reserved as ReservedMark}
use Rattle.vectors.specs.Sound.{highest, code_most}
use Rattle.vectors.specs.Vectors.{element_turn, follow, vector, and_then, Sound}
use Rattle.vectors.proofs.Codes.{code_sound}
use Rattle.shown.specs.Shown.{Kind, integers, floats, text}
use Rattle.build_given.specs.Given.{number_of, vectors_given, elements_number}
use Rattle.build_rules.specs.Values.{given_as, given_number}
use Rattle.build_laws.specs.Records.{All}
use Rattle.std.specs.Prelude.{Err, Ok}
use Rattle.values.specs.Answers.{Answer}
use Rattle.record_laws.specs.Rules.{end_mark, Reserved, Vector, GtElement, ends, missing, code, vector_of}

-- what holds of each of a list
pub all_each : {A : Type 0} (P Q : A → Type 0) → ((x : A) → P x → Q x) → (xs : List A) → All P xs → All Q xs
all_each P Q on [] h = tt
all_each P Q on (x ∷ xs) h = (on x h.0, all_each P Q on xs h.1)

all_at : (P : ℕ → Type 0) (xs : List ℕ) → All P xs → (i : ℕ) → i < length xs → P (get_or xs i 0)
all_at P [] h i q = absurd (omega arith)
all_at P (x ∷ xs) h zero q = h.0
all_at P (x ∷ xs) h (suc i) q = all_at P xs h.1 i (omega arith)

all_parts : (P : ℕ → Type 0) (n : ℕ) (xs : List ℕ) → All P (take n xs) → All P (drop n xs) → All P xs
all_parts P zero xs h k = k
all_parts P (suc n) [] h k = tt
all_parts P (suc n) (x ∷ xs) h k = (h.0, all_parts P n xs h.1 k)

-- the marks of a row: which number is which
marked_end : (low last x : ℕ) → marked low last x ≡ End → x ≡ low + 1
unfolding marked
marked_end low last x h = by_tests (ltb x low) (ltb last x) (eqb x low) (eqb (x - low) 1) refl h
  where
    by_tests : (a b c d : Bool) → eqb (x - low) 1 ≡ d → pick a Plain (pick b Plain (pick c Missing (pick d End ReservedMark))) ≡ End → x ≡ low + 1
    by_tests true b c d e h = cc
    by_tests false true c d e h = cc
    by_tests false false true d e h = cc
    by_tests false false false true e h = let q = eqb-true (x - low) 1 e in omega arith
    by_tests false false false false e h = cc

marked_missing : (low last x : ℕ) → marked low last x ≡ Missing → x ≡ low
unfolding marked
marked_missing low last x h = by_tests (ltb x low) (ltb last x) (eqb x low) (eqb (x - low) 1) refl h
  where
    by_tests : (a b c d : Bool) → eqb x low ≡ c → pick a Plain (pick b Plain (pick c Missing (pick d End ReservedMark))) ≡ Missing → x ≡ low
    by_tests true b c d e h = cc
    by_tests false true c d e h = cc
    by_tests false false true d e h = eqb-true x low e
    by_tests false false false true e h = cc
    by_tests false false false false e h = cc

marked_reserved : (low last x : ℕ) → low + 2 ≤ x → x ≤ last → marked low last x ≡ ReservedMark
unfolding marked
marked_reserved low last x h k =
    rw (le-ltb x low (omega arith), le-ltb last x k, ne_eqb x low (λ e. omega arith), ne_eqb (x - low) 1 (λ e. omega arith))

-- by the kind of what is shown
pub kind_end : (k : Kind) (x : ℕ) → kind (given_as k) x ≡ End → x ≡ end_mark k
unfolding kind
kind_end integers x h = marked_end 0x80000000 0x80000007 x h
kind_end floats x h = marked_end 0x7F800001 0x7F800007 x h
kind_end text x h = by-test (eqb x 0) refl h
  where
    by-test : (a : Bool) → eqb x 0 ≡ a → pick a End Plain ≡ End → x ≡ 0
    by-test true e h = eqb-true x 0 e
    by-test false e h = cc

pub end_kind : (k : Kind) → kind (given_as k) (end_mark k) ≡ End
unfolding kind marked
end_kind integers = refl
end_kind floats = refl
end_kind text = refl

reserved_kind : (k : Kind) (x : ℕ) → Reserved k x → kind (given_as k) x ≡ ReservedMark
unfolding kind
reserved_kind integers x h = marked_reserved 0x80000000 0x80000007 x h.0 h.1
reserved_kind floats x h = marked_reserved 0x7F800001 0x7F800007 x h.0 h.1
reserved_kind text x h = absurd h

-- an element that is not refused: an end of vector, the missing mark, or a plain one up to the most
pub data Passes (most t x : ℕ) : Type 0 where
  at_end : kind t x ≡ End → Passes most t x
  at_missing : kind t x ≡ Missing → Passes most t x
  at_plain : kind t x ≡ Plain → x ≤ most → Passes most t x

-- a vector whose number is 0, from an element after an end of vector or not: none of its elements is refused, and after an end only ends follow
record Runs (most t w at : ℕ) (ended : Bool) (xs : List ℕ) : Type 0 where
  sound : vector most t w at ended xs ≡ Sound
  passes : All (Passes most t) xs
  over : ended ≡ true → All (λ x. kind t x ≡ End) xs
  after : (i j : ℕ) → i < j → j < length xs → kind t (get_or xs i 0) ≡ End → kind t (get_or xs j 0) ≡ End

-- one element more at the front
runs_more : (most t w at : ℕ) (b c : Bool) (x : ℕ) (xs : List ℕ) → element_turn most b (kind t x) x ≡ Ok c → Passes most t x
    → (b ≡ true → kind t x ≡ End) → (kind t x ≡ End → c ≡ true) → Runs most t w (at + w) c xs → Runs most t w at b (x ∷ xs)
unfolding vector
runs_more most t w at b c x xs turn pass late end r =
    record {
      sound = rw turn r.sound;
      passes = (pass, r.passes);
      over = λ e. (late e, r.over (end (late e)));
      after = further;
    }
  where
    further : (i j : ℕ) → i < j → j < suc (length xs) → kind t (get_or (x ∷ xs) i 0) ≡ End → kind t (get_or (x ∷ xs) j 0) ≡ End
    further zero zero p q e = e
    further zero (suc j) p q e = all_at (λ y. kind t y ≡ End) xs (r.over (end e)) j (omega arith)
    further (suc i) zero p q e = absurd (omega arith)
    further (suc i) (suc j) p q e = r.after i j (omega arith) (omega arith) e

number_runs : (most t w at : ℕ) (b : Bool) (xs : List ℕ) → number_of (vector most t w at b xs) ≡ 0 → Runs most t w at b xs
unfolding vector
number_runs most t w at b [] h = record { sound = refl; passes = tt; over = λ e. tt; after = λ i j p q e. absurd (omega arith) }
number_runs most t w at b (x ∷ xs) h = by_kind (kind t x) refl b h (λ c. number_runs most t w (at + w) c xs)
  where
    rest : Bool → Answer (Unit {0})
    rest c = vector most t w (at + w) c xs

    by_kind : (k : Element) → kind t x ≡ k → (b : Bool) → number_of (follow at (element_turn most b k x) rest) ≡ 0
        → ((c : Bool) → number_of (rest c) ≡ 0 → Runs most t w (at + w) c xs) → Runs most t w at b (x ∷ xs)
    by_kind End p b s on = runs_more most t w at b true x xs (rw p) (at_end p) (λ e. p) (λ e. refl) (on true s)
    by_kind ReservedMark p b s on = absurd (omega arith)
    by_kind Missing p true s on = absurd (omega arith)
    by_kind Missing p false s on =
        runs_more most t w at false false x xs (rw p) (at_missing p) (λ e. cc) (λ e. cc) (on false s)
    by_kind Plain p true s on = absurd (omega arith)
    by_kind Plain p false s on = by_most (ltb most x) refl
      where
        by_most : (q : Bool) → ltb most x ≡ q → Runs most t w at false (x ∷ xs)
        by_most true g = let z = rw g at s in absurd (omega arith)
        by_most false g =
            runs_more most t w at false false x xs (rw (p, g)) (at_plain p (ltb-false most x g)) (λ e. cc) (λ e. cc) (on false (rw g at s))

-- so it is a vector by 01's rules
runs_vector : (k : Kind) (most w at : ℕ) (xs : List ℕ) → Runs most (given_as k) w at false xs → Vector k xs
runs_vector k most w at xs r =
    record {
      reserved = all_each (Passes most (given_as k)) (λ x. Reserved k x → ⊥) none xs r.passes;
      ends = λ i j p q e. kind_end k (get_or xs j 0) (r.after i j p q (rw e (end_kind k)));
    }
  where
    none : (x : ℕ) → Passes most (given_as k) x → Reserved k x → ⊥
    none x (at_end e) h = let d = reserved_kind k x h in let z : ◌≡◌ {A = ℕ} 0 1 = cc in omega arith
    none x (at_missing e) h = let d = reserved_kind k x h in let z : ◌≡◌ {A = ℕ} 0 1 = cc in omega arith
    none x (at_plain e l) h = let d = reserved_kind k x h in let z : ◌≡◌ {A = ℕ} 0 1 = cc in omega arith

-- and an element of GT is one by 01's
passes_gt : (alleles x : ℕ) → Passes (code_most alleles 3) 3 x → GtElement alleles x
unfolding kind highest
passes_gt alleles x (at_end e) = ends (marked_end 0x80000000 0x80000007 x e)
passes_gt alleles x (at_missing e) = missing (marked_missing 0x80000000 0x80000007 x e)
passes_gt alleles x (at_plain e l) = let c = code_sound alleles 3 x l in code (omega arith) (omega arith)

-- vectors of a length, one after the other: the first, and those after it
first_sound : (a b : Answer (Unit {0})) → (number_of a ≡ 0 → a ≡ Sound) → number_of (and_then a b) ≡ 0 → (number_of a ≡ 0) × (number_of b ≡ 0)
first_sound Sound b f h = (refl, h)
first_sound (Err r) b f h = let e = f h in let z : ◌≡◌ {A = ℕ} 0 1 = cc in absurd (omega arith)

given_runs : (most t len n : ℕ) (xs : List ℕ) → number_of (vectors_given most t len n xs) ≡ 0
    → (i : ℕ) → i < n → Runs most t 0 0 false (vector_of len i xs)
unfolding vectors_given
given_runs most t len zero xs h i q = absurd (omega arith)
given_runs most t len (suc n) xs h i q =
    let b = first_sound (vector most t 0 0 false (take len xs)) (vectors_given most t len n (drop len xs))
    (λ e. (number_runs most t 0 0 false (take len xs) e).sound) h in
    by-person i (number_runs most t 0 0 false (take len xs) b.0) (given_runs most t len n (drop len xs) b.1) q
  where
    by-person : (i : ℕ) → Runs most t 0 0 false (take len xs) → ((i : ℕ) → i < n → Runs most t 0 0 false (vector_of len i (drop len xs)))
        → i < suc n → Runs most t 0 0 false (vector_of len i xs)
    by-person zero r on q = rw (zero-mul len) r
    by-person (suc i) r on q =
        let e : len + i * len ≡ suc i * len = omega (arith, suc-mul i len) in
        rw (← e, ← drop-drop (i * len) len xs) (on i (omega arith))

-- people times length elements whose number is 0: a vector of each person
people_runs : (most t len people : ℕ) (xs : List ℕ) → length xs ≡ people * len → elements_number most t len xs ≡ 0
    → (i : ℕ) → i < people → Runs most t 0 0 false (vector_of len i xs)
unfolding elements_number vector
people_runs most t zero people xs e h i q = number_runs most t 0 0 false [] refl
people_runs most t (suc len) people xs e h i q =
    let n : length xs / suc len ≡ people = rw (e, mul-div_cancel people (let p : 0 < suc len = omega arith in p)) in
    given_runs most t (suc len) people xs (rw n at h) i q

-- what holds of each person's elements holds of all
pub all_people : (P : ℕ → Type 0) (len n : ℕ) (xs : List ℕ) → length xs ≡ n * len → ((i : ℕ) → i < n → All P (vector_of len i xs)) → All P xs
all_people P len zero [] e h = tt
all_people P len zero (x ∷ xs) e h = absurd (omega (arith, zero-mul len))
all_people P len (suc n) xs e h =
    let k = suc-mul n len in
    all_parts P len xs (rw (zero-mul len) at (h 0 (omega arith)))
    (all_people P len n (drop len xs) (rw length-drop (omega arith))
    (λ i q.
    let e : suc i * len ≡ len + i * len = omega (arith, suc-mul i len) in
    rw (drop-drop (i * len) len xs) (rw e at (h (suc i) (omega arith)))))

-- the laws: each person's vector keeps the rules of a vector, and GT's elements those of GT; one vector is that of one person
pub given_vectors : (most : ℕ) (k : Kind) (len people : ℕ) (xs : List ℕ) → length xs ≡ people * len → given_number most k len xs ≡ 0
    → (i : ℕ) → i < people → Vector k (vector_of len i xs)
unfolding given_number
given_vectors most k len people xs e h i q = runs_vector k most 0 0 (vector_of len i xs) (people_runs most (given_as k) len people xs e h i q)

pub given_vector : (most : ℕ) (k : Kind) (xs : List ℕ) → given_number most k (length xs) xs ≡ 0 → Vector k xs
given_vector most k xs h =
    let v = given_vectors most k (length xs) 1 xs (omega arith) h 0 (omega arith) in
    rw (zero-mul (length xs), take-length xs) at v

pub given_gt : (alleles len people : ℕ) (xs : List ℕ) → length xs ≡ people * len → given_number (code_most alleles 3) integers len xs ≡ 0
    → All (GtElement alleles) xs
unfolding given_number
given_gt alleles len people xs e h =
    all_people (GtElement alleles) len people xs e
    (λ i q. all_each (Passes (code_most alleles 3) 3) (GtElement alleles) (passes_gt alleles) (vector_of len i xs)
    (people_runs (code_most alleles 3) 3 len people xs e h i q).passes)
