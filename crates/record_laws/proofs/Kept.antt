-- Vectors that keep 01's rules are judged sound, and so give number 0: proofs/Vectors the other way round. Rests on specs/Rules, on the table of
-- marks and on vectors' judgement.
use mathlib.Core.Path.{◌≡◌, refl, ap}
use mathlib.Core.List.{List, [], ◌∷◌}
use mathlib.Core.Bool.{Bool, true, false}
use Prim.Native.Nat.{ℕ, zero, suc, ◌+◌, ◌-◌, ◌*◌, ◌/◌, ◌<◌, ◌≤◌}
use native.Mathlib.Omega.{arith}
use native.Mathlib.Nat.{zero-mul, suc-mul, mul-div_cancel, div-zero}
use lib.Dec.{ltb, eqb}
use lib.ListN.{length, get_or, take, drop}
use lib.Seq.{drop-drop}
use borrow.Author.Tests.{ltb-false, le-ltb, lt-ltb, eqb-false}
use Rattle.words.specs.Pick.{pick}
use Rattle.types.specs.Elements.{marked, kind}
use Rattle.types.specs.declared.Element.{Element}
use Rattle.types.specs.declared.Element.TheVariants.{Plain, Missing, End, Reserved as ReservedMark}
use Rattle.vectors.specs.Sound.{highest, code_most}
use Rattle.vectors.specs.Vectors.{vector, Sound}
use Rattle.vectors.proofs.Codes.{sound_code}
use Rattle.shown.specs.Shown.{Kind, integers, floats, text}
use Rattle.build_given.specs.Given.{number_of, vectors_given, elements_number}
use Rattle.build_rules.specs.Values.{given_as, given_number}
use Rattle.build_laws.specs.Records.{All}
use Rattle.record_laws.specs.Rules.{Reserved, Vector, GtElement, ends, missing, code, vector_of}
use Rattle.record_laws.proofs.Vectors.{Passes, at_end, at_missing, at_plain, kind_end, end_kind}

-- what is reserved by the table is reserved by 01
reserved_marked : (low last x : ℕ) → marked low last x ≡ ReservedMark → (low + 2 ≤ x) × (x ≤ last)
unfolding marked
reserved_marked low last x h = by_tests (ltb x low) (ltb last x) (eqb x low) (eqb (x - low) 1) refl refl refl refl h
  where
    by_tests : (a b c d : Bool) → ltb x low ≡ a → ltb last x ≡ b → eqb x low ≡ c → eqb (x - low) 1 ≡ d
        → pick a Plain (pick b Plain (pick c Missing (pick d End ReservedMark))) ≡ ReservedMark → (low + 2 ≤ x) × (x ≤ last)
    by_tests true b c d p q r e h = let z : ◌≡◌ {A = ℕ} 0 1 = cc in absurd (omega arith)
    by_tests false true c d p q r e h = let z : ◌≡◌ {A = ℕ} 0 1 = cc in absurd (omega arith)
    by_tests false false true d p q r e h = let z : ◌≡◌ {A = ℕ} 0 1 = cc in absurd (omega arith)
    by_tests false false false true p q r e h = let z : ◌≡◌ {A = ℕ} 0 1 = cc in absurd (omega arith)
    by_tests false false false false p q r e h = (above (x - low) refl (ltb-false x low p), ltb-false last x q)
      where
        above : (n : ℕ) → x - low ≡ n → low ≤ x → low + 2 ≤ x
        above zero u l = absurd (eqb-false x low r (omega arith))
        above (suc zero) u l = absurd (eqb-false (x - low) 1 e u)
        above (suc (suc n)) u l = omega arith

kind_reserved : (k : Kind) (x : ℕ) → kind (given_as k) x ≡ ReservedMark → Reserved k x
unfolding kind
kind_reserved integers x h = reserved_marked 0x80000000 0x80000007 x h
kind_reserved floats x h = reserved_marked 0x7F800001 0x7F800007 x h
kind_reserved text x h = by-test (eqb x 0) h
  where
    by-test : (a : Bool) → pick a End Plain ≡ ReservedMark → ⊥
    by-test true h = let z : ◌≡◌ {A = ℕ} 0 1 = cc in omega arith
    by-test false h = let z : ◌≡◌ {A = ℕ} 0 1 = cc in omega arith

-- an element that is not reserved, and not above the most, is not refused
pub passes_unless : (k : Kind) (most x : ℕ) → (Reserved k x → ⊥) → x ≤ most → Passes most (given_as k) x
passes_unless k most x h l = by_kind (kind (given_as k) x) refl
  where
    by_kind : (e : Element) → kind (given_as k) x ≡ e → Passes most (given_as k) x
    by_kind End p = at_end p
    by_kind Missing p = at_missing p
    by_kind Plain p = at_plain p l
    by_kind ReservedMark p = absurd (h (kind_reserved k x p))

pub gt_passes : (alleles x : ℕ) → GtElement alleles x → Passes (code_most alleles 3) 3 x
unfolding kind marked highest
gt_passes alleles x (ends e) = at_end (rw e (end_kind integers))
gt_passes alleles x (missing e) = at_missing (rw e)
gt_passes alleles x (code l a) = at_plain (rw (lt-ltb x 0x80000000 l)) (sound_code alleles 3 x (omega arith) (omega arith))

each_all : (P : ℕ → Type 0) (xs : List ℕ) → ((i : ℕ) → i < length xs → P (get_or xs i 0)) → All P xs
each_all P [] h = tt
each_all P (x ∷ xs) h = (h 0 (omega arith), each_all P xs (λ i q. h (suc i) (omega arith)))

-- elements none of which is refused, with only ends after an end, are a sound vector
passes_sound : (most t w at : ℕ) (b : Bool) (xs : List ℕ) → All (Passes most t) xs → (b ≡ true → All (λ x. kind t x ≡ End) xs)
    → ((i j : ℕ) → i < j → j < length xs → kind t (get_or xs i 0) ≡ End → kind t (get_or xs j 0) ≡ End) → vector most t w at b xs ≡ Sound
unfolding vector
passes_sound most t w at b [] p o a = refl
passes_sound most t w at b (x ∷ xs) p o a =
    by-element b p.0 (λ e. (o e).0)
    (λ c over. passes_sound most t w (at + w) c xs p.1 over (λ i j q r. a (suc i) (suc j) (omega arith) (omega arith)))
  where
    by-element : (b : Bool) → Passes most t x → (b ≡ true → kind t x ≡ End)
        → ((c : Bool) → (c ≡ true → All (λ y. kind t y ≡ End) xs) → vector most t w (at + w) c xs ≡ Sound) → vector most t w at b (x ∷ xs) ≡ Sound
    by-element b (at_end e) o on = rw e (on true (λ _. each_all (λ y. kind t y ≡ End) xs (λ j q. a 0 (suc j) (omega arith) (omega arith) e)))
    by-element true (at_missing e) o on = let z = o refl in cc
    by-element false (at_missing e) o on = rw e (on false (λ u. let z : ◌≡◌ {A = ℕ} 0 1 = cc in absurd (omega arith)))
    by-element true (at_plain e l) o on = let z = o refl in cc
    by-element false (at_plain e l) o on = rw (e, le-ltb most x l) (on false (λ u. let z : ◌≡◌ {A = ℕ} 0 1 = cc in absurd (omega arith)))

vector_sound : (k : Kind) (most : ℕ) (xs : List ℕ) → Vector k xs → All (Passes most (given_as k)) xs → vector most (given_as k) 0 0 false xs ≡ Sound
vector_sound k most xs v p =
    passes_sound most (given_as k) 0 0 false xs p (λ u. let z : ◌≡◌ {A = ℕ} 0 1 = cc in absurd (omega arith))
    (λ i j q r e. let m = v.ends i j q r (kind_end k (get_or xs i 0) e) in rw m (end_kind k))

-- vectors of a length, one after the other
vectors_sound : (most t len n : ℕ) (xs : List ℕ) → ((i : ℕ) → i < n → vector most t 0 0 false (vector_of len i xs) ≡ Sound)
    → vectors_given most t len n xs ≡ Sound
unfolding vectors_given
vectors_sound most t len zero xs h = refl
vectors_sound most t len (suc n) xs h =
    rw (rw (zero-mul len) at (h 0 (omega arith)))
    (vectors_sound most t len n (drop len xs)
    (λ i q.
    let e : suc i * len ≡ len + i * len = omega (arith, suc-mul i len) in
    rw (drop-drop (i * len) len xs) (rw e at (h (suc i) (omega arith)))))

-- the laws: people times length elements, each person's vector by the rules and no element refused
all_part : (P : ℕ → Type 0) (n m : ℕ) (xs : List ℕ) → All P xs → All P (take n (drop m xs))
all_part P zero zero xs h = tt
all_part P (suc n) zero [] h = tt
all_part P (suc n) zero (x ∷ xs) h = (h.0, all_part P n zero xs h.1)
all_part P zero (suc m) xs h = tt
all_part P (suc n) (suc m) [] h = tt
all_part P (suc n) (suc m) (x ∷ xs) h = all_part P (suc n) m xs h.1

pub vectors_given_lem : (most : ℕ) (k : Kind) (len people : ℕ) (xs : List ℕ) → length xs ≡ people * len → All (Passes most (given_as k)) xs
    → ((i : ℕ) → i < people → Vector k (vector_of len i xs)) → given_number most k len xs ≡ 0
unfolding given_number elements_number vectors_given
vectors_given_lem most k zero people xs e p v = rw (div-zero (length xs))
vectors_given_lem most k (suc len) people xs e p v =
    let some : 0 < suc len = omega arith in
    let n : length xs / suc len ≡ people = rw (e, mul-div_cancel people some) in
    rw n (ap number_of (vectors_sound most (given_as k) (suc len) people xs
    (λ i q. vector_sound k most (vector_of (suc len) i xs) (v i q) (all_part (Passes most (given_as k)) (suc len) (i * suc len) xs p))))
