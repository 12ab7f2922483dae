-- What an element becomes when it is written at a width: it is shown as what was given, it is of the same kind, and it stays below the most of
-- its use. Rests on encode's types, on types' marks and on vectors' codes.
use mathlib.Core.Path.{◌≡◌, refl, ◌∙◌, ap, sym}
use mathlib.Core.List.{List, [], ◌∷◌, ◌++◌, append-nil}
use mathlib.Core.Bool.{Bool, true, false}
use Prim.Native.Nat.{ℕ, zero, suc, ◌+◌, ◌-◌, ◌/◌, ◌^◌, ◌<◌, ◌≤◌}
use native.Mathlib.Omega.{arith}
use native.Mathlib.Nat.{le-max_left, le-max_right, max-le}
use lib.Dec.{ltb, leb, eqb}
use lib.ListN.{take}
use lib.Seq.{take_at, take_all}
use borrow.Author.Tests.{leb-true, leb-false, eqb-true, eqb-false, lt-ltb, le-ltb, le-leb, eq-eqb, ne_eqb}
use Rattle.words.specs.Pick.{pick}
use Rattle.words.specs.Words.{le, number, bytes}
use Rattle.words.proofs.Words.{length_bytes, number_bytes}
use Rattle.types.specs.Rows.{row_of, width_of}
use Rattle.types.specs.Elements.{marked, kind, widened, shown, narrowest}
use Rattle.types.specs.declared.Use.{Use}
use Rattle.types.specs.declared.Use.TheVariants.{Id, Allele, Filter, Integer as IntegerUse, Info, Format, Gt}
use Rattle.types.specs.declared.Element.{Element}
use Rattle.types.specs.declared.Element.TheVariants.{Plain, Missing, End, Reserved}
use Rattle.vectors.specs.Sound.{highest, code_most, most_of}
use Rattle.vectors.proofs.Codes.{code_sound, sound_code}
use Rattle.encode.specs.Encode.{type_for, widest, marked_as, narrowed}
use Rattle.shown.specs.Shown.{Kind, integers, floats, text}
use Rattle.shown.specs.Values.{written_as}
use Rattle.build_rules.specs.Values.{given_as}
use Rattle.build_laws.specs.Records.{All, Fit}
use Rattle.build_laws.specs.Widths.{between}

-- which numbers take which type: −120 to 127 type 1, and −32760 to 32767 one up to type 2
pub narrowest_one : (x : ℕ) → leb (narrowest x) 1 ≡ between 120 127 x
unfolding narrowest between
narrowest_one x = by_tests (leb x 127) (leb (4294967296 - 120) x) (leb x 32767) (leb (4294967296 - 32760) x)
  where
    by_tests : (a b c d : Bool) → leb (pick a 1 (pick b 1 (pick c 2 (pick d 2 3)))) 1 ≡ pick a true b
    by_tests true b c d = refl
    by_tests false true c d = refl
    by_tests false false true d = refl
    by_tests false false false true = refl
    by_tests false false false false = refl

pub narrowest_two : (x : ℕ) → leb (narrowest x) 2 ≡ between 32760 32767 x
unfolding narrowest between
narrowest_two x = by_tests (leb x 127) (leb (4294967296 - 120) x) (leb x 32767) (leb (4294967296 - 32760) x) refl refl refl refl
  where
    by_tests : (a b c d : Bool) → leb x 127 ≡ a → leb (4294967296 - 120) x ≡ b → leb x 32767 ≡ c → leb (4294967296 - 32760) x ≡ d
        → leb (pick a 1 (pick b 1 (pick c 2 (pick d 2 3)))) 2 ≡ pick c true d
    by_tests true b true d p q r s = refl
    by_tests true b false d p q r s = absurd (omega (arith, leb-true x 127 p, leb-false x 32767 r))
    by_tests false true true d p q r s = refl
    by_tests false true false true p q r s = refl
    by_tests false true false false p q r s = absurd (omega (arith, leb-true (4294967296 - 120) x q, leb-false (4294967296 - 32760) x s))
    by_tests false false true d p q r s = refl
    by_tests false false false true p q r s = refl
    by_tests false false false false p q r s = refl

pub narrowest_types : (x : ℕ) → (0 < narrowest x) × (narrowest x ≤ 3)
unfolding narrowest
narrowest_types x = by_tests (leb x 127) (leb (4294967296 - 120) x) (leb x 32767) (leb (4294967296 - 32760) x)
  where
    by_tests : (a b c d : Bool) → (0 < pick a 1 (pick b 1 (pick c 2 (pick d 2 3)))) × (pick a 1 (pick b 1 (pick c 2 (pick d 2 3))) ≤ 3)
    by_tests true b c d = (omega arith, omega arith)
    by_tests false true c d = (omega arith, omega arith)
    by_tests false false true d = (omega arith, omega arith)
    by_tests false false false true = (omega arith, omega arith)
    by_tests false false false false = (omega arith, omega arith)

-- 32 bits are one of the two marks of type 3, or take the type that they take as a number
data Given (x : ℕ) : Type 0 where
  is_missing : x ≡ 0x80000000 → Given x
  is_end : x ≡ 0x80000001 → Given x
  is_number : eqb x 0x80000000 ≡ false → eqb x 0x80000001 ≡ false → type_for (kind 3 x) x ≡ narrowest x → Given x

given : (x : ℕ) → Given x
unfolding kind marked
given x = by-marks (eqb x 0x80000000) (eqb x 0x80000001) refl refl
  where
    by_tests : (a b c d : Bool) → ltb x 0x80000000 ≡ a → eqb x 0x80000000 ≡ c → eqb (x - 0x80000000) 1 ≡ d → c ≡ false
        → eqb x 0x80000001 ≡ false
        → type_for (pick a Plain (pick b Plain (pick c Missing (pick d End Reserved)))) x ≡ narrowest x
    by_tests true b c d p q r u v = refl
    by_tests false true c d p q r u v = refl
    by_tests false false true d p q r u v = cc
    by_tests false false false true p q r u v =
        let k = eqb-true (x - 0x80000000) 1 r in
        absurd (eqb-false x 0x80000001 v (omega arith))
    by_tests false false false false p q r u v = refl

    by-marks : (a b : Bool) → eqb x 0x80000000 ≡ a → eqb x 0x80000001 ≡ b → Given x
    by-marks true b p q = is_missing (eqb-true _ _ p)
    by-marks false true p q = is_end (eqb-true _ _ q)
    by-marks false false p q =
        is_number p q (by_tests (ltb x 0x80000000) (ltb 0x80000007 x) (eqb x 0x80000000) (eqb (x - 0x80000000) 1) refl refl refl p q)

-- the number that is read where an element of type t was written
unfoldable pub stored : ℕ → ℕ → ℕ
stored t x = number (width_of t) (bytes (width_of t) (narrowed t x))

pub number_stored : (t x : ℕ) (m : List ℕ) → number (width_of t) (bytes (width_of t) (narrowed t x) ++ m) ≡ stored t x
unfolding stored number
number_stored t x m =
    let w = width_of t in
    let b = bytes w (narrowed t x) in
    let e : take w (b ++ m) ≡ b = take_at b m w (length_bytes w (narrowed t x)) in
    let k : take w b ≡ b = take_all w b (omega (arith, length_bytes w (narrowed t x))) in
    rw (e, k)

-- 32 bits as the number y of a narrower type, whose missing mark is given
pub data Narrow (missing x y : ℕ) : Type 0 where
  positive : y ≡ x → x < missing → Narrow missing x y
  negative : y + (4294967296 - (missing + missing)) ≡ x → missing + 8 ≤ y → y < missing + missing → Narrow missing x y
  missed : x ≡ 0x80000000 → y ≡ missing → Narrow missing x y
  ended : x ≡ 0x80000001 → y ≡ missing + 1 → Narrow missing x y

-- it is shown as it was given, and of the same kind
widened_narrow : (missing x y : ℕ) → missing ≤ 0x8000 → Narrow missing x y → widened missing y ≡ x
unfolding widened
widened_narrow missing x y h (positive e l) = rw (lt-ltb y missing (omega arith)) e
widened_narrow missing x y h (negative e l r) =
    rw (
      le-ltb y missing (omega arith),
      ne_eqb y missing (λ z. omega arith),
      ne_eqb (y - missing) 1 (λ z. omega arith),
      lt-ltb (y - missing) missing (omega arith),
    ) e
widened_narrow missing x y h (missed e k) = rw (e, k, le-ltb missing missing (omega arith), eq-eqb missing missing refl)
widened_narrow missing x y h (ended e k) =
    let z : missing + 1 - missing ≡ 1 = omega arith in
    rw (e, k, le-ltb (missing + 1) missing (omega arith), ne_eqb (missing + 1) missing (λ z. omega arith), z)

pub marked_narrow : (missing x y : ℕ) → 16 ≤ missing → missing ≤ 0x8000 → Narrow missing x y
    → marked missing (missing + 7) y ≡ marked 0x80000000 0x80000007 x
unfolding marked
marked_narrow missing x y g h (positive e l) = rw (lt-ltb y missing (omega arith), lt-ltb x 0x80000000 (omega arith))
marked_narrow missing x y g h (negative e l r) =
    rw (
      le-ltb y missing (omega arith),
      lt-ltb (missing + 7) y (omega arith),
      le-ltb x 0x80000000 (omega arith),
      lt-ltb 0x80000007 x (omega arith),
    )
marked_narrow missing x y g h (missed e k) =
    rw (e, k, le-ltb missing missing (omega arith), le-ltb (missing + 7) missing (omega arith), eq-eqb missing missing refl)
marked_narrow missing x y g h (ended e k) =
    let z : missing + 1 - missing ≡ 1 = omega arith in
    rw (
      e,
      k,
      le-ltb (missing + 1) missing (omega arith),
      le-ltb (missing + 7) (missing + 1) (omega arith),
      ne_eqb (missing + 1) missing (λ z. omega arith),
      z,
    )

-- an element that takes type 1, or type 2, written there
between_true : (low high x : ℕ) → between low high x ≡ true → (P : Type 0) → (x ≤ high → P) → (4294967296 - low ≤ x → P) → P
unfolding between
between_true low high x h P f g = by-test (leb x high) refl h
  where
    by-test : (b : Bool) → leb x high ≡ b → pick b true (leb (4294967296 - low) x) ≡ true → P
    by-test true e k = f (leb-true x high e)
    by-test false e k = g (leb-true (4294967296 - low) x k)

narrow_one : (x : ℕ) → x < 4294967296 → type_for (kind 3 x) x ≤ 1 → Narrow 0x80 x (stored 1 x)
unfolding stored narrowed marked_as number bytes le width_of row_of
narrow_one x b h = by-given (given x)
  where
    by-given : Given x → Narrow 0x80 x (stored 1 x)
    by-given (is_missing e) = missed e (rw e)
    by-given (is_end e) = ended e (rw e)
    by-given (is_number p q e) =
        between_true 120 127 x (rw (narrowest_one x) at (le-leb (narrowest x) 1 (rw e at h))) _
        (λ i. positive (rw (p, q) (omega arith)) (omega arith))
        (λ i. negative (rw (p, q) (omega arith)) (rw (p, q) (omega arith)) (rw (p, q) (omega arith)))

narrow_two : (x : ℕ) → x < 4294967296 → type_for (kind 3 x) x ≤ 2 → Narrow 0x8000 x (stored 2 x)
unfolding stored narrowed marked_as number bytes le width_of row_of
narrow_two x b h = by-given (given x)
  where
    by-given : Given x → Narrow 0x8000 x (stored 2 x)
    by-given (is_missing e) = missed e (rw e)
    by-given (is_end e) = ended e (rw e)
    by-given (is_number p q e) =
        between_true 32760 32767 x (rw (narrowest_two x) at (le-leb (narrowest x) 2 (rw e at h))) _
        (λ i. positive (rw (p, q) (omega arith)) (omega arith))
        (λ i. negative (rw (p, q) (omega arith)) (rw (p, q) (omega arith)) (rw (p, q) (omega arith)))

-- a code that is no more than GT's most at type 3, and fits a narrower type, is no more than the most there
code_narrow : (t missing alleles x y : ℕ) → highest t + 1 ≡ missing → Narrow missing x y → x ≤ code_most alleles 3 → y ≤ code_most alleles t
unfolding highest
code_narrow t missing alleles x y e n h =
    let c = code_sound alleles 3 x h in
    by-narrow n c.0 c.1
  where
    by-narrow : Narrow missing x y → x ≤ 0x7FFFFFFF → x / 2 ≤ alleles → y ≤ code_most alleles t
    by-narrow (positive k l) a b = sound_code alleles t y (omega arith) (omega arith)
    by-narrow (negative k l r) a b = absurd (omega arith)
    by-narrow (missed k l) a b = absurd (omega arith)
    by-narrow (ended k l) a b = absurd (omega arith)

narrow_bits : (missing x y : ℕ) → missing ≤ 0x8000 → Narrow missing x y → y ≤ 0xFFFFFFFF
narrow_bits missing x y h (positive k l) = omega arith
narrow_bits missing x y h (negative k l r) = omega arith
narrow_bits missing x y h (missed k l) = omega arith
narrow_bits missing x y h (ended k l) = omega arith

-- what holds of codes, and of 32 bits, holds of the most of every use
pub most_under : (t g x y alleles : ℕ) → y ≤ 0xFFFFFFFF → (x ≤ code_most alleles g → y ≤ code_most alleles t) → (role : Use)
    → x ≤ most_of role alleles g → y ≤ most_of role alleles t
most_under t g x y alleles b c Gt h = c h
most_under t g x y alleles b c Id h = b
most_under t g x y alleles b c Allele h = b
most_under t g x y alleles b c Filter h = b
most_under t g x y alleles b c IntegerUse h = b
most_under t g x y alleles b c Info h = b
most_under t g x y alleles b c Format h = b

-- an element, judged as one of type g, that is written in type t: what is read there shows it, is of its kind, and stays below the most
pub record Held (t g x : ℕ) : Type 0 where
  pub shows : shown t (stored t x) ≡ x
  pub same : kind t (stored t x) ≡ kind g x
  pub under : (role : Use) (alleles : ℕ) → x ≤ most_of role alleles g → stored t x ≤ most_of role alleles t

-- a narrower type holds the 32 bits that it has a number for
held_narrow : (t missing x : ℕ) → 16 ≤ missing → missing ≤ 0x8000 → highest t + 1 ≡ missing → shown t (stored t x) ≡ widened missing (stored t x)
    → kind t (stored t x) ≡ marked missing (missing + 7) (stored t x) → Narrow missing x (stored t x) → Held t 3 x
unfolding kind
held_narrow t missing x g h e s k n =
    let y = stored t x in
    record {
      shows = s ∙ widened_narrow missing x y h n;
      same = k ∙ marked_narrow missing x y g h n;
      under = λ role alleles. most_under t 3 x y alleles (narrow_bits missing x y h n) (code_narrow t missing alleles x y e n) role;
    }

-- at the width that it was given in, an element is itself
pub stored_whole : (t x : ℕ) → narrowed t x ≡ x → x < 256 ^ width_of t → stored t x ≡ x
unfolding stored
stored_whole t x e h = rw e (ap (number (width_of t)) (sym (append-nil (bytes (width_of t) x))) ∙ number_bytes (width_of t) x [] h)

held_whole : (t x : ℕ) → stored t x ≡ x → shown t x ≡ x → Held t t x
held_whole t x e s = record { shows = rw e s; same = rw e; under = λ role alleles h. rw e h }

held_three : (x : ℕ) → x < 4294967296 → Held 3 3 x
unfolding narrowed shown width_of row_of
held_three x h = held_whole 3 x (stored_whole 3 x refl h) refl

pub held_float : (x : ℕ) → x < 4294967296 → Held 5 5 x
unfolding narrowed shown width_of row_of
held_float x h = held_whole 5 x (stored_whole 5 x refl h) refl

pub held_text : (x : ℕ) → x < 256 → Held 7 7 x
unfolding narrowed shown width_of row_of
held_text x h = held_whole 7 x (stored_whole 7 x refl h) refl

-- an integer takes one of types 1 to 3 by itself
pub type_for_types : (e : Element) (x : ℕ) → (0 < type_for e x) × (type_for e x ≤ 3)
type_for_types Plain x = narrowest_types x
type_for_types Reserved x = narrowest_types x
type_for_types Missing x = (omega arith, omega arith)
type_for_types End x = (omega arith, omega arith)

-- the law: an integer is held by any type from the one that it takes up to 3
pub held_integer : (t x : ℕ) → x < 4294967296 → type_for (kind 3 x) x ≤ t → t ≤ 3 → Held t 3 x
unfolding shown kind highest
held_integer zero x b h k = let n = type_for_types (kind 3 x) x in absurd (omega arith)
held_integer (suc zero) x b h k = held_narrow 1 0x80 x (omega arith) (omega arith) refl refl refl (narrow_one x b h)
held_integer (suc (suc zero)) x b h k = held_narrow 2 0x8000 x (omega arith) (omega arith) refl refl refl (narrow_two x b h)
held_integer (suc (suc (suc zero))) x b h k = held_three x b
held_integer (suc (suc (suc (suc t)))) x b h k = absurd (omega arith)

-- so the widest type of integers holds them all, and each kind's elements are held by the type that they are written in
pub widest_types : (xs : List ℕ) → (0 < widest xs) × (widest xs ≤ 3)
unfolding widest
widest_types [] = (omega arith, omega arith)
widest_types (x ∷ xs) =
    let a = type_for_types (kind 3 x) x in
    let b = widest_types xs in
    let c = le-max_left (type_for (kind 3 x) x) (widest xs) in
    (omega arith, max-le a.1 b.1)

held_under : (t : ℕ) (xs : List ℕ) → widest xs ≤ t → t ≤ 3 → Fit integers xs → All (Held t 3) xs
unfolding widest
held_under t [] h k f = tt
held_under t (x ∷ xs) h k f =
    let a = le-max_left (type_for (kind 3 x) x) (widest xs) in
    let b = le-max_right (type_for (kind 3 x) x) (widest xs) in
    (held_integer t x f.0 (omega arith) k, held_under t xs (omega arith) k f.1)

every : {P Q : ℕ → Type 0} → ((x : ℕ) → P x → Q x) → (xs : List ℕ) → All P xs → All Q xs
every f [] h = tt
every f (x ∷ xs) h = (f x h.0, every f xs h.1)

pub held_written : (k : Kind) (xs : List ℕ) → Fit k xs → All (Held (written_as k xs) (given_as k)) xs
held_written integers xs h = held_under (widest xs) xs (omega arith) (widest_types xs).1 h
held_written floats xs h = every held_float xs h
held_written text xs h = every held_text xs h

-- so where an element is held, whatever follows its bytes
pub shown_held : (t g x : ℕ) (m : List ℕ) → Held t g x → shown t (number (width_of t) (bytes (width_of t) (narrowed t x) ++ m)) ≡ x
shown_held t g x m h = rw (number_stored t x m) h.shows

pub kind_held : (t g x : ℕ) (m : List ℕ) → Held t g x → kind t (number (width_of t) (bytes (width_of t) (narrowed t x) ++ m)) ≡ kind g x
kind_held t g x m h = rw (number_stored t x m) h.same

-- a number takes its narrowest type as it is
narrowed_narrowest : (x : ℕ) → narrowed (narrowest x) x ≡ x
unfolding narrowed marked_as narrowest
narrowed_narrowest x = by-given (given x)
  where
    same : (a b : Bool) → pick a x (pick b x x) ≡ x
    same true b = refl
    same false true = refl
    same false false = refl

    by-given : Given x → narrowed (narrowest x) x ≡ x
    by-given (is_missing e) = rw e
    by-given (is_end e) = rw e
    by-given (is_number p q e) = rw (p, q) (same (eqb (narrowest x) 1) (eqb (narrowest x) 2))

pub type_for_narrowest : (e : Element) (x : ℕ) → type_for e x ≤ narrowest x
type_for_narrowest Plain x = omega arith
type_for_narrowest Reserved x = omega arith
type_for_narrowest Missing x = (narrowest_types x).0
type_for_narrowest End x = (narrowest_types x).0

pub shown_narrowest : (x : ℕ) (m : List ℕ) → x < 4294967296
    → shown (narrowest x) (number (width_of (narrowest x)) (bytes (width_of (narrowest x)) x ++ m)) ≡ x
shown_narrowest x m h =
    rw (narrowed_narrowest x) at
    (shown_held (narrowest x) 3 x m (held_integer (narrowest x) x h (type_for_narrowest (kind 3 x) x) (narrowest_types x).1))
