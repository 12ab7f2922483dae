-- What the number of an element is once it is shown: of the same kind, below the most of its use, of 32 bits or a byte, and it takes no wider type
-- than it had. Rests on types' marks, on vectors' codes and on build_laws' laws of widths.
use mathlib.Core.Path.{◌≡◌, refl, ◌∙◌, sym, ap}
use mathlib.Core.Logic.{◌≢◌}
use mathlib.Core.List.{List, [], ◌∷◌}
use mathlib.Core.Bool.{Bool, true, false}
use Prim.Native.Nat.{ℕ, zero, suc, ◌+◌, ◌-◌, ◌/◌, ◌^◌, ◌<◌, ◌≤◌}
use native.Mathlib.Omega.{arith}
use native.Mathlib.Nat.{max-le}
use lib.Dec.{ltb, leb, eqb}
use lib.ListN.{get_or}
use borrow.Author.Tests.{ltb-true, ltb-false, leb-true, eqb-true, lt-ltb, le-leb}
use Rattle.words.specs.Pick.{pick}
use Rattle.words.proofs.Pick.{pick_same}
use Rattle.types.specs.Rows.{row_of, width_of, unused}
use Rattle.types.specs.declared.Row.{Row}
use Rattle.types.specs.Elements.{marked, kind, widened, shown, narrowest}
use Rattle.types.specs.declared.Use.{Use}
use Rattle.types.specs.declared.Element.TheVariants.{Plain, Missing, End, Reserved}
use Rattle.vectors.specs.Sound.{highest, code_most, most_of}
use Rattle.vectors.proofs.Codes.{code_sound, sound_code}
use Rattle.encode.specs.Encode.{type_for, widest}
use Rattle.shown.specs.Shown.{kind_of}
use Rattle.build_rules.specs.Values.{given_as}
use Rattle.build_laws.specs.Records.{All, most_element}
use Rattle.build_laws.specs.Widths.{between}
use Rattle.build_laws.proofs.Values.{by_type}
use Rattle.build_laws.proofs.Widths.{Narrow, positive, negative, missed, ended, narrowest_one, narrowest_two, narrowest_types, marked_narrow, most_under, type_for_types, type_for_narrowest}

-- the codes: type 0, those with a width, and those that are not used
unused_rows : (rs : List Row) (k : ℕ) → All (λ r. r ≡ unused) rs → get_or rs k unused ≡ unused
unused_rows [] k h = refl
unused_rows (r ∷ rs) zero h = h.0
unused_rows (r ∷ rs) (suc k) h = unused_rows rs k h.1

row_past : (k : ℕ) → row_of (suc (suc (suc (suc (suc (suc (suc (suc k)))))))) ≡ unused
unfolding row_of
row_past k =
    unused_rows (unused ∷ unused ∷ unused ∷ unused ∷ unused ∷ unused ∷ unused ∷ unused ∷ []) k
    (refl, (refl, (refl, (refl, (refl, (refl, (refl, (refl, tt))))))))

pub data Code (t : ℕ) : Type 0 where
  bare : t ≡ 0 → Code t
  wide : 0 < width_of t → Code t
  free : row_of t ≡ unused → Code t

pub code : (t : ℕ) → Code t
unfolding width_of row_of
code zero = bare refl
code (suc zero) = wide (omega arith)
code (suc (suc zero)) = wide (omega arith)
code (suc (suc (suc zero))) = wide (omega arith)
code (suc (suc (suc (suc zero)))) = free refl
code (suc (suc (suc (suc (suc zero))))) = wide (omega arith)
code (suc (suc (suc (suc (suc (suc zero)))))) = free refl
code (suc (suc (suc (suc (suc (suc (suc zero))))))) = wide (omega arith)
code (suc (suc (suc (suc (suc (suc (suc (suc t)))))))) = free (row_past t)

-- those with a width, one by one
pub by_wide : (P : ℕ → Type 0) → P 1 → P 2 → P 3 → P 5 → P 7 → (t : ℕ) → 0 < width_of t → P t
unfolding width_of row_of
by_wide P a b c d e zero h = absurd (omega arith)
by_wide P a b c d e (suc zero) h = a
by_wide P a b c d e (suc (suc zero)) h = b
by_wide P a b c d e (suc (suc (suc zero))) h = c
by_wide P a b c d e (suc (suc (suc (suc zero)))) h = absurd (omega arith)
by_wide P a b c d e (suc (suc (suc (suc (suc zero))))) h = d
by_wide P a b c d e (suc (suc (suc (suc (suc (suc zero)))))) h = absurd (omega arith)
by_wide P a b c d e (suc (suc (suc (suc (suc (suc (suc zero))))))) h = e
by_wide P a b c d e (suc (suc (suc (suc (suc (suc (suc (suc t)))))))) h =
    let z = ap (λ (r : Row). r.width) (row_past t) in
    absurd (omega arith)

-- a number of a narrower type that is no reserved pattern, and the 32 bits that it is shown by
narrow_widened : (missing y : ℕ) → y < missing + missing → marked missing (missing + 7) y ≢ Reserved → Narrow missing (widened missing y) y
unfolding marked widened
narrow_widened missing y h r =
    by_tests (ltb y missing) (ltb (missing + 7) y) (eqb y missing) (eqb (y - missing) 1) refl refl refl refl r
  where
    by_tests : (a b c d : Bool) → ltb y missing ≡ a → ltb (missing + 7) y ≡ b → eqb y missing ≡ c → eqb (y - missing) 1 ≡ d
        → pick a Plain (pick b Plain (pick c Missing (pick d End Reserved))) ≢ Reserved
        → Narrow missing (pick a y (pick c 0x80000000 (pick d 0x80000001 (pick (ltb (y - missing) missing) (y + (4294967296 - (missing + missing))) y)))) y
    by_tests true b c d p q s u r = positive refl (ltb-true _ _ p)
    by_tests false b true d p q s u r = missed refl (eqb-true y missing s)
    by_tests false b false true p q s u r = let k = eqb-true (y - missing) 1 u in ended refl (omega arith)
    by_tests false true false false p q s u r =
        let k = ltb-true (missing + 7) y q in
        rw (lt-ltb (y - missing) missing (omega arith)) (negative refl (omega arith) h)
    by_tests false false false false p q s u r = absurd (r refl)

-- which numbers take a type at most
between_low : (low high x : ℕ) → x ≤ high → between low high x ≡ true
unfolding between
between_low low high x h = rw (le-leb x high h)

between_high : (low high x : ℕ) → 4294967296 - low ≤ x → between low high x ≡ true
unfolding between
between_high low high x h = rw (le-leb (4294967296 - low) x h) (pick_same (leb x high) true)

-- type t is narrower than type 3: its missing mark, and the numbers that take no wider type
record Narrower (t missing : ℕ) : Type 0 where
  some : 0 < t
  low : 16 ≤ missing
  high : missing ≤ 0x8000
  least : highest t + 1 ≡ missing
  shows : (y : ℕ) → shown t y ≡ widened missing y
  marks : (y : ℕ) → kind t y ≡ marked missing (missing + 7) y
  takes : (x : ℕ) → between (missing - 8) (missing - 1) x ≡ true → narrowest x ≤ t

narrower_one : Narrower 1 0x80
unfolding shown kind highest
narrower_one =
    record {
      some = omega arith;
      low = omega arith;
      high = omega arith;
      least = refl;
      shows = λ y. refl;
      marks = λ y. refl;
      takes = λ x h. leb-true _ _ (narrowest_one x ∙ h);
    }

narrower_two : Narrower 2 0x8000
unfolding shown kind highest
narrower_two =
    record {
      some = omega arith;
      low = omega arith;
      high = omega arith;
      least = refl;
      shows = λ y. refl;
      marks = λ y. refl;
      takes = λ x h. leb-true _ _ (narrowest_two x ∙ h);
    }

takes_narrow : (t missing x y : ℕ) → Narrower t missing → Narrow missing x y → type_for (kind 3 x) x ≤ t
unfolding kind marked
takes_narrow t missing x y n (positive e l) =
    let a = n.takes x (between_low (missing - 8) (missing - 1) x (omega arith)) in
    let b = type_for_narrowest (kind 3 x) x in
    omega arith
takes_narrow t missing x y n (negative e l r) =
    let low = n.low in
    let high = n.high in
    let a = n.takes x (between_high (missing - 8) (missing - 1) x (omega arith)) in
    let b = type_for_narrowest (kind 3 x) x in
    omega arith
takes_narrow t missing x y n (missed e k) = rw e n.some
takes_narrow t missing x y n (ended e k) = rw e n.some

narrow_code : (t missing alleles x y : ℕ) → Narrower t missing → Narrow missing x y → y ≤ code_most alleles t → x ≤ code_most alleles 3
unfolding highest
narrow_code t missing alleles x y n m h =
    let c = code_sound alleles t y h in
    by-narrow m c.0 c.1 n.least n.high
  where
    by-narrow : Narrow missing x y → y ≤ highest t → y / 2 ≤ alleles → highest t + 1 ≡ missing → missing ≤ 0x8000 → x ≤ code_most alleles 3
    by-narrow (positive k l) a b e g = sound_code alleles 3 x (omega arith) (omega arith)
    by-narrow (negative k l r) a b e g = absurd (omega arith)
    by-narrow (missed k l) a b e g = absurd (omega arith)
    by-narrow (ended k l) a b e g = absurd (omega arith)

narrow_fits : (missing x y : ℕ) → missing ≤ 0x8000 → Narrow missing x y → x < 4294967296
narrow_fits missing x y h (positive k l) = omega arith
narrow_fits missing x y h (negative k l r) = omega arith
narrow_fits missing x y h (missed k l) = omega arith
narrow_fits missing x y h (ended k l) = omega arith

-- an element of type t whose number is y, judged as one of type g once it is shown
pub record Shows (t g y : ℕ) : Type 0 where
  pub same : kind g (shown t y) ≡ kind t y
  pub under : (role : Use) (alleles : ℕ) → y ≤ most_of role alleles t → shown t y ≤ most_of role alleles g
  pub takes : g ≡ 3 → type_for (kind 3 (shown t y)) (shown t y) ≤ t

shows_narrow : (t missing y : ℕ) → Narrower t missing → y < missing + missing → kind t y ≢ Reserved → Shows t 3 y
unfolding kind
shows_narrow t missing y n h r =
    let x = widened missing y in
    let m : Narrow missing x y = narrow_widened missing y h (rw (n.marks y) at r) in
    let b = narrow_fits missing x y n.high m in
    record {
      same = rw (n.shows y, n.marks y) (sym (marked_narrow missing x y n.low n.high m));
      under = λ role alleles. rw (n.shows y) (most_under 3 t y x alleles (omega arith) (narrow_code t missing alleles x y n m) role);
      takes = λ e. rw (n.shows y) (takes_narrow t missing x y n m);
    }

-- the law, over the types with a width: an element that is no reserved pattern is what it was once it is shown
pub shows : (t : ℕ) → 0 < width_of t → (y : ℕ) → y < 256 ^ width_of t → kind t y ≢ Reserved → Shows t (given_as (kind_of t)) y
unfolding width_of row_of shown
shows t w =
    by_wide (λ t. (y : ℕ) → y < 256 ^ width_of t → kind t y ≢ Reserved → Shows t (given_as (kind_of t)) y)
    (λ y h r. shows_narrow 1 0x80 y narrower_one h r)
    (λ y h r. shows_narrow 2 0x8000 y narrower_two h r)
    (λ y h r. record { same = refl; under = λ role alleles k. k; takes = λ e. (type_for_types (kind 3 y) y).1 })
    (λ y h r. record { same = refl; under = λ role alleles k. k; takes = λ e. absurd (omega arith) })
    (λ y h r. record { same = refl; under = λ role alleles k. k; takes = λ e. absurd (omega arith) })
    t w

-- whatever it is, it is of 32 bits, or a byte of text
widened_fits : (missing y : ℕ) → 16 ≤ missing → missing ≤ 0x8000 → y < missing + missing → widened missing y < 4294967296
unfolding widened
widened_fits missing y g h k = by_tests (ltb y missing) (eqb y missing) (eqb (y - missing) 1) (ltb (y - missing) missing)
  where
    by_tests : (a b c d : Bool) → pick a y (pick b 0x80000000 (pick c 0x80000001 (pick d (y + (4294967296 - (missing + missing))) y))) < 4294967296
    by_tests true b c d = omega arith
    by_tests false true c d = omega arith
    by_tests false false true d = omega arith
    by_tests false false false true = omega arith
    by_tests false false false false = omega arith

pub shown_fits : (t : ℕ) → 0 < width_of t → (y : ℕ) → y < 256 ^ width_of t → shown t y < most_element (kind_of t)
unfolding width_of row_of shown
shown_fits t w =
    by_wide (λ t. (y : ℕ) → y < 256 ^ width_of t → shown t y < most_element (kind_of t))
    (λ y h. widened_fits 0x80 y (omega arith) (omega arith) h)
    (λ y h. widened_fits 0x8000 y (omega arith) (omega arith) h)
    (λ y h. h) (λ y h. h) (λ y h. h) t w

-- an integer that is not negative once it is shown takes no wider type than it had
widened_positive : (missing y : ℕ) → missing ≤ 0x8000 → y < missing + missing → widened missing y < 0x80000000 → widened missing y < missing
unfolding widened
widened_positive missing y h k l =
    by_tests (ltb y missing) (eqb y missing) (eqb (y - missing) 1) (ltb (y - missing) missing) refl refl l
  where
    by_tests : (a b c d : Bool) → ltb y missing ≡ a → ltb (y - missing) missing ≡ d
        → pick a y (pick b 0x80000000 (pick c 0x80000001 (pick d (y + (4294967296 - (missing + missing))) y))) < 0x80000000
        → pick a y (pick b 0x80000000 (pick c 0x80000001 (pick d (y + (4294967296 - (missing + missing))) y))) < missing
    by_tests true b c d p q l = ltb-true y missing p
    by_tests false true c d p q l = absurd (omega arith)
    by_tests false false true d p q l = absurd (omega arith)
    by_tests false false false true p q l = let e = ltb-false y missing p in absurd (omega arith)
    by_tests false false false false p q l =
        let e = ltb-false y missing p in
        let i = ltb-false (y - missing) missing q in
        absurd (omega arith)

positive_narrow : (t missing y : ℕ) → Narrower t missing → y < missing + missing → shown t y < 0x80000000 → narrowest (shown t y) ≤ t
positive_narrow t missing y n h k =
    let l = widened_positive missing y n.high h (rw (n.shows y) at k) in
    rw (n.shows y) (n.takes (widened missing y) (between_low (missing - 8) (missing - 1) (widened missing y) (omega arith)))

pub narrowest_shown : (t : ℕ) → 0 < t → t ≤ 3 → (y : ℕ) → y < 256 ^ width_of t → shown t y < 0x80000000 → narrowest (shown t y) ≤ t
unfolding width_of row_of
narrowest_shown zero a b y h k = absurd (omega arith)
narrowest_shown (suc zero) a b y h k = positive_narrow 1 0x80 y narrower_one h k
narrowest_shown (suc (suc zero)) a b y h k = positive_narrow 2 0x8000 y narrower_two h k
narrowest_shown (suc (suc (suc zero))) a b y h k = (narrowest_types (shown 3 y)).1
narrowest_shown (suc (suc (suc (suc t)))) a b y h k = absurd (omega arith)

-- types up to 3 are as wide as they are high, and the widest of integers is no wider than what each takes
width_is : (t : ℕ) → 0 < t → t ≤ 3 → width_of t ≡ t + t / 3
unfolding width_of row_of
width_is t h k = by_type (λ t. width_of t ≡ t + t / 3) refl refl refl t h k

pub width_under : (s t : ℕ) → 0 < s → s ≤ t → t ≤ 3 → width_of s ≤ width_of t
width_under s t a b c = rw (width_is s a (omega arith), width_is t (omega arith) c) (omega arith)

pub widest_under : (t : ℕ) (xs : List ℕ) → 0 < t → All (λ x. type_for (kind 3 x) x ≤ t) xs → widest xs ≤ t
unfolding widest
widest_under t [] h k = omega arith
widest_under t (x ∷ xs) h k = max-le k.0 (widest_under t xs h k.1)
