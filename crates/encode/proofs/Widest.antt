-- The type that integers take: of one by itself, and of a list, one after the other. Rests on the definitions of specs/Encode and specs/Engine.
use mathlib.Core.Path.{◌≡◌, refl}
use mathlib.Core.Logic.{◌≢◌}
use mathlib.Core.List.{List, [], ◌∷◌, map}
use mathlib.Core.Bool.{Bool, true, false, ◌&&◌}
use Prim.Native.Nat.{ℕ, ◌+◌, ◌-◌, ◌<◌, ◌≤◌, max}
use native.Mathlib.Omega.{arith}
use native.Mathlib.Numerals.{add-one}
use lib.Dec.{ltb, leb, eqb}
use lib.ListN.{length, get_or, drop, take, length-map}
use lib.Seq.{drop-cons}
use lib.IntN.{ℤ, pos}
use mir.Syntax.{w32}
use mir.Val.{of_z}
use borrow.Author.Tests.{ltb-false, eqb-true, eqb-false, leb-true, leb-false, le-leb, lt-leb}
use Rattle.words.specs.Pick.{pick}
use Rattle.words.proofs.Sign.{bits_at}
use Rattle.types.specs.Elements.{marked, kind, narrowest}
use Rattle.types.specs.declared.Element.TheVariants.{Plain, Missing, End, Reserved}
use Rattle.encode.specs.Encode.{type_for, widest}
use Rattle.encode.specs.Engine.{is_mark, taken}
use Rattle.std.specs.List.{list_all}
use Rattle.std.proofs.lemmas.List.Folds.{list_all_more}

-- a number that is neither mark of type 3
type_plain : (x : ℕ) → x ≢ 0x80000000 → x ≢ 0x80000001 → type_for (kind 3 x) x ≡ narrowest x
unfolding kind marked
type_plain x p q = by_tests (ltb x 0x80000000) (ltb 0x80000007 x) (eqb x 0x80000000) (eqb (x - 0x80000000) 1) refl refl refl
  where
    by_tests : (a b m e : Bool) → ltb x 0x80000000 ≡ a → eqb x 0x80000000 ≡ m → eqb (x - 0x80000000) 1 ≡ e
        → type_for (pick a Plain (pick b Plain (pick m Missing (pick e End Reserved)))) x ≡ narrowest x
    by_tests true b m e ta tm te = refl
    by_tests false true m e ta tm te = refl
    by_tests false false true e ta tm te = absurd (p (eqb-true _ _ tm))
    by_tests false false false true ta tm te =
        let h : 0x80000000 ≤ x = ltb-false _ _ ta in
        let d : x - 0x80000000 ≡ 1 = eqb-true _ _ te in
        absurd (q (omega arith))
    by_tests false false false false ta tm te = refl

pub narrowest_range : (x : ℕ) → (1 ≤ narrowest x) × (narrowest x ≤ 3)
unfolding narrowest
narrowest_range x = by_tests (leb x 127) (leb 4294967176 x) (leb x 32767) (leb 4294934536 x)
  where
    by_tests : (a b d e : Bool) → (1 ≤ pick a 1 (pick b 1 (pick d 2 (pick e 2 3)))) × (pick a 1 (pick b 1 (pick d 2 (pick e 2 3))) ≤ 3)
    by_tests true b d e = (omega arith, omega arith)
    by_tests false true d e = (omega arith, omega arith)
    by_tests false false true e = (omega arith, omega arith)
    by_tests false false false true = (omega arith, omega arith)
    by_tests false false false false = (omega arith, omega arith)

-- any number
type_any : (x : ℕ) → type_for (kind 3 x) x ≡ pick (is_mark x) 1 (narrowest x)
unfolding kind marked is_mark
type_any x = by-marks (eqb x 0x80000000) (eqb x 0x80000001) refl refl
  where
    by-marks : (a b : Bool) → eqb x 0x80000000 ≡ a → eqb x 0x80000001 ≡ b → type_for (kind 3 x) x ≡ pick (pick a true b) 1 (narrowest x)
    by-marks true b p q = let e : x ≡ 0x80000000 = eqb-true _ _ p in rw e
    by-marks false true p q = let e : x ≡ 0x80000001 = eqb-true _ _ q in rw e
    by-marks false false p q = type_plain x (eqb-false _ _ p) (eqb-false _ _ q)

-- types 1 and 2 take what is in their range, and the marks
pub fits_1 : (x : ℕ) → leb (type_for (kind 3 x) x) 1 ≡ pick (leb x 127) true (pick (leb 0xFFFFFF88 x) true (is_mark x))
unfolding narrowest
fits_1 x = rw (type_any x) (by_tests (leb x 127) (leb 0xFFFFFF88 x) (leb x 32767) (leb 0xFFFF8008 x) (is_mark x))
  where
    by_tests : (a b d e m : Bool) → leb (pick m 1 (pick a 1 (pick b 1 (pick d 2 (pick e 2 3))))) 1 ≡ pick a true (pick b true m)
    by_tests true true d e true = refl
    by_tests true false d e true = refl
    by_tests false true d e true = refl
    by_tests false false d e true = refl
    by_tests true b d e false = refl
    by_tests false true d e false = refl
    by_tests false false true e false = refl
    by_tests false false false true false = refl
    by_tests false false false false false = refl

pub fits_2 : (x : ℕ) → leb (type_for (kind 3 x) x) 2 ≡ pick (leb x 32767) true (pick (leb 0xFFFF8008 x) true (is_mark x))
unfolding narrowest
fits_2 x = rw (type_any x) (by_tests (leb x 127) (leb 0xFFFFFF88 x) (leb x 32767) (leb 0xFFFF8008 x) (is_mark x) refl refl refl refl)
  where
    by_tests : (a b d e m : Bool) → leb x 127 ≡ a → leb 0xFFFFFF88 x ≡ b → leb x 32767 ≡ d → leb 0xFFFF8008 x ≡ e
        → leb (pick m 1 (pick a 1 (pick b 1 (pick d 2 (pick e 2 3))))) 2 ≡ pick d true (pick e true m)
    by_tests a b true e true ta tb td te = refl
    by_tests a b false true true ta tb td te = refl
    by_tests a b false false true ta tb td te = refl
    by_tests true b true e false ta tb td te = refl
    by_tests true b false e false ta tb td te =
        let h : x ≤ 127 = leb-true _ _ ta in
        let g : 32767 < x = leb-false _ _ td in
        absurd (omega arith)
    by_tests false true true e false ta tb td te = refl
    by_tests false true false true false ta tb td te = refl
    by_tests false true false false false ta tb td te =
        let h : 0xFFFFFF88 ≤ x = leb-true _ _ tb in
        let g : x < 0xFFFF8008 = leb-false _ _ te in
        absurd (omega arith)
    by_tests false false true e false ta tb td te = refl
    by_tests false false false true false ta tb td te = refl
    by_tests false false false false false ta tb td te = refl

type_range : (x : ℕ) → (1 ≤ type_for (kind 3 x) x) × (type_for (kind 3 x) x ≤ 3)
type_range x = rw (type_any x) (by-mark (is_mark x))
  where
    by-mark : (m : Bool) → (1 ≤ pick m 1 (narrowest x)) × (pick m 1 (narrowest x) ≤ 3)
    by-mark true = (omega arith, omega arith)
    by-mark false = narrowest_range x

-- no type is below 1, and none above 3
pub widest_range : (xs : List ℕ) → (1 ≤ widest xs) × (widest xs ≤ 3)
unfolding widest
widest_range [] = (omega arith, omega arith)
widest_range (x ∷ xs) = let h = widest_range xs in let t = type_range x in (omega (arith, h, t), omega (arith, h, t))

leb_max : (a b t : ℕ) → leb (max a b) t ≡ leb a t && leb b t
leb_max a b t = by_tests (leb a t) (leb b t) refl refl
  where
    by_tests : (p q : Bool) → leb a t ≡ p → leb b t ≡ q → leb (max a b) t ≡ p && q
    by_tests true true hp hq =
        let l : a ≤ t = leb-true _ _ hp in
        let r : b ≤ t = leb-true _ _ hq in
        le-leb (max a b) t (omega arith)
    by_tests true false hp hq = let r : t < b = leb-false _ _ hq in lt-leb (max a b) t (omega arith)
    by_tests false q hp hq = let l : t < a = leb-false _ _ hp in lt-leb (max a b) t (omega arith)

-- one integer more of a sweep, of what is still to come and of what was
pub sweep_turn : (xs : List ℕ) (t i : ℕ) (b : Bool) → i < length xs
    → b && leb (widest (drop i xs)) t ≡ (b && leb (type_for (kind 3 (get_or xs i 0)) (get_or xs i 0)) t) && leb (widest (drop (i + 1) xs)) t
unfolding widest
sweep_turn xs t i true h = rw (drop-cons xs i 0 h, add-one i, leb_max)
sweep_turn xs t i false h = refl

pub swept_more : (test : ℕ → Bool) (zs : List ℤ) (i : ℕ) → i < length zs
    → list_all test (take (i + 1) (map (of_z w32) zs)) ≡ (list_all test (take i (map (of_z w32) zs)) && test (of_z w32 (get_or zs i (pos 0))))
swept_more test zs i h = rw (← bits_at zs i) (list_all_more test (map (of_z w32) zs) i 0 (rw length-map h))

-- a type takes all where it takes the widest
all_below : (t : ℕ) (test : ℕ → Bool) → 1 ≤ t → ((x : ℕ) → leb (type_for (kind 3 x) x) t ≡ test x) → (xs : List ℕ) → list_all test xs ≡ leb (widest xs) t
unfolding widest
all_below t test h e [] = rw (le-leb 1 t h)
all_below t test h e (x ∷ xs) = rw (leb_max, ← e x, all_below t test h e xs)

pub all_1 : (xs : List ℕ) → list_all (taken 127 0xFFFFFF88) xs ≡ leb (widest xs) 1
unfolding taken
all_1 xs = all_below 1 (taken 127 0xFFFFFF88) (omega arith) fits_1 xs

pub all_2 : (xs : List ℕ) → list_all (taken 32767 0xFFFF8008) xs ≡ leb (widest xs) 2
unfolding taken
all_2 xs = all_below 2 (taken 32767 0xFFFF8008) (omega arith) fits_2 xs

-- the first type that takes all is the widest
pub widest_1 : (xs : List ℕ) → list_all (taken 127 0xFFFFFF88) xs ≡ true → 1 ≡ widest xs
widest_1 xs p = let h : widest xs ≤ 1 = leb-true _ _ (rw all_1 at p) in omega (arith, widest_range xs)

pub widest_2 : (xs : List ℕ) → list_all (taken 127 0xFFFFFF88) xs ≡ false → list_all (taken 32767 0xFFFF8008) xs ≡ true → 2 ≡ widest xs
widest_2 xs p q =
    let h : 1 < widest xs = leb-false _ _ (rw all_1 at p) in
    let g : widest xs ≤ 2 = leb-true _ _ (rw all_2 at q) in
    omega arith

pub widest_3 : (xs : List ℕ) → list_all (taken 32767 0xFFFF8008) xs ≡ false → 3 ≡ widest xs
widest_3 xs p = let h : 2 < widest xs = leb-false _ _ (rw all_2 at p) in omega (arith, widest_range xs)
