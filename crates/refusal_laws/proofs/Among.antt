-- Numbers in lists, and what holds whichever way a test goes. Rests on words' lists and on the first of two numbers.
use mathlib.Core.Path.{◌≡◌, refl}
use mathlib.Core.List.{List, [], ◌∷◌, ◌++◌}
use mathlib.Core.Bool.{Bool, true, false}
use Prim.Native.Nat.{ℕ}
use lib.Dec.{eqb}
use borrow.Author.Tests.{eqb-true}
use Rattle.words.specs.Lists.{among}
use Rattle.words.specs.Pick.{pick}
use Rattle.build_append.specs.Append.{first_of}

-- what holds of both branches of a test, whichever the test says
pub tested : {A : Type 0} (P : A → Type 0) (b : Bool) (x y : A) → (b ≡ true → P x) → (b ≡ false → P y) → P (pick b x y)
tested P true x y h k = h refl
tested P false x y h k = k refl

pub either : {A : Type 0} (P : A → Type 0) (b : Bool) (x y : A) → P x → P y → P (pick b x y)
either P b x y h k = tested P b x y (λ e. h) (λ e. k)

-- each number of a list is in another
abbrev pub all_among : List ℕ → List ℕ → Bool
all_among [] ys = true
all_among (x ∷ xs) ys = pick (among x ys) (all_among xs ys) false

both_true : (a b : Bool) → pick a b false ≡ true → (a ≡ true) × (b ≡ true)
both_true true b h = (refl, h)
both_true false b h = (h, cc)

pub among_wider : (n : ℕ) (xs ys : List ℕ) → all_among xs ys ≡ true → among n xs ≡ true → among n ys ≡ true
unfolding among
among_wider n [] ys a h = cc
among_wider n (x ∷ xs) ys a h =
    let w = both_true (among x ys) (all_among xs ys) a in
    by-test (eqb x n) refl w.0 (among_wider n xs ys w.1) h
  where
    by-test : (b : Bool) → eqb x n ≡ b → among x ys ≡ true → (among n xs ≡ true → among n ys ≡ true)
        → pick b true (among n xs) ≡ true → among n ys ≡ true
    by-test true e p on k = let z : x ≡ n = eqb-true x n e in rw z at p
    by-test false e p on k = on k

-- a number of a list, or of one behind it
pub among_before : (n : ℕ) (xs ys : List ℕ) → among n xs ≡ true → among n (xs ++ ys) ≡ true
unfolding among
among_before n [] ys h = cc
among_before n (x ∷ xs) ys h = by-test (eqb x n) (among_before n xs ys) h
  where
    by-test : (b : Bool) → (among n xs ≡ true → among n (xs ++ ys) ≡ true) → pick b true (among n xs) ≡ true → pick b true (among n (xs ++ ys)) ≡ true
    by-test true on k = refl
    by-test false on k = on k

pub among_behind : (n : ℕ) (xs ys : List ℕ) → among n ys ≡ true → among n (xs ++ ys) ≡ true
unfolding among
among_behind n [] ys h = h
among_behind n (x ∷ xs) ys h = by-test (eqb x n) (among_behind n xs ys h)
  where
    by-test : (b : Bool) → among n (xs ++ ys) ≡ true → pick b true (among n (xs ++ ys)) ≡ true
    by-test true on = refl
    by-test false on = on

-- the first of two numbers that say what is wrong, 0 where nothing is
pub first_among : (a b : ℕ) (xs ys : List ℕ) → among a (0 ∷ xs) ≡ true → among b (0 ∷ ys) ≡ true → among (first_of a b) (0 ∷ (xs ++ ys)) ≡ true
unfolding first_of among
first_among a b xs ys h k =
    either (λ n. among n (0 ∷ (xs ++ ys)) ≡ true) (eqb a 0) b a
    (on (eqb 0 b) (among b ys) (among b (xs ++ ys)) (among_behind b xs ys) k)
    (on (eqb 0 a) (among a xs) (among a (xs ++ ys)) (among_before a xs ys) h)
  where
    on : (z p q : Bool) → (p ≡ true → q ≡ true) → pick z true p ≡ true → pick z true q ≡ true
    on true p q m e = refl
    on false p q m e = m e
