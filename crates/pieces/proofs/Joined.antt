-- Joined pieces that have no separator in them are told apart: what stands before the first separator, and all the pieces. Rests on specs/Pieces and on
-- words' `among`.
use mathlib.Core.Path.{◌≡◌, refl, sym, ap, ◌∙◌}
use mathlib.Core.List.{List, [], ◌∷◌, ◌++◌, append-nil, append_assoc}
use mathlib.Core.Bool.{Bool, true, false}
use Prim.Native.Nat.{ℕ}
use native.Mathlib.Omega.{arith}
use lib.Dec.{eqb}
use lib.ListN.{length}
use borrow.Author.Tests.{eq-eqb}
use Rattle.words.specs.Lists.{among}
use Rattle.words.specs.Pick.{pick}
use Rattle.pieces.specs.Pieces.{followed, joined_by}

-- among two lists: among the first, or else among the second
pub among_append : (c : ℕ) (x y : List ℕ) → among c (x ++ y) ≡ pick (among c x) true (among c y)
unfolding among
among_append c [] y = refl
among_append c (b ∷ x) y = rw (among_append c x y) (by-test (eqb b c) (among c x))
  where
    by-test : (a d : Bool) → pick a true (pick d true (among c y)) ≡ pick (pick a true d) true (among c y)
    by-test true d = refl
    by-test false d = refl

-- not in a list: neither its first, nor in the rest
among_not : (c b : ℕ) (x : List ℕ) → among c (b ∷ x) ≡ false → (eqb b c ≡ false) × (among c x ≡ false)
unfolding among
among_not c b x h = by-test (eqb b c) refl h
  where
    by-test : (a : Bool) → eqb b c ≡ a → pick a true (among c x) ≡ false → (eqb b c ≡ false) × (among c x ≡ false)
    by-test true e k = let z : ◌≡◌ {A = ℕ} 0 1 = cc in absurd (omega arith)
    by-test false e k = (e, k)

not_first : (c b : ℕ) (x : List ℕ) → among c (b ∷ x) ≡ false → b ≡ c → ⊥
not_first c b x h e =
    let k = (among_not c b x h).0 in
    let g = eq-eqb b c e in
    let z : ◌≡◌ {A = ℕ} 0 1 = cc in
    omega arith

-- what stands before the first separator, and what stands after it
pub cut_once : (c : ℕ) (x x' r r' : List ℕ) → among c x ≡ false → among c x' ≡ false → x ++ (c ∷ r) ≡ x' ++ (c ∷ r') → (x ≡ x') × (r ≡ r')
cut_once c [] [] r r' h h' e = (refl, cc)
cut_once c [] (b ∷ x') r r' h h' e = absurd (not_first c b x' h' cc)
cut_once c (b ∷ x) [] r r' h h' e = absurd (not_first c b x h cc)
cut_once c (b ∷ x) (b' ∷ x') r r' h h' e =
    let same : b ≡ b' = cc in
    let rest = cut_once c x x' r r' (among_not c b x h).1 (among_not c b' x' h').1 cc in
    (rw (same, rest.0), rest.1)

-- no piece has a byte in it
abbrev pub Free : ℕ → List (List ℕ) → Type 0
Free c [] = Unit {0}
Free c (x ∷ xs) = (among c x ≡ false) × Free c xs

-- a separator stands where a piece ends and another follows
followed_among : (c : ℕ) (x y : List ℕ) (xs : List (List ℕ)) → among c (x ++ followed c (y ∷ xs)) ≡ true
unfolding followed among
followed_among c x y xs = rw (among_append c x, eq-eqb c c refl) (by-test (among c x))
  where
    by-test : (a : Bool) → pick a true true ≡ true
    by-test true = refl
    by-test false = refl

no_more : (c : ℕ) (x y z : List ℕ) (xs : List (List ℕ)) → among c x ≡ false → x ++ [] ≡ y ++ followed c (z ∷ xs) → ⊥
no_more c x y z xs h e =
    let k : among c x ≡ true = ap (among c) (sym (append-nil x) ∙ e) ∙ followed_among c y z xs in
    let n : ◌≡◌ {A = ℕ} 0 1 = cc in
    omega arith

apart : (c : ℕ) (x : List ℕ) (xs : List (List ℕ)) (y : List ℕ) (ys : List (List ℕ)) → Free c (x ∷ xs) → Free c (y ∷ ys)
    → x ++ followed c xs ≡ y ++ followed c ys → (x ≡ y) × (xs ≡ ys)
unfolding followed
apart c x [] y [] h k e = (sym (append-nil x) ∙ e ∙ append-nil y, refl)
apart c x [] y (y' ∷ ys) h k e = absurd (no_more c x y y' ys h.0 e)
apart c x (x' ∷ xs) y [] h k e = absurd (no_more c y x x' xs k.0 (sym e))
apart c x (x' ∷ xs) y (y' ∷ ys) h k e =
    let first = cut_once c x y (x' ++ followed c xs) (y' ++ followed c ys) h.0 k.0 e in
    let rest = apart c x' xs y' ys h.1 k.1 first.1 in
    (first.0, rw (rest.0, rest.1))

-- pieces that are joined alike are the same pieces
pub joined_same : (c : ℕ) (x : List ℕ) (xs : List (List ℕ)) (y : List ℕ) (ys : List (List ℕ)) → Free c (x ∷ xs) → Free c (y ∷ ys)
    → joined_by c (x ∷ xs) ≡ joined_by c (y ∷ ys) → x ∷ xs ≡ y ∷ ys
unfolding joined_by
joined_same c x xs y ys h k e = let s = apart c x xs y ys h k e in rw (s.0, s.1)

-- so are the first pieces of some, as many of each, before at least one more
after_first_lem : (c : ℕ) (x : List ℕ) (xs : List (List ℕ)) (y : List ℕ) (ys : List (List ℕ)) (z : List ℕ)
    → joined_by c (x ∷ (xs ++ (y ∷ ys))) ++ z ≡ x ++ (c ∷ (joined_by c (xs ++ (y ∷ ys)) ++ z))
unfolding joined_by followed
after_first_lem c x [] y ys z = append_assoc x (followed c (y ∷ ys)) z
after_first_lem c x (w ∷ xs) y ys z = append_assoc x (followed c (w ∷ (xs ++ (y ∷ ys)))) z

pub first_same : (c : ℕ) (xs xs' : List (List ℕ)) (y y' : List ℕ) (ys ys' : List (List ℕ)) (z z' : List ℕ) → length xs ≡ length xs' → Free c xs → Free c xs'
    → joined_by c (xs ++ (y ∷ ys)) ++ z ≡ joined_by c (xs' ++ (y' ∷ ys')) ++ z' → xs ≡ xs'
first_same c [] [] y y' ys ys' z z' n h k e = refl
first_same c [] (x' ∷ xs') y y' ys ys' z z' n h k e = absurd (omega arith)
first_same c (x ∷ xs) [] y y' ys ys' z z' n h k e = absurd (omega arith)
first_same c (x ∷ xs) (x' ∷ xs') y y' ys ys' z z' n h k e =
    let cut = cut_once c x x' (joined_by c (xs ++ (y ∷ ys)) ++ z) (joined_by c (xs' ++ (y' ∷ ys')) ++ z') h.0 k.0
    (sym (after_first_lem c x xs y ys z) ∙ e ∙ after_first_lem c x' xs' y' ys' z') in
    let rest = first_same c xs xs' y y' ys ys' z z' (omega arith) h.1 k.1 cut.1 in
    rw (cut.0, rest)
