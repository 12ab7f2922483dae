-- Elements that pass go on, and vectors of nothing else are sound. Rests on specs/Engine and on the turns.
use mathlib.Core.Path.{◌≡◌, refl}
use mathlib.Core.List.{List, [], ◌∷◌}
use mathlib.Core.Bool.{Bool, true, false, ◌&&◌}
use Prim.Native.Nat.{ℕ, zero, suc, ◌+◌, ◌-◌, ◌*◌, ◌<◌, ◌≤◌}
use native.Mathlib.Omega.{arith}
use native.Mathlib.Nat.{suc-mul, suc-add, zero-add, add-zero, zero-mul, add_comm, add_assoc, add-mul, mul_assoc, mul-suc}
use native.Mathlib.Numerals.{sub-one}
use lib.Dec.{ltb, eqb}
use lib.ListN.{drop, get_or}
use lib.Seq.{drop-drop}
use borrow.Author.Tests.{ltb-true, ltb-false, eqb-true, le-ltb, eq-eqb, ne_eqb}
use Rattle.words.specs.Pick.{pick}
use Rattle.words.specs.Words.{number, le}
use Rattle.types.specs.Rows.{width_of, row_of}
use Rattle.types.specs.Elements.{kind, marked}
use Rattle.types.specs.declared.Element.{Element}
use Rattle.types.specs.declared.Element.TheVariants.{Plain, Missing, End, Reserved}
use Rattle.vectors.specs.Engine.{passed, all_passed, AllOn}
use Rattle.std.specs.Prelude.{Result, Err, Ok}
use Rattle.values.specs.Answers.{Answer}
use Rattle.vectors.specs.Vectors.{numbers, element_turn, vector, vectors, and_then, Sound}

-- one turn of a sweep
pub sweep_turn : (s : List ℕ) (low high missing most w n at : ℕ) (b : Bool) → 0 < n
    → pick b (all_passed low high missing most (numbers w n (drop at s))) false
    ≡ pick (pick b (passed low high missing most (number w (drop at s))) false) (all_passed low high missing most (numbers w (n - 1) (drop (at + w) s))) false
unfolding all_passed numbers
sweep_turn s low high missing most w zero at b h = absurd (omega arith)
sweep_turn s low high missing most w (suc n) at true h = rw (sub-one, drop-drop w at s)
sweep_turn s low high missing most w (suc n) at false h = refl

pub and_pick : (a b : Bool) → a && b ≡ pick a b false
and_pick true b = refl
and_pick false b = refl

-- a larger most takes no less
pub on_more : (top most x : ℕ) (k : Element) → top ≤ most → element_turn top false k x ≡ Ok false → element_turn most false k x ≡ Ok false
on_more top most x Missing h e = refl
on_more top most x End h e = e
on_more top most x Reserved h e = e
on_more top most x Plain h e = by-test (ltb top x) refl e
  where
    by-test : (b : Bool) → ltb top x ≡ b → pick {A = Result Bool ℕ} b (Err 10) (Ok false) ≡ Ok false → pick {A = Result Bool ℕ} (ltb most x) (Err 10) (Ok false) ≡ Ok false
    by-test true q g = cc
    by-test false q g = let r : x ≤ top = ltb-false _ _ q in rw (le-ltb most x (omega arith))

pub all_more : (top most t : ℕ) (xs : List ℕ) → top ≤ most → AllOn top t xs → AllOn most t xs
all_more top most t [] h a = tt
all_more top most t (x ∷ xs) h a = (on_more top most x (kind t x) h a.0, all_more top most t xs h a.1)

-- what passes outside the marks of a type goes on
abbrev pub Passing : ℕ → ℕ → ℕ → ℕ → ℕ → Type 0
Passing t low high missing most = (x : ℕ) → passed low high missing most x ≡ true → element_turn most false (kind t x) x ≡ Ok false

pub all_on : (t low high missing most : ℕ) → Passing t low high missing most → (xs : List ℕ)
    → all_passed low high missing most xs ≡ true → AllOn most t xs
unfolding all_passed
all_on t low high missing most p [] e = tt
all_on t low high missing most p (x ∷ xs) e = by-test (passed low high missing most x) refl e (λ g. all_on t low high missing most p xs g)
  where
    by-test : (b : Bool) → passed low high missing most x ≡ b → pick b (all_passed low high missing most xs) false ≡ true
        → (all_passed low high missing most xs ≡ true → AllOn most t xs) → AllOn most t (x ∷ xs)
    by-test true q g on = (p x q, on g)
    by-test false q g on = let z : ◌≡◌ {A = ℕ} 0 1 = cc in absurd (omega arith)

-- marks in a row, and text's one mark
marked_on : (missing last most x : ℕ) → missing < last → passed (missing + 1) last missing most x ≡ true
    → element_turn most false (marked missing last x) x ≡ Ok false
unfolding passed marked
marked_on missing last most x p h = by_most (ltb most x) refl h
  where
    by_most : (b : Bool) → ltb most x ≡ b → pick b (eqb x missing) (pick (ltb x (missing + 1)) true (ltb last x)) ≡ true
        → element_turn most false (marked missing last x) x ≡ Ok false
    by_most true q g =
        let e : x ≡ missing = eqb-true _ _ g in
        rw (le-ltb x missing (omega arith), le-ltb last x (omega arith), eq-eqb x missing e)
    by_most false q g = by-low (ltb x (missing + 1)) refl g
      where
        by-low : (b : Bool) → ltb x (missing + 1) ≡ b → pick b true (ltb last x) ≡ true → element_turn most false (marked missing last x) x ≡ Ok false
        by-low true r f = by-mark (ltb x missing) refl
          where
            by-mark : (b : Bool) → ltb x missing ≡ b → element_turn most false (marked missing last x) x ≡ Ok false
            by-mark true s = rw (s, q)
            by-mark false s =
                let u : x < missing + 1 = ltb-true _ _ r in
                let v : missing ≤ x = ltb-false _ _ s in
                rw (s, le-ltb last x (omega arith), eq-eqb x missing (omega arith))
        by-low false r f =
            let u : missing + 1 ≤ x = ltb-false _ _ r in
            rw (le-ltb x missing (omega arith), f, q)

pub on_1 : (most : ℕ) → Passing 1 0x81 0x87 0x80 most
unfolding kind
on_1 most x h = marked_on 0x80 0x87 most x (omega arith) h

pub on_2 : (most : ℕ) → Passing 2 0x8001 0x8007 0x8000 most
unfolding kind
on_2 most x h = marked_on 0x8000 0x8007 most x (omega arith) h

pub on_3 : (most : ℕ) → Passing 3 0x80000001 0x80000007 0x80000000 most
unfolding kind
on_3 most x h = marked_on 0x80000000 0x80000007 most x (omega arith) h

pub on_5 : (most : ℕ) → Passing 5 0x7F800002 0x7F800007 0x7F800001 most
unfolding kind
on_5 most x h = marked_on 0x7F800001 0x7F800007 most x (omega arith) h

pub on_7 : (most : ℕ) → Passing 7 0 0 0 most
unfolding kind passed
on_7 most x h = by_most (ltb most x) refl h
  where
    by_most : (b : Bool) → ltb most x ≡ b → pick b (eqb x 0) (pick (ltb x 0) true (ltb 0 x)) ≡ true
        → element_turn most false (pick (eqb x 0) End Plain) x ≡ Ok false
    by_most true q g =
        let e : x ≡ 0 = eqb-true _ _ g in
        let r : most < x = ltb-true _ _ q in
        absurd (omega arith)
    by_most false q g = by-low (ltb x 0) refl g
      where
        by-low : (b : Bool) → ltb x 0 ≡ b → pick b true (ltb 0 x) ≡ true → element_turn most false (pick (eqb x 0) End Plain) x ≡ Ok false
        by-low true r f = let u : x < 0 = ltb-true _ _ r in absurd (omega arith)
        by-low false r f =
            let u : 0 < x = ltb-true _ _ f in
            rw (ne_eqb x 0 (λ z. omega arith), q)

-- elements that all go on: the first of them and the others
pub on_split : (most t w a b : ℕ) (l : List ℕ) → AllOn most t (numbers w (a + b) l)
    → AllOn most t (numbers w a l) × AllOn most t (numbers w b (drop (a * w) l))
unfolding numbers
on_split most t w zero b l h = (tt, rw zero-mul (rw zero-add at h))
on_split most t w (suc a) b l h =
    let g = rw (suc-add a b) at h in
    let r = on_split most t w a b (drop w l) g.1 in
    ((g.0, r.0), rw (suc-mul a w, add_comm (a * w) w, ← drop-drop (a * w) w l) r.1)

pub vector_on : (most t w at : ℕ) (xs : List ℕ) → AllOn most t xs → vector most t w at false xs ≡ Sound
unfolding vector
vector_on most t w at [] h = refl
vector_on most t w at (x ∷ xs) h = rw h.0 (vector_on most t w (at + w) xs h.1)

-- and so vectors of nothing else are sound
pub vectors_on : (most t w len n at : ℕ) (l : List ℕ) → AllOn most t (numbers w (n * len) l) → vectors most t w len n at l ≡ Sound
unfolding vectors
vectors_on most t w len zero at l h = refl
vectors_on most t w len (suc n) at l h =
    let g = rw (suc-mul n len, add_comm (n * len) len) at h in
    let r = on_split most t w len (n * len) l g in
    rw (vector_on most t w at (numbers w len l) r.0) (vectors_on most t w len n (at + len * w) (drop (len * w) l) r.1)

and_and : (a b d : Answer (Unit {0})) → and_then a (and_then b d) ≡ and_then (and_then a b) d
and_and (Err r) b d = refl
and_and Sound b d = refl

-- so many vectors and then others
pub vectors_add : (most t w len m n at : ℕ) (l : List ℕ)
    → vectors most t w len (m + n) at l
    ≡ and_then (vectors most t w len m at l) (vectors most t w len n (at + m * (len * w)) (drop (m * (len * w)) l))
unfolding vectors
vectors_add most t w len zero n at l = rw (zero-add, zero-mul, add-zero)
vectors_add most t w len (suc m) n at l =
    rw (suc-add m n, vectors_add most t w len m n (at + len * w) (drop (len * w) l), and_and, drop-drop (m * (len * w)) (len * w) l, suc-mul m (len * w), add_comm (m * (len * w)) (len * w), add_assoc)

pub vectors_block : (s : List ℕ) (most t w len n k at : ℕ) → k ≤ n
    → vectors most t w len n at (drop at s)
    ≡ and_then (vectors most t w len k at (drop at s)) (vectors most t w len (n - k) (at + k * (len * w)) (drop (at + k * (len * w)) s))
vectors_block s most t w len n k at h =
    let e : k + (n - k) ≡ n = omega arith in
    rw (← drop-drop (k * (len * w)) at s, ← vectors_add most t w len k (n - k) at (drop at s), e)

-- room for n vectors is room for k of them and for the others
pub block_room : (at n k w m : ℕ) → k ≤ n → at + n * w ≤ m → at + k * w + (n - k) * w ≤ m
block_room at n k w m h r =
    let e : k + (n - k) ≡ n = omega arith in
    let q : (k + (n - k)) * w ≤ m - at = rw e (omega arith) in
    omega (arith, add-mul k (n - k) w)

pub block_one : (at n k w m : ℕ) → 0 < k → k ≤ n → at + n * w ≤ m → w ≤ m
block_one at n zero w m p h r = absurd (omega arith)
block_one at n (suc k) w m p h r = omega (arith, suc-mul k w, block_room at n (suc k) w m h r)

-- vectors of some width have at least a byte for each element
pub elements_fit : (n len w m : ℕ) → 0 < w → n * (len * w) ≤ m → n * len ≤ m
elements_fit n len zero m p h = absurd (omega arith)
elements_fit n len (suc w) m p h = omega (arith, mul_assoc n len (suc w), mul-suc (n * len) w)

-- the widths of the types whose elements are swept
pub width_1 : width_of 1 ≡ 1
unfolding width_of row_of
width_1 = refl

pub width_2 : width_of 2 ≡ 2
unfolding width_of row_of
width_2 = refl

pub width_3 : width_of 3 ≡ 4
unfolding width_of row_of
width_3 = refl

pub width_5 : width_of 5 ≡ 4
unfolding width_of row_of
width_5 = refl

pub width_7 : width_of 7 ≡ 1
unfolding width_of row_of
width_7 = refl

-- a byte is a number of one
pub byte_at : (s : List ℕ) (at : ℕ) → get_or s at 0 ≡ number 1 (drop at s)
unfolding number le
byte_at [] zero = refl
byte_at [] (suc at) = refl
byte_at (x ∷ s) zero = omega arith
byte_at (x ∷ s) (suc at) = byte_at s at
