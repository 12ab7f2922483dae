-- People of two elements, some with padding: what they are called, of the missing and the first three alleles, is counted by the halves of all
-- their elements, since an end of vector has none of these. Rests on specs/Engine and proofs/Halves.
use mathlib.Core.Path.{◌≡◌, refl, sym, ◌∙◌}
use mathlib.Core.Logic.{◌⊎◌, inl, inr, ⊎_elim}
use mathlib.Core.List.{List, [], ◌∷◌, ◌++◌}
use mathlib.Core.Bool.{Bool, true, false, ◌&&◌}
use Prim.Native.Nat.{ℕ, zero, suc, ◌+◌, ◌*◌, ◌/◌, ◌%◌, ◌<◌, ◌≤◌}
use native.Mathlib.Omega.{arith}
use native.Mathlib.Nat.{add-zero, div-add-mod', mul_assoc, mul-one}
use lib.Dec.{eqb, ltb}
use lib.ListN.{drop, get_or, length, length-append, length-drop, length-take, take}
use Rattle.std.proofs.lemmas.List.{get_or-drop, get_or-take, take-append-drop}
use lib.Seq.{drop-drop}
use borrow.Author.Tests.{eqb-true, eqb-false, ltb-true, ltb-false}
use Rattle.words.specs.Pick.{pick}
use Rattle.words.specs.Words.{number}
use Rattle.types.specs.Elements.{kind, marked}
use Rattle.types.specs.declared.Element.TheVariants.{End}
use Rattle.vectors.specs.Vectors.{numbers}
use Rattle.calls.specs.Calls.{slots, alleles, people, called, without, no_slot, how_many, counters, AtMost}
use Rattle.calls.specs.Engine.{every, everyone, halves, firsts_few, raised}
use Rattle.calls.specs.Totals.{total, sums}
use Rattle.calls.proofs.Chunks.{every_bytes, everyone_cons, everyone_end, numbers_bytes}
use Rattle.calls.proofs.Counters.{how_many_hit, how_many_miss}
use Rattle.calls.proofs.Halves.{counters_past, few_plain, few_raised, length_numbers, no_alleles, none_found, people_within, sums_raised}
use Rattle.calls.proofs.Laws.{counted_once, counters_append, none_counted}
use Rattle.calls.proofs.Turns.{alleles_cons}

-- a number that is a missing allele, one of the first three or an end of vector
abbrev pub Told : ℕ → Type 0
Told x = (x / 2 ≤ 3) ⊎ (x ≡ 0x81)

abbrev pub AllTold : List ℕ → Type 0
AllTold [] = Unit {0}
AllTold (x ∷ xs) = Told x × AllTold xs

-- how many numbers of a list are counted as such
unfoldable pub told : List ℕ → ℕ
told xs = total (counters 4 0 (halves xs)) + how_many 0x81 xs

told_is : (xs : List ℕ) → told xs ≡ total (counters 4 0 (halves xs)) + how_many 0x81 xs
unfolding told
told_is xs = refl

-- each that is told is counted once, any other not at all
told_one : (x : ℕ) (xs : List ℕ) → (Told x × (told (x ∷ xs) ≡ 1 + told xs)) ⊎ (told (x ∷ xs) ≡ told xs)
unfolding told halves
told_one x xs = by-few (ltb (x / 2) 4) refl
  where
    by-few : (b : Bool) → ltb (x / 2) 4 ≡ b
        → (Told x × (total (counters 4 0 (x / 2 ∷ halves xs)) + how_many 0x81 (x ∷ xs) ≡ 1 + (total (counters 4 0 (halves xs)) + how_many 0x81 xs)))
        ⊎ (total (counters 4 0 (x / 2 ∷ halves xs)) + how_many 0x81 (x ∷ xs) ≡ total (counters 4 0 (halves xs)) + how_many 0x81 xs)
    by-few true q =
        let h : x / 2 < 4 = ltb-true _ _ q in
        inl (inl (omega arith), rw (counted_once 4 0 (x / 2) (halves xs) (omega arith) (omega arith), how_many_miss 0x81 x xs (λ e. omega arith)) (omega arith))
    by-few false q = by_end (eqb 0x81 x) refl
      where
        by_end : (b : Bool) → eqb 0x81 x ≡ b
            → (Told x × (total (counters 4 0 (x / 2 ∷ halves xs)) + how_many 0x81 (x ∷ xs) ≡ 1 + (total (counters 4 0 (halves xs)) + how_many 0x81 xs)))
            ⊎ (total (counters 4 0 (x / 2 ∷ halves xs)) + how_many 0x81 (x ∷ xs) ≡ total (counters 4 0 (halves xs)) + how_many 0x81 xs)
        by_end true r =
            let h : 4 ≤ x / 2 = ltb-false _ _ q in
            let e : 0x81 ≡ x = eqb-true _ _ r in
            inl (inr (sym e), rw (counters_past 4 0 (x / 2) (halves xs) (omega arith), how_many_hit 0x81 x xs e) (omega arith))
        by_end false r =
            let h : 4 ≤ x / 2 = ltb-false _ _ q in
            inr (rw (counters_past 4 0 (x / 2) (halves xs) (omega arith), how_many_miss 0x81 x xs (eqb-false _ _ r)))

-- no more are told than there are; where as many are, each is
told_none : told [] ≡ 0
unfolding told halves
told_none = rw (none_counted 4 0, none_found 0x81)

told_most : (xs : List ℕ) → told xs ≤ length xs
told_most [] = rw told_none (omega arith)
told_most (x ∷ xs) = let r = told_most xs in ⊎_elim (λ v. rw v.1 (omega arith)) (λ v. rw v (omega arith)) (told_one x xs)

pub all_told : (xs : List ℕ) → told xs ≡ length xs → AllTold xs
all_told [] e = tt
all_told (x ∷ xs) e = by_one (told_one x xs) (λ g. all_told xs g)
  where
    by_one : (Told x × (told (x ∷ xs) ≡ 1 + told xs)) ⊎ (told (x ∷ xs) ≡ told xs) → (told xs ≡ length xs → AllTold xs) → AllTold (x ∷ xs)
    by_one (inl v) on = (v.0, on (omega (arith, v.1, e)))
    by_one (inr v) on = absurd (omega (arith, v, e, told_most xs))

-- one person of two elements whose first is a slot
end_kind : kind 1 0x81 ≡ End
unfolding kind marked
end_kind = refl

pair_called : (x y : ℕ) → x / 2 ≤ 3 → Told y
    → (counters 4 0 (alleles 1 (x ∷ y ∷ [])) ≡ counters 4 0 (x / 2 ∷ y / 2 ∷ [])) × AtMost 3 (alleles 1 (x ∷ y ∷ [])) × (length (alleles 1 (x ∷ y ∷ [])) ≤ 2)
unfolding counters how_many
pair_called x y h (inl g) =
    let e : alleles 1 (x ∷ y ∷ []) ≡ x / 2 ∷ y / 2 ∷ [] =
    rw (alleles_cons 1 x (y ∷ []), few_plain x h, alleles_cons 1 y [], few_plain y g, no_alleles) in
    (rw e, rw e (two (x / 2) (y / 2) h g), rw e (omega arith))
  where
    two : (a b : ℕ) → a ≤ 3 → b ≤ 3 → AtMost 3 (a ∷ b ∷ [])
    two a b p q zero = p
    two a b p q (suc zero) = q
    two a b p q (suc (suc j)) = omega arith
pair_called x y h (inr g) =
    let e : alleles 1 (x ∷ y ∷ []) ≡ x / 2 ∷ [] = rw (alleles_cons 1 x (y ∷ []), few_plain x h, alleles_cons 1 y [], g, end_kind) in
    (rw (e, g), rw e (one (x / 2) h), rw e (omega arith))
  where
    one : (a : ℕ) → a ≤ 3 → AtMost 3 (a ∷ [])
    one a p zero = p
    one a p (suc j) = omega arith

pair_slot : (x y : ℕ) → x / 2 ≤ 3 → no_slot (slots 1 (x ∷ y ∷ [])) ≡ 0
unfolding slots
pair_slot x y h = rw (few_plain x h)

most_both : (m : ℕ) (xs ys : List ℕ) → AtMost m xs → AtMost m ys → AtMost m (xs ++ ys)
most_both m [] ys a b j = b j
most_both m (x ∷ xs) ys a b zero = a zero
most_both m (x ∷ xs) ys a b (suc j) = most_both m xs ys (λ k. a (suc k)) b j

-- the elements of a person of two and of those after it
two_more : (n : ℕ) (l : List ℕ) → numbers 1 (suc n * 2) l ≡ number 1 l ∷ number 1 (drop 1 l) ∷ numbers 1 (n * 2) (drop 2 l)
unfolding numbers
two_more n l = let e : suc n * 2 ≡ suc (suc (n * 2)) = omega arith in rw (e, drop-drop 1 1 l)

-- what is claimed of people of two elements, given with their elements
abbrev pub Counts : List (List ℕ) → List ℕ → Type 0
Counts ps xs = (counters 4 0 (called 1 ps) ≡ counters 4 0 (halves xs)) × AtMost 3 (called 1 ps) × (without 1 ps ≡ 0) × (length (called 1 ps) ≤ length xs)

counts_more : (x y : ℕ) (ps : List (List ℕ)) (xs : List ℕ) → x / 2 ≤ 3 → Told y → Counts ps xs → Counts ((x ∷ y ∷ []) ∷ ps) (x ∷ y ∷ xs)
unfolding called without halves
counts_more x y ps xs h g c =
    let p = pair_called x y h g in (
      counters_append 4 0 (alleles 1 (x ∷ y ∷ [])) (called 1 ps) ∙ rw (p.0, c.0) (sym (counters_append 4 0 (x / 2 ∷ y / 2 ∷ []) (halves xs))),
      most_both 3 (alleles 1 (x ∷ y ∷ [])) (called 1 ps) p.1 c.1,
      rw (pair_slot x y h, c.2),
      rw length-append (omega (arith, p.2, c.3)),
    )

first_few : (x : ℕ) (b : Bool) → pick (ltb x 8) b false ≡ true → (x / 2 ≤ 3) × (b ≡ true)
first_few x b e = by-test (ltb x 8) refl e
  where
    by-test : (d : Bool) → ltb x 8 ≡ d → pick d b false ≡ true → (x / 2 ≤ 3) × (b ≡ true)
    by-test true q g = let h : x < 8 = ltb-true _ _ q in (omega arith, g)
    by-test false q g = let z : ◌≡◌ {A = ℕ} 0 1 = cc in absurd (omega arith)

padded_counts : (n : ℕ) (l : List ℕ) → AllTold (numbers 1 (n * 2) l) → firsts_few (people 1 2 n l) ≡ true → Counts (people 1 2 n l) (numbers 1 (n * 2) l)
unfolding people numbers firsts_few called without halves
padded_counts zero l a f = (refl, (λ j. omega arith), refl, omega arith)
padded_counts (suc n) l a f =
    let t = rw (two_more n l) at a in
    let p = first_few (number 1 l) (firsts_few (people 1 2 n (drop 2 l))) f in
    rw (two_more n l) (counts_more (number 1 l) (number 1 (drop 1 l)) (people 1 2 n (drop 2 l)) (numbers 1 (n * 2) (drop 2 l)) p.0 t.1.0 (padded_counts n (drop 2 l) t.1.1 p.1))

-- a block of people of two elements, all told, each with a slot first
padded_block : (l cs fs : List ℕ) (n : ℕ) → 4 ≤ length cs → fs ≡ counters 4 0 (halves (numbers 1 (n * 2) l))
    → AllTold (numbers 1 (n * 2) l) → firsts_few (people 1 2 n l) ≡ true
    → (0 ≡ without 1 (people 1 2 n l)) × (sums cs fs ≡ raised 0 cs (called 1 (people 1 2 n l)))
padded_block l cs fs n g e a f =
    let p = padded_counts n l a f in
    (sym p.2, rw (e, ← p.0) (sums_raised 4 0 3 cs _ g (omega arith) p.1))

-- a block of people of whom every element is told, and ends of vector are padding: none is without a slot, the first counters are raised by
-- what all of them are called, and none by more than their elements
people_block : (l cs fs : List ℕ) (len n k : ℕ) → 0 < len → 4 ≤ length cs
    → fs ≡ counters 4 0 (halves (numbers 1 (n * len) l)) → k ≡ how_many 0x81 (numbers 1 (n * len) l) → total fs + k ≡ n * len
    → (k ≡ 0) ⊎ ((len ≡ 2) × (firsts_few (people 1 2 n l) ≡ true))
    → (0 ≡ without 1 (people 1 len n l)) × (sums cs fs ≡ raised 0 cs (called 1 (people 1 len n l)))
people_block l cs fs len n k h g e d q (inl z) = few_raised l cs fs len n h g e (omega arith)
people_block l cs fs len n k h g e d q (inr v) =
    let a : told (numbers 1 (n * len) l) ≡ length (numbers 1 (n * len) l) = counted-told ∙ sym (length_numbers 1 (n * len) l) in
    rw v.0 (padded_block l cs fs n g (rw v.0 at e) (all_told _ (rw v.0 at a)) v.1)
  where
    counted-told : told (numbers 1 (n * len) l) ≡ n * len
    counted-told = told_is (numbers 1 (n * len) l) ∙ rw (← e, ← d) q

pub told_block : (m : ℕ) (l cs fs : List ℕ) (len n k : ℕ) → 0 < len → 4 ≤ length cs → AtMost m cs
    → fs ≡ counters 4 0 (halves (numbers 1 (n * len) l)) → k ≡ how_many 0x81 (numbers 1 (n * len) l) → total fs + k ≡ n * len
    → (k ≡ 0) ⊎ ((len ≡ 2) × (firsts_few (people 1 2 n l) ≡ true))
    → (0 ≡ without 1 (people 1 len n l)) × (sums cs fs ≡ raised 0 cs (called 1 (people 1 len n l))) × AtMost (m + n * len) (sums cs fs)
told_block m l cs fs len n k h g b e d q p =
    let r = people_block l cs fs len n k h g e d q p in
    (r.0, r.1, rw r.1 (people_within m l cs len n b))

-- the same of all people that a part is
pub told_part : (l cs fs : List ℕ) (len k : ℕ) → 0 < len → 4 ≤ length cs → length l % (len * 1) ≡ 0
    → fs ≡ counters 4 0 (halves l) → k ≡ how_many 0x81 l → total fs + k ≡ length l
    → (k ≡ 0) ⊎ ((len ≡ 2) × (firsts_few (everyone 1 2 l) ≡ true))
    → (0 ≡ without 1 (everyone 1 len l)) × (sums cs fs ≡ raised 0 cs (called 1 (everyone 1 len l)))
unfolding everyone
told_part l cs fs len k h g z e d q p =
    let n = length l / (len * 1) in
    let w : n * len ≡ length l = omega (arith, div-add-mod' (length l) (len * 1), mul_assoc n len 1, mul-one (n * len)) in
    let b : numbers 1 (n * len) l ≡ l = rw w (numbers_bytes l) in
    people_block l cs fs len n k h g (rw b e) (rw b d) (rw w q) (same p)
  where
    same : (k ≡ 0) ⊎ ((len ≡ 2) × (firsts_few (people 1 2 (length l / (2 * 1)) l) ≡ true))
        → (k ≡ 0) ⊎ ((len ≡ 2) × (firsts_few (people 1 2 (length l / (len * 1)) l) ≡ true))
    same (inl z) = inl z
    same (inr v) = inr (v.0, rw v.0 v.1)

-- one turn of the sweep over first elements
pub firsts_turn : (s : List ℕ) (i : ℕ) (b : Bool) → i < length s / 2
    → pick b (firsts_few (everyone 1 2 (drop (i * 2) s))) false
    ≡ pick (b && ltb (get_or s (i * 2) 0) 8) (firsts_few (everyone 1 2 (drop ((i + 1) * 2) s))) false
unfolding firsts_few
firsts_turn s i true h =
    let l = drop (i * 2) s in
    let n : length (take 2 l) ≡ 2 = rw (length-take, length-drop) (omega arith) in
    let r : drop 2 l ≡ drop ((i + 1) * 2) s = rw drop-drop (let e : i * 2 + 2 ≡ (i + 1) * 2 = omega arith in rw e) in
    let x : get_or (take 2 l) 0 0 ≡ get_or s (i * 2) 0 = get_or-take 2 l 0 0 (omega arith) ∙ get_or-drop (i * 2) s 0 0 ∙ rw add-zero in
    let e : everyone 1 2 l ≡ every 1 (take 2 l) ∷ everyone 1 2 (drop ((i + 1) * 2) s) =
    rw r at (rw take-append-drop at (everyone_cons 1 2 (take 2 l) (drop 2 l) (omega arith) (omega arith) n)) in
    rw (e, every_bytes, x)
firsts_turn s i false h = refl

pub firsts_end : (s : List ℕ) → length s < 2 → firsts_few (everyone 1 2 s) ≡ true
unfolding firsts_few
firsts_end s h = rw (everyone_end 1 2 s h)
