-- People whose elements are all missing alleles or one of the first three: what they are called is the halves of their numbers, and none is
-- without a slot. Rests on specs/Engine and on the counters.
use mathlib.Core.Path.{◌≡◌, refl, sym, ◌∙◌}
use mathlib.Core.List.{List, [], ◌∷◌, ◌++◌}
use mathlib.Core.Bool.{Bool, true, false}
use Prim.Native.Nat.{ℕ, zero, suc, ◌+◌, ◌*◌, ◌/◌, ◌<◌, ◌≤◌}
use native.Mathlib.Omega.{arith}
use native.Mathlib.Nat.{add_comm, add-zero, div-le_self, div-mul-le_self, le_of_suc-le-suc, suc-add, suc-mul, zero-add, zero-mul}
use lib.Dec.{eqb, ltb}
use lib.ListN.{drop, get_or, length, length-append, length-map, take}
use lib.Seq.{drop-drop}
use borrow.Author.Tests.{eq-eqb, eqb-false, eqb-true, lt-ltb, ltb-true, ltb-false, ne_eqb}
use Rattle.std.specs.Int.{from_bool}
use Rattle.std.proofs.lemmas.List.{take_more}
use Rattle.words.specs.Pick.{pick}
use Rattle.types.specs.Rows.{width_of}
use Rattle.types.specs.Elements.{kind, marked}
use Rattle.types.specs.declared.Element.{Element}
use Rattle.types.specs.declared.Element.TheVariants.{Plain, Missing, End, Reserved}
use Rattle.vectors.specs.Vectors.{numbers}
use Rattle.vectors.proofs.Plain.{elements_fit, width_1}
use Rattle.calls.specs.Calls.{before, slots, alleles, people, called, without, no_slot, how_many, counters, AtMost}
use Rattle.calls.specs.Engine.{every, everyone, halves, raised}
use Rattle.calls.specs.Totals.{total, sums}
use Rattle.calls.proofs.Counters.{how_many_append, how_many_miss, wider}
use Rattle.calls.proofs.Laws.{counted_once, none_counted}
use Rattle.calls.proofs.Turns.{alleles_cons}

-- elements of type 1 have a byte each
pub one_wide : (t at n m : ℕ) → t ≡ 1 → at + n * width_of t ≤ m → at + n * 1 ≤ m
one_wide t at n m e h = rw (e, width_1) at h

-- one turn of counting the numbers that are k
one : (k x : ℕ) → how_many k (x ∷ []) ≡ from_bool (eqb x k)
unfolding how_many
one k x = by-test (eqb x k) refl
  where
    by-test : (b : Bool) → eqb x k ≡ b → pick (eqb k x) 1 0 + 0 ≡ from_bool b
    by-test true q = let h : k ≡ x = sym (eqb-true _ _ q) in rw (eq-eqb k x h)
    by-test false q = rw (ne_eqb k x (λ h. eqb-false _ _ q (sym h)))

pub count_turn : (xs : List ℕ) (k i c r : ℕ) → i < length xs → c ≡ how_many k (take i xs) → r ≡ from_bool (eqb (get_or xs i 0) k)
    → c + r ≡ how_many k (take (i + 1) xs)
count_turn xs k i c r h e q = sym (rw (take_more xs i 0 h, how_many_append, one, e, q))

pub get_or_halves : (xs : List ℕ) (i : ℕ) → get_or (halves xs) i 0 ≡ get_or xs i 0 / 2
unfolding halves
get_or_halves [] i = omega arith
get_or_halves (x ∷ xs) zero = refl
get_or_halves (x ∷ xs) (suc i) = get_or_halves xs i

pub length_halved : (xs : List ℕ) → length (halves xs) ≡ length xs
unfolding halves
length_halved [] = refl
length_halved (x ∷ xs) = rw (length_halved xs)

-- numbers and their halves, one list after the other
numbers_append : (w a b : ℕ) (l : List ℕ) → numbers w (a + b) l ≡ numbers w a l ++ numbers w b (drop (a * w) l)
unfolding numbers
numbers_append w zero b l = rw (zero-add, zero-mul)
numbers_append w (suc a) b l = rw (suc-add a b, numbers_append w a b (drop w l), drop-drop (a * w) w l, suc-mul a w, add_comm (a * w) w)

halves_append : (xs ys : List ℕ) → halves (xs ++ ys) ≡ halves xs ++ halves ys
unfolding halves
halves_append [] ys = refl
halves_append (x ∷ xs) ys = rw (halves_append xs ys)

pub length_halves : (w n : ℕ) (l : List ℕ) → length (halves (numbers w n l)) ≡ n
unfolding halves numbers
length_halves w zero l = refl
length_halves w (suc n) l = rw (length_halves w n (drop w l))

-- a bound on two lists is one on each
most_front : (m : ℕ) (xs ys : List ℕ) → AtMost m (xs ++ ys) → AtMost m xs
most_front m [] ys b j = omega arith
most_front m (x ∷ xs) ys b zero = b zero
most_front m (x ∷ xs) ys b (suc j) = most_front m xs ys (λ k. b (suc k)) j

most_rest : (m : ℕ) (xs ys : List ℕ) → AtMost m (xs ++ ys) → AtMost m ys
most_rest m [] ys b = b
most_rest m (x ∷ xs) ys b = most_rest m xs ys (λ k. b (suc k))

-- a code of few alleles is a slot
pub few_plain : (x : ℕ) → x / 2 ≤ 3 → kind 1 x ≡ Plain
unfolding kind marked
few_plain x h = rw (lt-ltb x 0x80 (omega arith))

pub no_alleles : alleles 1 [] ≡ []
unfolding alleles slots
no_alleles = refl

few_alleles : (xs : List ℕ) → AtMost 3 (halves xs) → alleles 1 xs ≡ halves xs
unfolding halves
few_alleles [] b = no_alleles
few_alleles (x ∷ xs) b = rw (alleles_cons 1 x xs, few_plain x (b 0), few_alleles xs (λ j. b (suc j)))

few_slot : (n : ℕ) (l : List ℕ) → 0 < n → AtMost 3 (halves (numbers 1 n l)) → no_slot (slots 1 (numbers 1 n l)) ≡ 0
unfolding halves numbers slots
few_slot zero l h b = absurd (omega arith)
few_slot (suc n) l h b = rw (few_plain _ (b 0))

-- the elements of a person and of those after it
people_halves : (len n : ℕ) (l : List ℕ)
    → halves (numbers 1 (suc n * len) l) ≡ halves (numbers 1 len l) ++ halves (numbers 1 (n * len) (drop (len * 1) l))
people_halves len n l = rw (suc-mul n len, add_comm (n * len) len, numbers_append 1 len (n * len) l, halves_append)

pub no_halves : (l : List ℕ) → halves (numbers 1 0 l) ≡ []
unfolding halves numbers
no_halves l = refl

pub few_called : (len n : ℕ) (l : List ℕ) → AtMost 3 (halves (numbers 1 (n * len) l)) → called 1 (people 1 len n l) ≡ halves (numbers 1 (n * len) l)
unfolding people called
few_called len zero l b = rw (zero-mul, no_halves l)
few_called len (suc n) l b =
    let g = rw (people_halves len n l) at b in
    rw (people_halves len n l, few_alleles (numbers 1 len l) (most_front 3 (halves (numbers 1 len l)) _ g), few_called len n (drop (len * 1) l) (most_rest 3 (halves (numbers 1 len l)) _ g))

pub few_without : (len n : ℕ) (l : List ℕ) → 0 < len → AtMost 3 (halves (numbers 1 (n * len) l)) → without 1 (people 1 len n l) ≡ 0
unfolding people without
few_without len zero l h b = refl
few_without len (suc n) l h b =
    let g = rw (people_halves len n l) at b in
    rw (few_slot len l h (most_front 3 (halves (numbers 1 len l)) _ g), few_without len n (drop (len * 1) l) h (most_rest 3 (halves (numbers 1 len l)) _ g))

-- a number past the last counter is counted nowhere
pub counters_past : (n k x : ℕ) (xs : List ℕ) → k + n ≤ x → counters n k (x ∷ xs) ≡ counters n k xs
unfolding counters
counters_past zero k x xs h = refl
counters_past (suc n) k x xs h = rw (how_many_miss k x xs (λ e. omega arith), counters_past n (suc k) x xs (omega arith))

-- no more are counted than there are
counted_most : (n : ℕ) (xs : List ℕ) → total (counters n 0 xs) ≤ length xs
counted_most n [] = rw (none_counted n 0) (omega arith)
counted_most n (x ∷ xs) = by-test (ltb x n) refl (counted_most n xs)
  where
    by-test : (b : Bool) → ltb x n ≡ b → total (counters n 0 xs) ≤ length xs → total (counters n 0 (x ∷ xs)) ≤ length (x ∷ xs)
    by-test true q r = let h : x < n = ltb-true _ _ q in rw (counted_once n 0 x xs (omega arith) (omega arith)) (omega arith)
    by-test false q r = let h : n ≤ x = ltb-false _ _ q in rw (counters_past n 0 x xs (omega arith)) (omega arith)

-- where as many are counted as there are, none is past the last counter
pub all_counted : (m : ℕ) (xs : List ℕ) → total (counters (suc m) 0 xs) ≡ length xs → AtMost m xs
all_counted m [] e = λ j. omega arith
all_counted m (x ∷ xs) e = by-test (ltb x (suc m)) refl (λ g. all_counted m xs g)
  where
    by-test : (b : Bool) → ltb x (suc m) ≡ b → (total (counters (suc m) 0 xs) ≡ length xs → AtMost m xs) → AtMost m (x ∷ xs)
    by-test true q on zero = let h : x < suc m = ltb-true _ _ q in omega arith
    by-test true q on (suc j) =
        let h : x < suc m = ltb-true _ _ q in
        on (omega (arith, counted_once (suc m) 0 x xs (omega arith) (omega arith), e)) j
    by-test false q on j =
        let h : suc m ≤ x = ltb-false _ _ q in
        let g = rw (counters_past (suc m) 0 x xs (omega arith)) at e in
        absurd (omega (arith, g, counted_most (suc m) xs))

-- a number above all of a list isn't in it, and counters from there on aren't raised
pub none_found : (k : ℕ) → how_many k [] ≡ 0
unfolding how_many
none_found k = refl

how_many_past : (m k : ℕ) (xs : List ℕ) → m < k → AtMost m xs → how_many k xs ≡ 0
how_many_past m k [] h b = none_found k
how_many_past m k (x ∷ xs) h b =
    let g = b 0 in
    rw (how_many_miss k x xs (λ e. omega arith)) (how_many_past m k xs h (λ j. b (suc j)))

raised_past : (m k : ℕ) (cs xs : List ℕ) → m < k → AtMost m xs → raised k cs xs ≡ cs
unfolding raised
raised_past m k [] xs h b = refl
raised_past m k (c ∷ cs) xs h b = rw (how_many_past m k xs h b, raised_past m (suc k) cs xs (omega arith) b, add-zero)

-- the first counters, raised by what was counted for them, are those raised by all
pub sums_raised : (n k m : ℕ) (cs xs : List ℕ) → n ≤ length cs → m < k + n → AtMost m xs → sums cs (counters n k xs) ≡ raised k cs xs
unfolding sums counters raised
sums_raised zero k m [] xs g h b = sym (raised_past m k [] xs (omega arith) b)
sums_raised zero k m (c ∷ cs) xs g h b = sym (raised_past m k (c ∷ cs) xs (omega arith) b)
sums_raised (suc n) k m [] xs g h b = absurd (omega arith)
sums_raised (suc n) k m (c ∷ cs) xs g h b = rw (sums_raised n (suc k) m cs xs (le_of_suc-le-suc g) (omega arith) b)

-- no counter is raised by more than the length of a list
how_many_most : (k : ℕ) (xs : List ℕ) → how_many k xs ≤ length xs
unfolding how_many
how_many_most k [] = omega arith
how_many_most k (x ∷ xs) = let r = how_many_most k xs in by-test (eqb k x) r
  where
    by-test : (b : Bool) → how_many k xs ≤ length xs → pick b 1 0 + how_many k xs ≤ suc (length xs)
    by-test true r = omega arith
    by-test false r = omega arith

pub raised_within : (m k : ℕ) (cs xs : List ℕ) → AtMost m cs → AtMost (m + length xs) (raised k cs xs)
unfolding raised
raised_within m k [] xs b j = omega arith
raised_within m k (c ∷ cs) xs b zero = let g = b 0 in omega (arith, how_many_most k xs)
raised_within m k (c ∷ cs) xs b (suc j) = raised_within m (suc k) cs xs (λ i. b (suc i)) j

pub length_numbers : (w n : ℕ) (l : List ℕ) → length (numbers w n l) ≡ n
unfolding numbers
length_numbers w zero l = refl
length_numbers w (suc n) l = rw (length_numbers w n (drop w l))

-- no person has more slots than elements, which have a byte each at least: so no counter is raised by more than the bytes
slots_most : (t : ℕ) (xs : List ℕ) → length (slots t xs) ≤ length xs
unfolding slots
slots_most t [] = omega arith
slots_most t (x ∷ xs) = by_kind (kind t x) (slots_most t xs)
  where
    by_kind : (k : Element) → length (slots t xs) ≤ length xs → length (before k x (slots t xs)) ≤ suc (length xs)
    by_kind End h = omega arith
    by_kind Missing h = omega arith
    by_kind Plain h = omega arith
    by_kind Reserved h = omega arith

alleles_most : (t : ℕ) (xs : List ℕ) → length (alleles t xs) ≤ length xs
unfolding alleles
alleles_most t xs = rw length-map (slots_most t xs)

called_most : (t w len n : ℕ) (l : List ℕ) → length (called t (people w len n l)) ≤ n * len
unfolding called people
called_most t w len zero l = omega arith
called_most t w len (suc n) l =
    let r = called_most t w len n (drop (len * w) l) in
    let a = rw length_numbers at (alleles_most t (numbers w len l)) in
    rw length-append (omega (arith, suc-mul n len))

pub person_within : (m t w : ℕ) (cs x : List ℕ) → AtMost m cs → AtMost (m + length x) (raised 0 cs (alleles t (every w x)))
unfolding every
person_within m t w cs x b =
    let a = rw length_numbers at (alleles_most t (numbers w (length x / w) x)) in
    wider _ _ (raised 0 cs (alleles t (numbers w (length x / w) x))) (omega (arith, div-le_self (length x) w))
    (raised_within m 0 cs (alleles t (numbers w (length x / w) x)) b)

pub block_within : (m t w len : ℕ) (cs l : List ℕ) → 0 < w → AtMost m cs → AtMost (m + length l) (raised 0 cs (called t (everyone w len l)))
unfolding everyone
block_within m t w len cs l p b =
    let n = length l / (len * w) in
    let h : n * (len * w) ≤ length l = div-mul-le_self (length l) (len * w) in
    wider _ _ (raised 0 cs (called t (people w len n l))) (omega (arith, elements_fit n len w (length l) p h, called_most t w len n l))
    (raised_within m 0 cs (called t (people w len n l)) b)

-- and none by more than the elements of people
pub people_within : (m : ℕ) (l cs : List ℕ) (len n : ℕ) → AtMost m cs → AtMost (m + n * len) (raised 0 cs (called 1 (people 1 len n l)))
people_within m l cs len n b =
    wider _ _ (raised 0 cs (called 1 (people 1 len n l))) (omega (arith, called_most 1 1 len n l)) (raised_within m 0 cs (called 1 (people 1 len n l)) b)

-- people counted by the halves of their elements, where every one is counted: none is without a slot, the first counters are raised
-- by what all of them are called, and none by more than their elements
pub few_raised : (l cs fs : List ℕ) (len n : ℕ) → 0 < len → 4 ≤ length cs
    → fs ≡ counters 4 0 (halves (numbers 1 (n * len) l)) → total fs ≡ n * len
    → (0 ≡ without 1 (people 1 len n l)) × (sums cs fs ≡ raised 0 cs (called 1 (people 1 len n l)))
few_raised l cs fs len n h g e q =
    let k = length_halves 1 (n * len) l in
    let a : AtMost 3 (halves (numbers 1 (n * len) l)) = all_counted 3 _ ((rw e at q) ∙ sym k) in
    (sym (few_without len n l h a), rw (e, few_called len n l a) (sums_raised 4 0 3 cs _ g (omega arith) a))

pub few_block : (m : ℕ) (l cs fs : List ℕ) (len n : ℕ) → 0 < len → 4 ≤ length cs → AtMost m cs
    → fs ≡ counters 4 0 (halves (numbers 1 (n * len) l)) → total fs ≡ n * len
    → (0 ≡ without 1 (people 1 len n l)) × (sums cs fs ≡ raised 0 cs (called 1 (people 1 len n l))) × AtMost (m + n * len) (sums cs fs)
few_block m l cs fs len n h g b e q =
    let r = few_raised l cs fs len n h g e q in
    (r.0, r.1, rw r.1 (people_within m l cs len n b))
