-- The laws of a tally: missing and called together are the slots, people are those with a slot and those without, and tallies add up.
-- Rests on specs/Calls and specs/Totals.
use mathlib.Core.Path.{◌≡◌, refl, ◌∙◌}
use mathlib.Core.List.{List, [], ◌∷◌, ◌++◌, append_assoc, map}
use mathlib.Core.Bool.{Bool, true, false}
use Prim.Native.Nat.{ℕ, zero, suc, ◌+◌, ◌*◌, ◌<◌, ◌≤◌}
use native.Mathlib.Omega.{arith}
use native.Mathlib.Nat.{suc-add, suc-mul, zero-add, zero-mul}
use lib.Dec.{eqb}
use lib.ListN.{drop, length, length-append}
use lib.Seq.{drop-drop}
use borrow.Author.Tests.{eqb-true, eqb-false}
use Rattle.calls.specs.Calls.{slots, allele_of, alleles, people, called, no_slot, without, how_many, counters, AtMost, people_tally}
use Rattle.calls.specs.Totals.{total, slot_count, some_slot, with_slots, sums, together}
use Rattle.calls.proofs.Counters.{how_many_append, how_many_hit, how_many_miss}

-- a number below the first counter's is counted nowhere
counters_below : (n k x : ℕ) (xs : List ℕ) → x < k → counters n k (x ∷ xs) ≡ counters n k xs
unfolding counters
counters_below zero k x xs h = refl
counters_below (suc n) k x xs h = rw (how_many_miss k x xs (λ e. omega arith), counters_below n (suc k) x xs (omega arith))

-- a number that has a counter is counted once
pub counted_once : (n k x : ℕ) (xs : List ℕ) → k ≤ x → x < k + n → total (counters n k (x ∷ xs)) ≡ 1 + total (counters n k xs)
unfolding counters total
counted_once zero k x xs h g = absurd (omega arith)
counted_once (suc n) k x xs h g = by_first (eqb k x) refl (λ p. counted_once n (suc k) x xs p (omega arith))
  where
    by_first : (b : Bool) → eqb k x ≡ b
        → (suc k ≤ x → total (counters n (suc k) (x ∷ xs)) ≡ 1 + total (counters n (suc k) xs))
        → how_many k (x ∷ xs) + total (counters n (suc k) (x ∷ xs)) ≡ 1 + (how_many k xs + total (counters n (suc k) xs))
    by_first true e on =
        let q : k ≡ x = eqb-true k x e in
        rw (how_many_hit k x xs q, counters_below n (suc k) x xs (omega arith)) (omega arith)
    by_first false e on =
        let q : k ≡ x → ⊥ = eqb-false k x e in
        rw (how_many_miss k x xs q, on (omega arith)) (omega arith)

pub none_counted : (n k : ℕ) → total (counters n k []) ≡ 0
unfolding counters total how_many
none_counted zero k = refl
none_counted (suc n) k = rw (none_counted n (suc k))

-- missing and called together are the numbers counted, where none is above 64
pub missing_and_called : (xs : List ℕ) → AtMost 64 xs → total (counters 65 0 xs) ≡ length xs
missing_and_called [] b = none_counted 65 0
missing_and_called (x ∷ xs) b =
    let h = b 0 in
    let e = missing_and_called xs (λ j. b (suc j)) in
    counted_once 65 0 x xs (omega arith) (omega arith) ∙ omega arith

-- each slot has one allele
pub slots_called : (t : ℕ) (ps : List (List ℕ)) → length (called t ps) ≡ slot_count t ps
unfolding called slot_count alleles
slots_called t [] = refl
slots_called t (p ∷ ps) = rw (length-append, slots_called t ps) (omega (arith, mapped (slots t p)))
  where
    mapped : (xs : List ℕ) → length (map (allele_of t) xs) ≡ length xs
    mapped [] = refl
    mapped (x ∷ xs) = rw (mapped xs)

-- missing and called together are the slots that aren't ends of vector
pub people_tally_slots : (t : ℕ) (ps : List (List ℕ)) → AtMost 64 (called t ps) → total (people_tally t ps).counts ≡ slot_count t ps
unfolding people_tally
people_tally_slots t ps b = missing_and_called (called t ps) b ∙ slots_called t ps

-- people are those with a slot and those without
pub with_and_without : (t : ℕ) (ps : List (List ℕ)) → with_slots t ps + without t ps ≡ length ps
unfolding with_slots without
with_and_without t [] = refl
with_and_without t (p ∷ ps) = let e = with_and_without t ps in let o = one (slots t p) in omega arith
  where
    one : (xs : List ℕ) → some_slot xs + no_slot xs ≡ 1
    one [] = refl
    one (x ∷ xs) = refl

pub length_people : (w len n : ℕ) (l : List ℕ) → length (people w len n l) ≡ n
unfolding people
length_people w len zero l = refl
length_people w len (suc n) l = rw (length_people w len n (drop (len * w) l))

-- the people of a part are those of its front and those of what follows
pub people_append : (w len m n : ℕ) (l : List ℕ)
    → people w len (m + n) l ≡ people w len m l ++ people w len n (drop (m * (len * w)) l)
unfolding people
people_append w len zero n l = rw (zero-add, zero-mul)
people_append w len (suc m) n l =
    let e : len * w + m * (len * w) ≡ suc m * (len * w) = omega (arith, suc-mul m (len * w)) in
    rw (suc-add, people_append w len m n (drop (len * w) l), drop-drop (m * (len * w)) (len * w) l, e)

-- what people are called, and who is without, one group of people after the other
pub called_append : (t : ℕ) (ps qs : List (List ℕ)) → called t (ps ++ qs) ≡ called t ps ++ called t qs
unfolding called
called_append t [] qs = refl
called_append t (p ∷ ps) qs = rw (called_append t ps qs, append_assoc)

pub without_append : (t : ℕ) (ps qs : List (List ℕ)) → without t (ps ++ qs) ≡ without t ps + without t qs
unfolding without
without_append t [] qs = omega arith
without_append t (p ∷ ps) qs = rw (without_append t ps qs) (omega arith)

pub counters_append : (n k : ℕ) (xs ys : List ℕ) → counters n k (xs ++ ys) ≡ sums (counters n k xs) (counters n k ys)
unfolding counters sums
counters_append zero k xs ys = refl
counters_append (suc n) k xs ys = rw (how_many_append k xs ys, counters_append n (suc k) xs ys)

-- the tallies of two groups of people add up
pub people_tally_append : (t : ℕ) (ps qs : List (List ℕ)) → people_tally t (ps ++ qs) ≡ together (people_tally t ps) (people_tally t qs)
unfolding people_tally together
people_tally_append t ps qs = rw (without_append t ps qs, called_append t ps qs, counters_append 65 0 (called t ps) (called t qs))
