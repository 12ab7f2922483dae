-- Counters raised by one number, by a list, and by nothing. Rests on specs/Engine.
use mathlib.Core.Path.{◌≡◌, refl}
use mathlib.Core.List.{List, [], ◌∷◌, ◌++◌}
use Prim.Native.Nat.{ℕ, zero, suc, ◌+◌, ◌<◌, ◌≤◌}
use native.Mathlib.Omega.{arith}
use native.Mathlib.Nat.{le_of_suc-le-suc}
use lib.ListN.{length, get_or, set, replicate}
use borrow.Author.Tests.{eq-eqb, ne_eqb}
use Rattle.calls.specs.Calls.{how_many, counters, AtMost}
use Rattle.calls.specs.Engine.{raised}

-- a number is found as often as in both of two lists
pub how_many_append : (k : ℕ) (xs ys : List ℕ) → how_many k (xs ++ ys) ≡ how_many k xs + how_many k ys
unfolding how_many
how_many_append k [] ys = omega arith
how_many_append k (x ∷ xs) ys = let e = how_many_append k xs ys in omega arith

-- it is counted where it stands, and nowhere else
pub how_many_hit : (k x : ℕ) (xs : List ℕ) → k ≡ x → how_many k (x ∷ xs) ≡ 1 + how_many k xs
unfolding how_many
how_many_hit k x xs h = rw (eq-eqb k x h)

pub how_many_miss : (k x : ℕ) (xs : List ℕ) → (k ≡ x → ⊥) → how_many k (x ∷ xs) ≡ how_many k xs
unfolding how_many
how_many_miss k x xs h = rw (ne_eqb k x h) (omega arith)

-- raising by nothing changes nothing
pub raised_none : (k : ℕ) (cs : List ℕ) → raised k cs [] ≡ cs
unfolding raised how_many
raised_none k [] = refl
raised_none k (c ∷ cs) = let e : c + 0 ≡ c = omega arith in rw (e, raised_none (suc k) cs)

-- raising by two lists, one after the other, is raising by both
pub raised_append : (k : ℕ) (cs xs ys : List ℕ) → raised k (raised k cs xs) ys ≡ raised k cs (xs ++ ys)
unfolding raised
raised_append k [] xs ys = refl
raised_append k (c ∷ cs) xs ys =
    let e : c + how_many k xs + how_many k ys ≡ c + how_many k (xs ++ ys) = omega (arith, how_many_append k xs ys) in
    rw (e, raised_append (suc k) cs xs ys)

-- a number below the first counter's raises none
raised_below : (k : ℕ) (cs : List ℕ) (x : ℕ) (xs : List ℕ) → x < k → raised k cs (x ∷ xs) ≡ raised k cs xs
unfolding raised
raised_below k [] x xs h = refl
raised_below k (c ∷ cs) x xs h = rw (how_many_miss k x xs (λ e. omega arith), raised_below (suc k) cs x xs (omega arith))

-- raising by one number is a store
raised_from : (k : ℕ) (cs : List ℕ) (a : ℕ) (xs : List ℕ) → raised k cs ((k + a) ∷ xs) ≡ raised k (set cs a (get_or cs a 0 + 1)) xs
unfolding raised
raised_from k [] a xs = refl
raised_from k (c ∷ cs) zero xs =
    let e : c + how_many k ((k + 0) ∷ xs) ≡ c + 1 + how_many k xs = omega (arith, how_many_hit k (k + 0) xs (omega arith)) in
    rw (e, raised_below (suc k) cs (k + 0) xs (omega arith))
raised_from k (c ∷ cs) (suc a) xs =
    let e : k + suc a ≡ suc k + a = omega arith in
    rw (how_many_miss k (k + suc a) xs (λ q. omega arith), e, raised_from (suc k) cs a xs)

pub raised_one : (cs : List ℕ) (a : ℕ) (xs : List ℕ) → raised 0 cs (a ∷ xs) ≡ raised 0 (set cs a (get_or cs a 0 + 1)) xs
raised_one cs a xs = let e : 0 + a ≡ a = omega arith in rw e at (raised_from 0 cs a xs)

-- a store past the end is none
pub set_past : (cs : List ℕ) (a v : ℕ) → length cs ≤ a → set cs a v ≡ cs
set_past [] a v h = refl
set_past (c ∷ cs) zero v h = absurd (omega arith)
set_past (c ∷ cs) (suc a) v h = rw (set_past cs a v (le_of_suc-le-suc h))

-- counters of nothing, raised, are what is counted
pub raised_zeros : (n k : ℕ) (xs : List ℕ) → raised k (replicate n 0) xs ≡ counters n k xs
unfolding raised counters
raised_zeros zero k xs = refl
raised_zeros (suc n) k xs = let e : 0 + how_many k xs ≡ how_many k xs = omega arith in rw (e, raised_zeros n (suc k) xs)

-- bounds
pub zeros : (n m : ℕ) → AtMost m (replicate n 0)
zeros zero m j = omega arith
zeros (suc n) m zero = omega arith
zeros (suc n) m (suc j) = zeros n m j

pub wider : (m m' : ℕ) (cs : List ℕ) → m ≤ m' → AtMost m cs → AtMost m' cs
wider m m' cs h b j = let x = b j in omega arith

pub set_within : (cs : List ℕ) (i v m : ℕ) → v ≤ m → AtMost m cs → AtMost m (set cs i v)
set_within [] i v m h b j = b j
set_within (c ∷ cs) zero v m h b zero = h
set_within (c ∷ cs) zero v m h b (suc j) = b (suc j)
set_within (c ∷ cs) (suc i) v m h b zero = b zero
set_within (c ∷ cs) (suc i) v m h b (suc j) = set_within cs i v m h (λ k. b (suc k)) j
