-- Counters kept as pairs: their sums, after a store and at each place. Rests on specs/Engine.
use mathlib.Core.Path.{◌≡◌, refl, sym, ◌∙◌}
use mathlib.Core.Logic.{◌≢◌}
use mathlib.Core.List.{List, [], ◌∷◌}
use Prim.Native.Nat.{ℕ, zero, suc, ◌+◌, ◌*◌, ◌%◌, ◌<◌, ◌≤◌}
use native.Mathlib.Omega.{arith}
use lib.ListN.{length, get_or, set}
use Rattle.std.proofs.lemmas.List.{get_or-set_other}
use Rattle.calls.specs.Engine.{folded}
use Rattle.calls.specs.Totals.{sums}

-- raising either counter of a pair raises the sum
pub folded_set : (cs : List ℕ) (a s : ℕ) → length cs % 2 ≡ 0 → s < 2
    → folded (set cs (a * 2 + s) (get_or cs (a * 2 + s) 0 + 1)) ≡ set (folded cs) a (get_or (folded cs) a 0 + 1)
unfolding folded
folded_set [] a s h g = refl
folded_set (x ∷ []) a s h g = absurd (omega arith)
folded_set (x ∷ y ∷ cs) zero zero h g = let e : x + 1 + y ≡ x + y + 1 = omega arith in rw e
folded_set (x ∷ y ∷ cs) zero (suc zero) h g = let e : x + (y + 1) ≡ x + y + 1 = omega arith in rw e
folded_set (x ∷ y ∷ cs) zero (suc (suc s)) h g = absurd (omega arith)
folded_set (x ∷ y ∷ cs) (suc a) s h g =
    let e : suc a * 2 + s ≡ suc (suc (a * 2 + s)) = omega arith in
    rw (e, folded_set cs a s (omega arith) g)

pub folded_at : (cs : List ℕ) (i : ℕ) → get_or (folded cs) i 0 ≡ get_or cs (i * 2) 0 + get_or cs (i * 2 + 1) 0
unfolding folded
folded_at [] i = omega arith
folded_at (x ∷ []) zero = omega arith
folded_at (x ∷ y ∷ cs) zero = refl
folded_at (x ∷ []) (suc i) =
    let e : suc i * 2 ≡ suc (suc (i * 2)) = omega arith in
    let d : suc i * 2 + 1 ≡ suc (suc (i * 2 + 1)) = omega arith in
    rw (d, e)
folded_at (x ∷ y ∷ cs) (suc i) =
    let e : suc i * 2 ≡ suc (suc (i * 2)) = omega arith in
    let d : suc i * 2 + 1 ≡ suc (suc (i * 2 + 1)) = omega arith in
    rw (d, e) (folded_at cs i)

pub length_folded : (cs : List ℕ) → length cs % 2 ≡ 0 → length (folded cs) * 2 ≡ length cs
unfolding folded
length_folded [] h = refl
length_folded (x ∷ []) h = absurd (omega arith)
length_folded (x ∷ y ∷ cs) h = let e = length_folded cs (omega arith) in omega arith

-- no counter of a pair is above their sum
pub folded_above : (cs : List ℕ) (a s : ℕ) → s < 2 → get_or cs (a * 2 + s) 0 ≤ get_or (folded cs) a 0
folded_above cs a zero g = let e : a * 2 + 0 ≡ a * 2 = omega arith in rw (e, folded_at cs a) (omega arith)
folded_above cs a (suc zero) g = rw (folded_at cs a) (omega arith)
folded_above cs a (suc (suc s)) g = absurd (omega arith)

-- as many sums as pairs
pub folded_65 : (cs : List ℕ) → length cs ≡ 130 → length (folded cs) ≡ 65
folded_65 cs h = let p : length cs % 2 ≡ 0 = rw h in omega (arith, length_folded cs p)

sums_none : (cs : List ℕ) → sums cs [] ≡ cs
unfolding sums
sums_none [] = refl
sums_none (c ∷ cs) = refl

-- a counter raised
abbrev pub raise : List ℕ → ℕ → ℕ → List ℕ
raise cs i n = set cs i (get_or cs i 0 + n)

-- those of further pairs are as they were
pub raise_reads : (cs : List ℕ) (a b c : ℕ)
    → (get_or (raise cs 0 a) 2 0 ≡ get_or cs 2 0) × (get_or (raise (raise cs 0 a) 2 b) 4 0 ≡ get_or cs 4 0)
    × (get_or (raise (raise (raise cs 0 a) 2 b) 4 c) 6 0 ≡ get_or cs 6 0)
raise_reads cs a b c = (
  other cs 0 2 a (λ e. omega arith),
  other (raise cs 0 a) 2 4 b (λ e. omega arith) ∙ other cs 0 4 a (λ e. omega arith),
  other (raise (raise cs 0 a) 2 b) 4 6 c (λ e. omega arith) ∙ other (raise cs 0 a) 2 6 b (λ e. omega arith) ∙ other cs 0 6 a (λ e. omega arith),
)
  where
    other : (cs : List ℕ) (i j n : ℕ) → j ≢ i → get_or (raise cs i n) j 0 ≡ get_or cs j 0
    other cs i j n h = get_or-set_other cs i j (get_or cs i 0 + n) 0 h

-- the first counter of each of four pairs raised raises the first four sums
pub folded_four : (cs : List ℕ) (a b c d : ℕ) → 8 ≤ length cs
    → folded (raise (raise (raise (raise cs 0 a) 2 b) 4 c) 6 d) ≡ sums (folded cs) (a ∷ b ∷ c ∷ d ∷ [])
unfolding folded sums
folded_four [] a b c d h = absurd (omega arith)
folded_four (p ∷ []) a b c d h = absurd (omega arith)
folded_four (p ∷ q ∷ []) a b c d h = absurd (omega arith)
folded_four (p ∷ q ∷ r ∷ []) a b c d h = absurd (omega arith)
folded_four (p ∷ q ∷ r ∷ s ∷ []) a b c d h = absurd (omega arith)
folded_four (p ∷ q ∷ r ∷ s ∷ t ∷ []) a b c d h = absurd (omega arith)
folded_four (p ∷ q ∷ r ∷ s ∷ t ∷ u ∷ []) a b c d h = absurd (omega arith)
folded_four (p ∷ q ∷ r ∷ s ∷ t ∷ u ∷ v ∷ []) a b c d h = absurd (omega arith)
folded_four (p ∷ q ∷ r ∷ s ∷ t ∷ u ∷ v ∷ w ∷ cs) a b c d h =
    let e : p + a + q ≡ p + q + a = omega arith in
    let f : r + b + s ≡ r + s + b = omega arith in
    let g : t + c + u ≡ t + u + c = omega arith in
    let k : v + d + w ≡ v + w + d = omega arith in
    rw (e, f, g, k) (sym (rw (sums_none (folded cs))))
