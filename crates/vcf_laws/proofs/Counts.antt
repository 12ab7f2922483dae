-- How often a byte stands in joined pieces: as often as among the separators, and in the pieces. Rests on pieces and on calls' `how_many`.
use mathlib.Core.Path.{◌≡◌, refl}
use mathlib.Core.Logic.{◌≢◌}
use mathlib.Core.List.{List, [], ◌∷◌, flatten}
use mathlib.Core.Bool.{Bool, true, false}
use Prim.Native.Nat.{ℕ, zero, suc, ◌+◌}
use native.Mathlib.Omega.{arith}
use lib.Dec.{eqb}
use lib.ListN.{length, replicate}
use borrow.Author.Tests.{eq-eqb, ne_eqb, eqb-false}
use Rattle.words.specs.Lists.{among}
use Rattle.words.specs.Pick.{pick}
use Rattle.calls.specs.Calls.{how_many}
use Rattle.calls.proofs.Counters.{how_many_append}
use Rattle.pieces.specs.Pieces.{followed, joined_by}
use Rattle.pieces.proofs.Joined.{Free}
use Rattle.vcf_laws.specs.Lines.{Without}

how_many_followed : (b c : ℕ) (xs : List (List ℕ)) → how_many b (followed c xs) ≡ how_many b (replicate (length xs) c) + how_many b (flatten xs)
unfolding how_many followed flatten
how_many_followed b c [] = refl
how_many_followed b c (x ∷ xs) =
    let e = how_many_append b x (followed c xs) in
    let d = how_many_append b x (flatten xs) in
    let on = how_many_followed b c xs in
    omega arith

-- the separators are one fewer than the pieces
pub how_many_joined : (b c : ℕ) (x : List ℕ) (xs : List (List ℕ))
    → how_many b (joined_by c (x ∷ xs)) ≡ how_many b (replicate (length xs) c) + how_many b (flatten (x ∷ xs))
unfolding joined_by flatten
how_many_joined b c x xs =
    let e = how_many_append b x (followed c xs) in
    let d = how_many_append b x (flatten xs) in
    let on = how_many_followed b c xs in
    omega arith

-- one byte, so many times
pub how_many_replicate : (c n : ℕ) → how_many c (replicate n c) ≡ n
unfolding how_many
how_many_replicate c zero = refl
how_many_replicate c (suc n) = rw (eq-eqb c c refl, how_many_replicate c n) (omega arith)

pub how_many_other : (b c n : ℕ) → b ≢ c → how_many b (replicate n c) ≡ 0
unfolding how_many
how_many_other b c zero h = refl
how_many_other b c (suc n) h = rw (ne_eqb b c h, how_many_other b c n h)

-- a byte that stands nowhere stands there not once
pub how_many_without : (c : ℕ) (x : List ℕ) → Without c x → how_many c x ≡ 0
unfolding how_many among
how_many_without c [] h = refl
how_many_without c (b ∷ x) h = by-test (eqb b c) refl h (how_many_without c x)
  where
    by-test : (a : Bool) → eqb b c ≡ a → pick a true (among c x) ≡ false → (Without c x → how_many c x ≡ 0) → pick (eqb c b) 1 0 + how_many c x ≡ 0
    by-test true e k on = let z : ◌≡◌ {A = ℕ} 0 1 = cc in absurd (omega arith)
    by-test false e k on = let n : c ≢ b = λ d. eqb-false b c e (omega arith) in rw (ne_eqb c b n, on k)

pub how_many_free : (c : ℕ) (xs : List (List ℕ)) → Free c xs → how_many c (flatten xs) ≡ 0
unfolding how_many flatten
how_many_free c [] h = refl
how_many_free c (x ∷ xs) h = rw (how_many_append c x (flatten xs), how_many_without c x h.0, how_many_free c xs h.1)
