-- Stores into a list, one after the other. Rests on the kit's `sets`.
use mathlib.Core.Path.{◌≡◌}
use mathlib.Core.List.{List, [], ◌∷◌, ◌++◌, append-nil, append_assoc}
use Prim.Native.Nat.{ℕ, suc, ◌+◌, ◌<◌, ◌≤◌}
use native.Mathlib.Nat.{add-zero, add-suc, suc-add}
use lib.ListN.{length, set, take}
use lib.Seq.{sets, take_all}
use Rattle.std.proofs.lemmas.List.{take_more_set}

-- two lists stored one behind the other are one list stored
pub sets_append : (xs ys l : List ℕ) (i : ℕ) → sets l i (xs ++ ys) ≡ sets (sets l i xs) (i + length xs) ys
sets_append [] ys l i = rw add-zero
sets_append (x ∷ xs) ys l i = rw (sets_append xs ys (set l i x) (suc i), add-suc i (length xs), suc-add i (length xs))

-- a list filled as far as a place, and what is left behind it: one element more, and the end
pub fill_turn : (l : List ℕ) (i x : ℕ) (rest : List ℕ) → i < length l → take (i + 1) (set l i x) ++ rest ≡ take i l ++ (x ∷ rest)
fill_turn l i x rest h = rw (take_more_set, append_assoc)

pub fill_end : (l : List ℕ) (i : ℕ) (rest : List ℕ) → length l ≤ i → rest ≡ [] → take i l ++ rest ≡ l
fill_end l i rest h e = rw (e, append-nil, take_all i l h)

pub ruleset fills = (fill_turn, fill_end)
