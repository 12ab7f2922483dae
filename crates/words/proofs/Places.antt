-- From places to lists: what stands at a place of a block, said of the list from there on. Rests on the kit's lists.
use mathlib.Core.Path.{◌≡◌, refl}
use mathlib.Core.List.{List, [], ◌∷◌}
use Prim.Native.Nat.{ℕ, zero, suc, ◌+◌, ◌-◌, ◌≤◌}
use native.Mathlib.Nat.{suc-add}
use native.Mathlib.Omega.{arith}
use lib.Dec.{leb, leb-zero, leb-suc-zero, leb-suc-suc}
use lib.ListN.{length, get_or, take, drop, length-drop}
use lib.Seq.{drop-drop, length-take-le}
use Rattle.words.specs.Pick.{pick}

-- what a function says of the list from a place on: of nothing where the list has ended, else of the byte there and the rest
pub front {ℓ} : {A : Type ℓ} (f : List ℕ → A) (s : List ℕ) (at : ℕ)
    → f (drop at s) ≡ pick (leb (length s) at) (f []) (f (get_or s at 0 ∷ drop (at + 1) s))
front f [] zero = refl
front f [] (suc at) = rw leb-zero
front f (x ∷ s) zero = rw leb-suc-zero
front f (x ∷ s) (suc at) = rw (leb-suc-suc, suc-add at 1) (front f s at)

-- on from one place to a later one
pub drop_on {ℓ} : {A : Type ℓ} (s : List A) (at q : ℕ) → at ≤ q → drop (q - at) (drop at s) ≡ drop q s
drop_on s at q h = let e : at + (q - at) ≡ q = omega arith in rw (drop-drop (q - at) at s, e)

-- the length of the part between two places
pub length_part {ℓ} : {A : Type ℓ} (s : List A) (first stop : ℕ) → first ≤ stop → stop ≤ length s
    → length (take (stop - first) (drop first s)) ≡ stop - first
length_part s first stop h e = length-take-le (stop - first) (drop first s) (rw length-drop (omega arith))
