-- A store inside what was stored at the buffer's start. Rests on the kit's `sets`.
use mathlib.Core.Path.{◌≡◌, refl, ◌∙◌, sym, ap}
use mathlib.Core.List.{List, [], ◌∷◌, ◌++◌}
use Prim.Native.Nat.{ℕ, suc, ◌+◌, ◌≤◌}
use native.Mathlib.Omega.{arith}
use native.Mathlib.Nat.{zero-add}
use lib.ListN.{length, set, drop, length-set}
use lib.Seq.{sets, sets-eq, length-sets, set-append_left}
use Rattle.stores.specs.Stores.{filled}
use Rattle.stores.proofs.Room.{filled_room}

-- what is stored at the start, and then the rest
pub sets_start : (buf xs : List ℕ) → length xs ≤ length buf → sets buf 0 xs ≡ xs ++ drop (length xs) buf
sets_start buf xs h = sets-eq xs buf 0 (rw zero-add h) ∙ rw zero-add

-- a store into the front of two lists
sets_append_left : (xs ys : List ℕ) (i : ℕ) (vs : List ℕ) → i + length vs ≤ length xs → sets (xs ++ ys) i vs ≡ sets xs i vs ++ ys
sets_append_left xs ys i [] h = refl
sets_append_left xs ys i (v ∷ vs) h =
    let q : suc i + length vs ≤ length (set xs i v) = rw length-set (omega arith) in
    rw (set-append_left xs ys i v (omega arith)) (sets_append_left (set xs i v) ys (suc i) vs q)

pub sets_inside : (buf xs : List ℕ) (i : ℕ) (vs : List ℕ) → length xs ≤ length buf → i + length vs ≤ length xs
    → sets (sets buf 0 xs) i vs ≡ sets buf 0 (sets xs i vs)
sets_inside buf xs i vs h r =
    let e = sets_start buf (sets xs i vs) (rw length-sets h) in
    ap (λ (b : List ℕ). sets b i vs) (sets_start buf xs h) ∙ sets_append_left xs (drop (length xs) buf) i vs r ∙ sym (rw length-sets at e)

pub filled_inside : (buf xs : List ℕ) (i : ℕ) (vs : List ℕ) → length xs ≤ length buf → i + length vs ≤ length xs
    → filled (sets buf 0 xs) i vs ≡ sets buf 0 (sets xs i vs)
filled_inside buf xs i vs h r = filled_room (sets buf 0 xs) i vs (rw length-sets (omega arith)) ∙ sets_inside buf xs i vs h r
