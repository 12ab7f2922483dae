-- Stores over stores: those at the same place, the later stays; those that don't meet, in either order. Rests on the kit's `sets`.
use mathlib.Core.Path.{◌≡◌, refl, sym, ◌∙◌}
use mathlib.Core.List.{List, [], ◌∷◌}
use Prim.Native.Nat.{ℕ, suc, ◌+◌, ◌<◌, ◌≤◌}
use native.Mathlib.Omega.{arith}
use lib.ListN.{length, drop, set}
use lib.Seq.{sets, set-set, set_comm, drop-set-lt}

-- one store before the place of others
set_sets : {A : Type 0} (vs l : List A) (i k : ℕ) (a : A) → k < i → set (sets l i vs) k a ≡ sets (set l k a) i vs
set_sets [] l i k a h = refl
set_sets (v ∷ vs) l i k a h = rw (set_sets vs (set l i v) (suc i) k a (omega arith), set_comm l i k v a (λ e. omega arith))

pub sets_again : {A : Type 0} (vs ws l : List A) (i : ℕ) → length vs ≡ length ws → sets (sets l i vs) i ws ≡ sets l i ws
sets_again [] [] l i h = refl
sets_again [] (w ∷ ws) l i h = absurd (omega arith)
sets_again (v ∷ vs) [] l i h = absurd (omega arith)
sets_again (v ∷ vs) (w ∷ ws) l i h =
    rw (set_sets vs (set l i v) (suc i) i w (omega arith), set-set l i v w) (sets_again vs ws (set l i w) (suc i) (omega arith))

pub sets_swap : {A : Type 0} (vs ws l : List A) (i j : ℕ) → i + length vs ≤ j → sets (sets l i vs) j ws ≡ sets (sets l j ws) i vs
sets_swap [] ws l i j h = refl
sets_swap (v ∷ vs) ws l i j h =
    rw (sets_swap vs ws (set l i v) (suc i) j (omega arith), sym (set_sets ws l j i v (omega arith)))

-- stores leave what follows them
pub drop_sets : {A : Type 0} (vs l : List A) (i n : ℕ) → i + length vs ≤ n → drop n (sets l i vs) ≡ drop n l
drop_sets [] l i n h = refl
drop_sets (v ∷ vs) l i n h = drop_sets vs (set l i v) (suc i) n (omega arith) ∙ drop-set-lt n l i v (omega arith)
