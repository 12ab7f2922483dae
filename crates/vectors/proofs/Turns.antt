-- One turn of each loop, of a vector's elements and of vectors, and room for vectors. Rests on specs/Vectors.
use Prim.Native.Nat.{ℕ, ◌+◌, ◌*◌, ◌≤◌, suc, zero, ◌-◌, ◌<◌}
use native.Mathlib.Omega.{arith}
use native.Mathlib.Nat.{mul_assoc, mul-le-mul_right}
use native.Mathlib.Numerals.{sub-one}
use mathlib.Core.Bool.{Bool, false}
use mathlib.Core.List.{List}
use mathlib.Core.Path.{◌≡◌}
use Rattle.vectors.specs.Vectors.{and_then, element_turn, follow, numbers, vector, vectors}
use lib.ListN.{drop}
use lib.Seq.{drop-drop}
use Rattle.types.specs.Elements.{kind}
use Rattle.words.specs.Words.{number}

pub vector_turn : (s : List ℕ) (most t w n at : ℕ) (e : Bool) → 0 < n
    → vector most t w at e (numbers w n (drop at s))
    ≡ follow at (element_turn most e (kind t (number w (drop at s))) (number w (drop at s)))
    (λ b. vector most t w (at + w) b (numbers w (n - 1) (drop (at + w) s)))
unfolding vector numbers
vector_turn s most t w zero at e h = absurd (omega arith)
vector_turn s most t w (suc n) at e h = rw (sub-one, drop-drop w at s)

pub vectors_turn : (s : List ℕ) (most t w len n at : ℕ) → 0 < n
    → vectors most t w len n at (drop at s)
    ≡ and_then (vector most t w at false (numbers w len (drop at s))) (vectors most t w len (n - 1) (at + len * w) (drop (at + len * w) s))
unfolding vectors
vectors_turn s most t w len zero at h = absurd (omega arith)
vectors_turn s most t w len (suc n) at h = rw (sub-one, drop-drop (len * w) at s)

-- as many vectors as whole elements fit
pub vectors_fit : (n k len w m : ℕ) → n * len ≤ k → k * w ≤ m → 0 + n * (len * w) ≤ m
vectors_fit n k len w m h g = let q : n * len * w ≤ k * w = mul-le-mul_right w h in rw (← mul_assoc n len w) (omega arith)
