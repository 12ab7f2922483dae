-- An element below the count lies in its part, one of text is its byte, and what is shown says which 32 bits it is shown by. Rests on specs/Elements.
use Rattle.std.specs.Prelude.{None, Some}
use Prim.Native.Nat.{ℕ, zero, suc, ◌+◌, ◌*◌, ◌^◌, ◌<◌, ◌≤◌}
use mathlib.Core.Path.{◌≡◌, refl}
use mathlib.Core.Logic.{◌≢◌}
use mathlib.Core.List.{List, [], ◌∷◌}
use native.Mathlib.Omega.{arith}
use native.Mathlib.Nat.{suc-mul, mul-le-mul_right, mul-one, div-one}
use mathlib.Core.Bool.{Bool, true, false}
use lib.Dec.{leb, eqb}
use mir.Syntax.{w32}
use mir.Val.{to_z}
use mir.Facts.{to_z_inj}
use lib.ListN.{length, get_or, drop}
use Rattle.words.specs.Pick.{pick}
use Rattle.words.specs.Words.{le, number}
use Rattle.types.specs.Rows.{row_of, width_of}
use Rattle.types.specs.Elements.{shown}
use Rattle.elements.specs.Elements.{shown_by, element_at}
use Rattle.elements.specs.declared.Shown.TheVariants.{Integer, Float, Text}

pub element_inside : (i n w m : ℕ) → i < n → n * w ≤ m → i * w + w ≤ m
element_inside i n w m h r =
    let q : suc i * w ≤ n * w = mul-le-mul_right w h in
    omega (arith, suc-mul i w)

pub byte_number : (l : List ℕ) (i : ℕ) → number 1 (drop i l) ≡ get_or l i 0
unfolding number le
byte_number [] zero = refl
byte_number [] (suc i) = refl
byte_number (b ∷ l) zero = omega arith
byte_number (b ∷ l) (suc i) = byte_number l i

pub element_text : (i : ℕ) (l : List ℕ) → element_at 7 i l ≡ pick (leb (length l) i) None (Some (Text (get_or l i 0)))
unfolding element_at shown_by shown width_of row_of
element_text i l = rw (div-one (length l), mul-one i, byte_number l i)

-- what 32 bits say by a type is said by no others
pub shown_by_same : (t x y : ℕ) → x < 2 ^ 32 → y < 2 ^ 32 → shown_by t x ≡ shown_by t y → x ≡ y
unfolding shown_by
shown_by_same t x y p q e = by_type (eqb t 5) (eqb t 7) e
  where
    by_type : (a b : Bool) → pick a (Float x) (pick b (Text x) (Integer (to_z w32 x))) ≡ pick a (Float y) (pick b (Text y) (Integer (to_z w32 y))) → x ≡ y
    by_type true b e = cc
    by_type false true e = cc
    by_type false false e = let k : to_z w32 x ≡ to_z w32 y = cc in to_z_inj {w = w32} (record { fits = p }) (record { fits = q }) k

pub shown_by_there : (t x : ℕ) → None ≢ Some (shown_by t x)
shown_by_there t x e = let z : ◌≡◌ {A = ℕ} 0 1 = cc in absurd (omega arith)
