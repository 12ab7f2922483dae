-- Calls of each type that GT may have, and of one that it may not, computed. Rests on specs/Elements.
use mathlib.Core.Path.{◌≡◌, refl}
use mathlib.Core.Bool.{true, false}
use mathlib.Core.List.{List, [], ◌∷◌, map}
use Prim.Native.Nat.{ℕ}
use Rattle.std.specs.Prelude.{Option, Some, None}
use lib.IntN.{negsuc}
use Rattle.words.specs.Words.{le, number}
use Rattle.types.specs.Rows.{row_of, width_of}
use Rattle.types.specs.Elements.{marked, kind, widened, shown}
use Rattle.elements.specs.Elements.{shown_by, element_at, code_call, call_at}
use Rattle.elements.specs.declared.Shown.{Shown}
use Rattle.elements.specs.declared.Shown.TheVariants.{Integer, Float}
use Rattle.elements.specs.declared.Call.{Call}
use Rattle.elements.specs.declared.Call.TheVariants.{Allele, Missing, End, NoCall}

-- what is answered at the first indices
abbrev pub calls : ℕ → List ℕ → List (Option Call)
calls t l = map (λ i. call_at t i l) (0 ∷ 1 ∷ 2 ∷ 3 ∷ 4 ∷ [])

abbrev pub elements : ℕ → List ℕ → List (Option Shown)
elements t l = map (λ i. element_at t i l) (0 ∷ 1 ∷ [])

-- code 5, the missing mark, the end of vector, a reserved code, −1; the same in two bytes and in four
pub of_one : calls 1 (0x05 ∷ 0x80 ∷ 0x81 ∷ 0x82 ∷ 0xFF ∷ []) ≡ Some (Allele 1 true) ∷ Some (Missing false) ∷ Some End ∷ Some NoCall ∷ Some NoCall ∷ []
unfolding le number row_of width_of marked kind widened shown shown_by element_at code_call call_at
of_one = refl

pub of_two : calls 2 (0x05 ∷ 0 ∷ 0 ∷ 0x80 ∷ 1 ∷ 0x80 ∷ 2 ∷ 0x80 ∷ 0xFF ∷ 0xFF ∷ []) ≡ Some (Allele 1 true) ∷ Some (Missing false) ∷ Some End ∷ Some NoCall ∷ Some NoCall ∷ []
unfolding le number row_of width_of marked kind widened shown shown_by element_at code_call call_at
of_two = refl

pub of_four : calls 3 (0x04 ∷ 0 ∷ 0 ∷ 0 ∷ 0 ∷ 0 ∷ 0 ∷ 0x80 ∷ 1 ∷ 0 ∷ 0 ∷ 0x80 ∷ 2 ∷ 0 ∷ 0 ∷ 0x80 ∷ []) ≡ Some (Allele 1 false) ∷ Some (Missing false) ∷ Some End ∷ Some NoCall ∷ None ∷ []
unfolding le number row_of width_of marked kind widened shown shown_by element_at code_call call_at
of_four = refl

-- text has no calls, whatever its bytes
pub of_text : calls 7 (0x05 ∷ 0x80 ∷ []) ≡ None ∷ None ∷ None ∷ None ∷ None ∷ []
unfolding le number row_of width_of marked kind widened shown shown_by element_at code_call call_at
of_text = refl

-- −1 and −32760 as they are shown; 7F800001 of a float stays its bits
pub of_integers : elements 2 (0xFF ∷ 0xFF ∷ 0x08 ∷ 0x80 ∷ []) ≡ Some (Integer (negsuc 0)) ∷ Some (Integer (negsuc 32759)) ∷ []
unfolding le number row_of width_of marked kind widened shown shown_by element_at
of_integers = refl

pub of_floats : elements 5 (0 ∷ 0 ∷ 0x80 ∷ 0x3F ∷ 1 ∷ 0 ∷ 0x80 ∷ 0x7F ∷ []) ≡ Some (Float 0x3F800000) ∷ Some (Float 0x7F800001) ∷ []
unfolding le number row_of width_of marked kind widened shown shown_by element_at
of_floats = refl
