-- The answers of this crate in 01's terms: for each case of each enum its number and its values; places are 0. Rests on nothing.
use Rattle.std.specs.Prelude.{ℕ, Option, None, Some, List, [], ◌∷◌, Bool, true, false, negsuc}
use Rattle.std.specs.Int.{w32}
use Rattle.std.proofs.Common.{of_z}
use Rattle.elements.specs.declared.Shown.{Shown}
use Rattle.elements.specs.declared.Shown.TheVariants.{Integer, Float, Text}
use Rattle.elements.specs.declared.Call.{Call}
use Rattle.elements.specs.declared.Call.TheVariants.{Allele, Missing, End, NoCall}

-- an element that is shown: 16 where there is none, else 0 and its 32 bits
abbrev pub shown_number : Option Shown → ℕ
shown_number (Some (Integer z)) = 0
shown_number (Some (Float b)) = 0
shown_number (Some (Text b)) = 0
shown_number None = 16

abbrev pub shown_bits : Option Shown → ℕ
shown_bits (Some (Integer z)) = of_z w32 z
shown_bits (Some (Float b)) = b
shown_bits (Some (Text b)) = b
shown_bits None = 0

-- a call: 16 where there is none, 10 for a code that is none; else 0, and of an allele its number, with −1 for missing, as 32 bits, and 1 where it is
-- phased. An end of vector has no values
abbrev pub call_number : Option Call → ℕ
call_number (Some (Allele n p)) = 0
call_number (Some (Missing p)) = 0
call_number (Some End) = 0
call_number (Some NoCall) = 10
call_number None = 16

abbrev pub phase : Bool → ℕ
phase true = 1
phase false = 0

abbrev pub call_values : Option Call → List ℕ
call_values (Some (Allele n p)) = n ∷ phase p ∷ []
call_values (Some (Missing p)) = of_z w32 (negsuc 0) ∷ phase p ∷ []
call_values (Some End) = []
call_values (Some NoCall) = []
call_values None = []
