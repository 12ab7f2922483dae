-- The elements of a part, by index: how each is shown, and what a code of GT says. Rests on types, and on the language's own reading of 32 bits as a
-- signed number.
use Rattle.std.specs.Prelude.{ℕ, Option, None, Some, ◌-◌, ◌*◌, ◌/◌, ◌%◌, List, false, leb, eqb, ℤ, pos, negsuc, length, drop}
use Rattle.std.specs.Int.{w32}
use Rattle.std.proofs.Common.{to_z, of_z}
use Rattle.words.specs.Pick.{pick}
use Rattle.words.specs.Words.{number}
use Rattle.types.specs.Rows.{width_of}
use Rattle.types.specs.Elements.{kind, shown}
use Rattle.types.specs.declared.Element.{Element}
use Rattle.types.specs.declared.Element.TheVariants.{Plain, Missing as MissingMark, End as EndMark, Reserved}
use Rattle.elements.specs.declared.Shown.{Shown}
use Rattle.elements.specs.declared.Shown.TheVariants.{Integer, Float, Text}
use Rattle.elements.specs.declared.Call.{Call}
use Rattle.elements.specs.declared.Call.TheVariants.{Allele, Missing, End, NoCall}

-- how many whole elements of type t a part has, and the number of the one at an index
abbrev pub count_in : ℕ → List ℕ → ℕ
count_in t l = length l / width_of t

abbrev pub number_at : ℕ → ℕ → List ℕ → ℕ
number_at t i l = number (width_of t) (drop (i * width_of t) l)

-- what the 32 bits of an element say, by its type: of an integer the signed number that they are, of a float the bits, of text the byte
unfoldable pub shown_by : ℕ → ℕ → Shown
shown_by t b = pick (eqb t 5) (Float b) (pick (eqb t 7) (Text b) (Integer (to_z w32 b)))

-- the element at an index, as it is shown; none past the last one
unfoldable pub element_at : ℕ → ℕ → List ℕ → Option Shown
element_at t i l = pick (leb (count_in t l) i) None (Some (shown_by t (shown t (number_at t i l))))

-- a code v of 0 or more is phased when odd; its allele is (v / 2, rounded down) − 1, with −1 for missing. A negative one is no call
unfoldable pub code_call : ℤ → Call
code_call (pos v) = pick (eqb (v / 2) 0) (Missing (eqb (v % 2) 1)) (Allele (v / 2 - 1) (eqb (v % 2) 1))
code_call (negsuc n) = NoCall

-- by what the number is among the marks: the missing mark is one missing allele, unphased; a reserved number is no call
abbrev pub call_of : Element → ℤ → Call
call_of EndMark z = End
call_of MissingMark z = Missing false
call_of Plain z = code_call z
call_of Reserved z = NoCall

-- an integer that GT shows
abbrev pub integer_call : ℤ → Call
integer_call z = call_of (kind 3 (of_z w32 z)) z

-- GT has type 1, 2 or 3, so a part of floats or of text has no calls; a number of any width is shown with the marks of type 3
abbrev pub call_shown : Shown → Option Call
call_shown (Integer z) = Some (integer_call z)
call_shown (Float b) = None
call_shown (Text b) = None

-- the call at an index: what the shown element says
abbrev pub call_in : Option Shown → Option Call
call_in None = None
call_in (Some e) = call_shown e

unfoldable pub call_at : ℕ → ℕ → List ℕ → Option Call
call_at t i l = call_in (element_at t i l)
