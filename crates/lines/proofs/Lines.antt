-- Where a line ends, as a search for its feed finds it, and what of a part fits. Rests on specs/Lines.
use mathlib.Core.Path.{◌≡◌}
use mathlib.Core.List.{List, [], ◌∷◌}
use Prim.Native.Nat.{ℕ, ◌+◌, ◌≤◌, ◌-◌, ◌<◌}
use native.Mathlib.Omega.{arith}
use mathlib.Core.Logic.{◌≢◌}
use native.Mathlib.Numerals.{add-one}
use borrow.Author.Tests.{eq-eqb, ne_eqb}
use lib.ListN.{length, drop, drop_of_length-le}
use Rattle.std.proofs.lemmas.Bool.Decides.{nat_tests}
use Rattle.lines.specs.Lines.{line_length, fitting}
use lib.Seq.{length-take-le, take_all}

pub line_here : (c : ℕ) (cs : List ℕ) → c ≡ 0x0A → line_length (c ∷ cs) ≡ 0
unfolding line_length
line_here c cs e = rw (eq-eqb c 0x0A e)

pub line_later : (c : ℕ) (cs : List ℕ) → c ≢ 0x0A → line_length (c ∷ cs) ≡ line_length cs + 1
unfolding line_length
line_later c cs e = rw (ne_eqb c 0x0A e, add-one)

pub length_end : (s : List ℕ) (at : ℕ) → length s ≤ at → line_length (drop at s) ≡ 0
unfolding line_length
length_end s at h = rw (drop_of_length-le s {i = at} h)

pub line_inside : (l : List ℕ) → line_length l ≤ length l
unfolding line_length
line_inside [] = omega arith
line_inside (c ∷ cs) = let on = line_inside cs in grind (arith, nat_tests)

-- a part of which none fits, one that is cut off, and one that fits
pub fitting_none : (buf : List ℕ) (at : ℕ) (part : List ℕ) → length buf < at → fitting buf at part ≡ []
unfolding fitting
fitting_none buf at part h = let z : length buf - at ≡ 0 = omega arith in rw z

pub fitting_all : (buf : List ℕ) (at : ℕ) (part : List ℕ) → length part ≤ length buf - at → fitting buf at part ≡ part
unfolding fitting
fitting_all buf at part h = take_all (length buf - at) part h

pub length_fitting : (buf : List ℕ) (at : ℕ) (part : List ℕ) → length buf - at < length part → length (fitting buf at part) ≡ length buf - at
unfolding fitting
length_fitting buf at part h = length-take-le (length buf - at) part (omega arith)
