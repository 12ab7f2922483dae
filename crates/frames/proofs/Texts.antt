-- Numbers put one after the other are their text put. Rests on specs/Text and on decimal.
use mathlib.Core.Path.{◌≡◌, refl, sym, ◌∙◌}
use mathlib.Core.List.{List, [], ◌∷◌, ◌++◌, append_assoc, append-nil}
use Prim.Native.Nat.{ℕ, ◌+◌, ◌<◌, ◌≤◌}
use native.Mathlib.Omega.{arith}
use native.Mathlib.Numerals.{add-one}
use lib.ListN.{length, get_or, set, take, length-append}
use lib.Seq.{sets, take-suc}
use borrow.Author.Tests.{le-ltb}
use Rattle.words.proofs.Stores.{sets_append}
use Rattle.decimal.specs.Decimal.{decimal, placed}
use Rattle.std.specs.Prelude.{Some}
use Rattle.frames.specs.Text.{spaced, line}

-- a text that has room
pub placed_room : (room at : ℕ) (text : List ℕ) → at + length text ≤ room → placed room at text ≡ Some (at + length text)
unfolding placed
placed_room room at text h = rw (le-ltb _ _ h)

-- two runs of numbers
pub spaced_append : (xs ys : List ℕ) → spaced (xs ++ ys) ≡ spaced xs ++ spaced ys
unfolding spaced
spaced_append [] ys = refl
spaced_append (x ∷ xs) ys = rw (spaced_append xs ys, append_assoc (decimal x) (spaced xs) (spaced ys))

-- one number more, after a space
pub spaced_more : (ns : List ℕ) (i : ℕ) → i < length ns → spaced (take (i + 1) ns) ≡ spaced (take i ns) ++ (0x20 ∷ decimal (get_or ns i 0))
unfolding spaced
spaced_more ns i h =
    rw (add-one i, take-suc ns i 0 h, spaced_append (take i ns) (get_or ns i 0 ∷ []), append-nil (decimal (get_or ns i 0)))

-- a number stored after a space behind a text
pub number_stored : (out text digits : List ℕ) (from : ℕ)
    → sets (set (sets out from text) (from + length text) 0x20) (from + length text + 1) digits ≡ sets out from (text ++ (0x20 ∷ digits))
number_stored out text digits from = rw (add-one (from + length text)) (sym (sets_append text (0x20 ∷ digits) out from))

-- a line, stored piece by piece
pub line_stored : (out : List ℕ) (a b : ℕ) (xs ys : List ℕ)
    → sets out 0 (line a b (xs ++ ys))
    ≡ set (sets (sets (set (set out 0 a) 1 b) 2 (spaced xs)) (2 + length (spaced xs)) (spaced ys)) (2 + length (spaced xs) + length (spaced ys)) 0x0A
line_stored out a b xs ys =
    let o = set (set out 0 a) 1 b in
    rw (spaced_append xs ys, append_assoc (spaced xs) (spaced ys) (0x0A ∷ [])) (
    sets_append (spaced xs) (spaced ys ++ (0x0A ∷ [])) o 2
    ∙ sets_append (spaced ys) (0x0A ∷ []) (sets o 2 (spaced xs)) (2 + length (spaced xs))
    )

pub length_line : (a b : ℕ) (xs ys : List ℕ) → length (line a b (xs ++ ys)) ≡ 2 + length (spaced xs) + length (spaced ys) + 1
length_line a b xs ys =
    rw (spaced_append xs ys) (omega (arith, length-append (spaced xs ++ spaced ys) (0x0A ∷ []), length-append (spaced xs) (spaced ys)))
