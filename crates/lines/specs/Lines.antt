-- The lines of an input, and how they are taken from one that comes in pieces. Rests on nothing but the choice by a test.
use Rattle.std.specs.Prelude.{ℕ, suc, ◌+◌, ◌-◌, ◌≤◌, List, [], ◌∷◌, eqb, ltb, length, take, drop}
use Rattle.std.proofs.Math.Option.{Option, none, some}
use Rattle.std.proofs.lemmas.List.Edits.{sets}
use Rattle.words.specs.Pick.{pick}
use Rattle.lines.specs.declared.Taken.{Taken}
use Rattle.lines.specs.declared.Taken.TheVariants.{Line, Part}

-- a byte put in front of the first line, which begins with it where there is none yet
abbrev pub onto : ℕ → List (List ℕ) → List (List ℕ)
onto c [] = (c ∷ []) ∷ []
onto c (l ∷ ls) = (c ∷ l) ∷ ls

-- the lines of an input: a line ends with byte 0A or the input's end, and after the last 0A there is a further line only if bytes follow
unfoldable pub lines_of : List ℕ → List (List ℕ)
lines_of [] = []
lines_of (c ∷ cs) = let on = lines_of cs in pick (eqb c 0x0A) ([] ∷ on) (onto c on)

-- how many bytes stand before the first line feed, or before the end where there is none
unfoldable pub line_length : List ℕ → ℕ
line_length [] = 0
line_length (c ∷ cs) = let on = suc (line_length cs) in pick (eqb c 0x0A) 0 on

-- as much of a part as has room in a buffer from a place on
unfoldable pub fitting : List ℕ → ℕ → List ℕ → List ℕ
fitting buf at part = take (length buf - at) part

-- the bytes of a piece from a place on that belong to the line there, as far as they have room after those that are held
unfoldable pub added : List ℕ → ℕ → List ℕ → ℕ → List ℕ
added line held piece at = fitting line held (take (line_length (drop at piece)) (drop at piece))

-- what is taken after so many held bytes from a place of a piece on: a line of so many bytes, and the place after its feed; or, where the
-- piece ends before the line does, so many bytes that are held then
unfoldable pub taken : List ℕ → ℕ → List ℕ → ℕ → Taken
taken line held piece at =
    let end = at + line_length (drop at piece) in
    let count = held + length (added line held piece at) in
    pick (ltb end (length piece)) (Line count (end + 1)) (Part count)

-- the line's buffer then
unfoldable pub taken_into : List ℕ → ℕ → List ℕ → ℕ → List ℕ
taken_into line held piece at = sets line held (added line held piece at)

-- the bytes that are told stand in the line's buffer, and the place after a line lies in the piece or at its end
abbrev pub TakenInside : ℕ → ℕ → Taken → Type 0
TakenInside room end (Line n next) = (n ≤ room) × (next ≤ end)
TakenInside room end (Part n) = n ≤ room

-- what is taken, in numbers: how many bytes of the line are there, and the place after its feed, or none
abbrev pub taken_told : Taken → ℕ × Option ℕ
taken_told (Line n next) = (n, some next)
taken_told (Part n) = (n, none)
