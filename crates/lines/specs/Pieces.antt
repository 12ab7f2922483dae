-- The lines of an input that comes in pieces, taken one after the other. Rests on specs/Lines.
use Rattle.std.specs.Prelude.{◌≡◌, ℕ, zero, suc, ◌+◌, ◌<◌, List, [], ◌∷◌, ◌++◌, map, length, take}
use Rattle.lines.specs.Lines.{lines_of, taken, taken_into}
use Rattle.lines.specs.declared.Taken.{Taken}
use Rattle.lines.specs.declared.Taken.TheVariants.{Line, Part}

-- the pieces as the one input that they are
unfoldable pub joined : List (List ℕ) → List ℕ
joined [] = []
joined (p ∷ ps) = p ++ joined ps

-- the bytes that are held at the input's end are a last line, if there are any
abbrev pub last_line : List ℕ → List (List ℕ)
last_line [] = []
last_line (c ∷ cs) = (c ∷ cs) ∷ []

-- after a turn: a line is there, and the next is taken where it ended; or the next piece goes on with what is held, or ends the input
abbrev pub after_turn : List ℕ → List ℕ → List (List ℕ) → (List ℕ → ℕ → List ℕ → ℕ → List (List ℕ) → List (List ℕ)) → Taken → List (List ℕ)
after_turn line piece pieces on (Line n next) = take n line ∷ on line 0 piece next pieces
after_turn line piece [] on (Part n) = last_line (take n line)
after_turn line piece (p ∷ ps) on (Part n) = on line n p 0 ps

-- the lines that are taken in so many turns: with a line's buffer and the number of bytes held in it, from a place of a piece, and from the
-- pieces that follow it
unfoldable pub lines_taken : ℕ → List ℕ → ℕ → List ℕ → ℕ → List (List ℕ) → List (List ℕ)
lines_taken zero line held piece at pieces = []
lines_taken (suc turns) line held piece at pieces =
    after_turn (taken_into line held piece at) piece pieces (lines_taken turns) (taken line held piece at)

-- the law of pieces: with a turn for each byte and each piece and one for the end, the lines taken one after the other from any division of an
-- input are those of the input, each as far as it has room in the line's buffer
unfoldable pub LinesTaken : Type 0
LinesTaken =
    (turns : ℕ) (line : List ℕ) (pieces : List (List ℕ)) → 0 < length line → length (joined pieces) + length pieces < turns
    → lines_taken turns line 0 [] 0 pieces ≡ map (take (length line)) (lines_of (joined pieces))
