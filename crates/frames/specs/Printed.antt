-- What the line program prints for a whole input. Rests on lines for the input's lines, and on specs/Frames for the answer to each.
use Rattle.std.specs.Prelude.{◌≡◌, ℕ, ◌+◌, ◌<◌, List, [], ◌∷◌, ◌++◌, length}
use Rattle.lines.specs.Lines.{lines_of}
use Rattle.lines.specs.Pieces.{joined, lines_taken}
use Rattle.hexadecimal.specs.Hexadecimal.{facts_of}
use Rattle.std.specs.Prelude.{Option as StdOption, Some, None}
use Rattle.facts.specs.declared.Facts.{Facts}
use Rattle.frames.specs.Text.{bad_line}
use Rattle.frames.specs.Frames.{answer_line}
use Rattle.frames.specs.Steps.{text_from}
use Rattle.frames.specs.declared.Stage.TheVariants.{First}

-- an answer for each line
unfoldable pub answers : Facts → List (List ℕ) → List ℕ
answers f [] = []
answers f (l ∷ ls) = answer_line f l ++ answers f ls

-- of any line program, by what it prints for the lines after the facts: a first line that is absent or isn't 32 digits prints `bad` and ends it
abbrev pub after_first : (Facts → List (List ℕ) → List ℕ) → StdOption Facts → List (List ℕ) → List ℕ
after_first rest None ls = bad_line
after_first rest (Some f) ls = rest f ls

abbrev pub printed_lines : (Facts → List (List ℕ) → List ℕ) → List (List ℕ) → List ℕ
printed_lines rest [] = bad_line
printed_lines rest (l ∷ ls) = after_first rest (facts_of l) ls

-- the line program's: then an answer for each line
unfoldable pub printed : List ℕ → List ℕ
printed input = printed_lines answers (lines_of input)

-- the law of the line program: the texts of its steps over the lines of any division of an input, taken into a buffer that is longer than any good
-- line, are what is printed for the input
unfoldable pub StepsPrinted : Type 0
StepsPrinted =
    (turns : ℕ) (line : List ℕ) (pieces : List (List ℕ)) → 60000 < length line → length (joined pieces) + length pieces < turns
    → text_from First (lines_taken turns line 0 [] 0 pieces) ≡ printed (joined pieces)
