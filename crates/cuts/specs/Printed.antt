-- What the cutting program prints for a whole input. Rests on lines for the input's lines, on frames for the first of them, and on specs/Cuts and
-- Release for what is said of the others.
use Rattle.std.specs.Prelude.{◌≡◌, ℕ, ◌+◌, ◌<◌, ◌≤◌, List, [], ◌∷◌, ◌++◌, length}
use Rattle.std.proofs.Math.Option.{Option, none, some}
use Rattle.lines.specs.Lines.{lines_of}
use Rattle.lines.specs.Pieces.{joined, lines_taken}
use Rattle.hexadecimal.specs.Hexadecimal.{choice_of}
use Rattle.facts.specs.declared.Facts.{Facts}
use Rattle.frames.specs.Text.{bad_line}
use Rattle.frames.specs.Printed.{printed_lines}
use Rattle.cuts.specs.Cuts.{cut_line}
use Rattle.cuts.specs.Release.{release_line}
use Rattle.cuts.specs.Steps.{text_from}
use Rattle.cuts.specs.declared.Stage.TheVariants.{First}

-- an answer for each line
unfoldable pub answers : Facts → List ℕ → List (List ℕ) → List ℕ
answers f cs [] = []
answers f cs (l ∷ ls) = cut_line f cs l ++ answers f cs ls

-- a second line that is absent or no choice prints `bad` and ends it; else the release's first line, then an answer for each line
abbrev pub after_choice : Facts → Option (List ℕ) → List (List ℕ) → List ℕ
after_choice f none ls = bad_line
after_choice f (some cs) ls = release_line f (length cs) ++ answers f cs ls

abbrev pub with_facts : Facts → List (List ℕ) → List ℕ
with_facts f [] = bad_line
with_facts f (l ∷ ls) = after_choice f (choice_of l) ls

unfoldable pub printed : List ℕ → List ℕ
printed input = printed_lines with_facts (lines_of input)

-- the law of the cutting program: the texts of its steps over the lines of any division of an input, taken into a buffer that is longer than any good
-- line, with room for any choice, are what is printed for the input
unfoldable pub StepsPrinted : Type 0
StepsPrinted =
    (turns : ℕ) (line choice : List ℕ) (pieces : List (List ℕ)) → 240000 < length line → 30000 ≤ length choice
    → length (joined pieces) + length pieces < turns
    → text_from choice First (lines_taken turns line 0 [] 0 pieces) ≡ printed (joined pieces)
