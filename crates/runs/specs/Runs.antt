-- What a program says of an input's lines, how a step of it says its part, and what a whole run writes. Rests on lines.
use Rattle.std.specs.Prelude.{◌≡◌, ℕ, ◌+◌, ◌≤◌, Bool, true, false, List, [], ◌∷◌, ◌++◌, map, length, take, None, Some}
use Rattle.std.specs.Io.KnownBytes.{Appends}
use Rattle.std.specs.declared.option.Option.{Option}
use Rattle.std.proofs.lemmas.List.Edits.{sets}
use Rattle.lines.specs.Lines.{lines_of}

-- a step's text stands behind what waits, and so much waits then; nothing is said where a buffer is too short
abbrev pub Put : List ℕ → List ℕ → ℕ → List ℕ → ℕ → Type 0
Put old new waiting text n = (waiting + length text ≤ length old) × (n ≡ waiting + length text) × (new ≡ sets old waiting text)

-- the step of a line, by what is said of all lines to come before it and after it: what it puts is what is said of that line
abbrev pub Stepped : (List (List ℕ) → List ℕ) → (List (List ℕ) → List ℕ) → List ℕ → List ℕ → List ℕ → ℕ → Option ℕ → Type 0
Stepped before after line old new waiting None = Unit {0}
Stepped before after line old new waiting (Some n) =
    (text : List ℕ) × Put old new waiting text n × ((ls : List (List ℕ)) → before (line ∷ ls) ≡ text ++ after ls)

-- the step of the input's end: what it puts is what is said of no more lines
abbrev pub Finished : (List (List ℕ) → List ℕ) → List ℕ → List ℕ → ℕ → Option ℕ → Type 0
Finished says old new waiting None = Unit {0}
Finished says old new waiting (Some n) = Put old new waiting (says []) n

-- nothing more is said, whatever lines are still to come
abbrev pub Ended : (List (List ℕ) → List ℕ) → Bool → Type 0
Ended says true = (ls : List (List ℕ)) → says ls ≡ []
Ended says false = Unit {0}

-- what is said of an input: of its lines, each as far as it has room
abbrev pub said_of : (List (List ℕ) → List ℕ) → ℕ → List ℕ → List ℕ
said_of says room input = says (map (take room) (lines_of input))

-- a run that came to its end has written what is said of the input, where the reader tells what it has and the writer what it holds
abbrev pub Ran : (List ℕ → List ℕ) → Option (List ℕ) → Option (List ℕ) → Option (List ℕ) → Bool → Type 0
Ran printed input old new false = Unit {0}
Ran printed None old new true = Unit {0}
Ran printed (Some input) old new true = Appends old new (printed input)
