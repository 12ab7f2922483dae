-- The run's own words, which no public promise cites: what is still to be written, and what a part of the run moves from there into the writer.
-- Rests on specs/Runs.
use Rattle.std.specs.Prelude.{◌≡◌, ℕ, List, ◌∷◌, ◌++◌, length, take, drop, None, Some}
use Rattle.std.specs.Io.KnownBytes.{Appends}
use Rattle.std.specs.declared.option.Option.{Option}
use Rattle.runs.specs.Runs.{said_of}
use Rattle.runs.specs.declared.Kept.{Kept}

-- what is still to be written where the input has these bytes: the text that waits, and what is said of what is held and of these bytes
abbrev pub left : (List (List ℕ) → List ℕ) → List ℕ → List ℕ → Kept → List ℕ → List ℕ
left says line out kept more = take kept.waiting out ++ said_of says (length line) (take kept.held line ++ more)

-- the same where these are what is left of a piece, and bytes that come after it
abbrev pub left_in : (List (List ℕ) → List ℕ) → List ℕ → List ℕ → ℕ → ℕ → List ℕ → ℕ → List ℕ → List ℕ
left_in says line out held waiting piece at more = take waiting out ++ said_of says (length line) (take held line ++ (drop at piece ++ more))

-- a line is answered: its text waits then, or is written with all that waited before it
abbrev pub Answered : (List (List ℕ) → List ℕ) → (List (List ℕ) → List ℕ) → List ℕ → List ℕ → List ℕ → Option (List ℕ) → Option (List ℕ) → Type 0
Answered before after line waited waits old new =
    (bs : List ℕ) × Appends old new bs × ((ls : List (List ℕ)) → waited ++ before (line ∷ ls) ≡ bs ++ (waits ++ after ls))

-- of what is still to be written some bytes are written, and the others are still to be, whatever the input has
abbrev pub Moved : (List ℕ → List ℕ) → (List ℕ → List ℕ) → Option (List ℕ) → Option (List ℕ) → Type 0
Moved before after old new = (bs : List ℕ) × Appends old new bs × ((more : List ℕ) → before more ≡ bs ++ after more)

-- the same of the bytes that the input had and has, where they are known
abbrev pub Comes : (List ℕ → List ℕ) → (List ℕ → List ℕ) → Option (List ℕ) → Option (List ℕ) → List ℕ → Type 0
Comes before after None had bs = Unit {0}
Comes before after (Some input) None bs = ⊥
Comes before after (Some input) (Some more) bs = before input ≡ bs ++ after more

abbrev pub Gone : (List ℕ → List ℕ) → (List ℕ → List ℕ) → Option (List ℕ) → Option (List ℕ) → Option (List ℕ) → Option (List ℕ) → Type 0
Gone before after input more old new = (bs : List ℕ) × Appends old new bs × Comes before after input more bs
