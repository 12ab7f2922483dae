-- The cutting program's step: what a line, and the end of the input, add to the text that waits, and where the input stands then. Rests on specs/Cuts
-- and Release.
use Rattle.std.specs.Prelude.{ℕ, ◌+◌, List, [], ◌∷◌, ◌++◌, Bool, false, ltb, length, take}
use Rattle.std.proofs.Math.Option.{Option, none, some}
use Rattle.std.proofs.lemmas.List.Edits.{sets}
use Rattle.words.specs.Pick.{pick}
use Rattle.stores.specs.Stores.{fits}
use Rattle.hexadecimal.specs.Hexadecimal.{facts_of, choice_of, frame_of, stored}
use Rattle.std.specs.Prelude.{Option as StdOption, Some, None}
use Rattle.facts.specs.declared.Facts.{Facts}
use Rattle.frames.specs.Text.{bad_line}
use Rattle.cuts.specs.Cuts.{cut_line, kept_frame, record_room, line_room}
use Rattle.cuts.specs.Release.{release_line}
use Rattle.cuts.specs.declared.Stage.{Stage}
use Rattle.cuts.specs.declared.Stage.TheVariants.{First, Choice, Records, BadFirst, BadChoice}
use Rattle.cuts.specs.declared.BadLine.{BadLine}
use Rattle.cuts.specs.declared.BadLine.TheVariants.{First as FirstLine, Second as SecondLine}
use Rattle.frames.specs.Steps.{next}
use Rattle.frames.specs.declared.Next.{Next}

-- where the input stands after its first line, and what that line adds: a choice follows the facts; a line that isn't 32 digits is `bad` and ends it
abbrev pub stage_opened : StdOption Facts → Stage
stage_opened (Some f) = Choice f
stage_opened None = BadFirst

abbrev pub text_opened : StdOption Facts → List ℕ
text_opened (Some f) = []
text_opened None = bad_line

-- the same of the second line: records follow the choice, after the release's first line; a line that is no choice is `bad` and ends it
abbrev pub stage_chosen : Facts → Option (List ℕ) → Stage
stage_chosen f none = BadChoice
stage_chosen f (some cs) = Records f (length cs)

abbrev pub text_chosen : Facts → Option (List ℕ) → List ℕ
text_chosen f none = bad_line
text_chosen f (some cs) = release_line f (length cs)

-- the same of any line, by where the input stands before it, and by the people of the choice, who stand at the start of their buffer
unfoldable pub stage_after : Stage → List ℕ → Stage
stage_after First line = stage_opened (facts_of line)
stage_after (Choice f) line = stage_chosen f (choice_of line)
stage_after (Records f n) line = Records f n
stage_after BadFirst line = BadFirst
stage_after BadChoice line = BadChoice

unfoldable pub line_text : List ℕ → Stage → List ℕ → List ℕ
line_text choice First line = text_opened (facts_of line)
line_text choice (Choice f) line = text_chosen f (choice_of line)
line_text choice (Records f n) line = cut_line f (take n choice) line
line_text choice BadFirst line = []
line_text choice BadChoice line = []

-- the buffers after it: the people of a choice, a record's bytes and those of the chosen record, each at the start of its own
unfoldable pub choice_after : List ℕ → Stage → List ℕ → List ℕ
choice_after choice First line = choice
choice_after choice (Choice f) line = stored choice (choice_of line)
choice_after choice (Records f n) line = choice
choice_after choice BadFirst line = choice
choice_after choice BadChoice line = choice

unfoldable pub frame_after : List ℕ → Stage → List ℕ → List ℕ
frame_after frame First line = frame
frame_after frame (Choice f) line = frame
frame_after frame (Records f n) line = stored frame (frame_of line)
frame_after frame BadFirst line = frame
frame_after frame BadChoice line = frame

unfoldable pub chosen_after : List ℕ → List ℕ → Stage → List ℕ → List ℕ
chosen_after choice chosen First line = chosen
chosen_after choice chosen (Choice f) line = chosen
chosen_after choice chosen (Records f n) line = kept_frame f (take n choice) chosen (frame_of line)
chosen_after choice chosen BadFirst line = chosen
chosen_after choice chosen BadChoice line = chosen

-- the end of the input: a first or second line that is absent is `bad`
unfoldable pub stage_at_end : Stage → Stage
stage_at_end First = BadFirst
stage_at_end (Choice f) = BadChoice
stage_at_end (Records f n) = Records f n
stage_at_end BadFirst = BadFirst
stage_at_end BadChoice = BadChoice

unfoldable pub end_text : Stage → List ℕ
end_text First = bad_line
end_text (Choice f) = bad_line
end_text (Records f n) = []
end_text BadFirst = []
end_text BadChoice = []

-- a bad or absent line has ended it: the first, or the second
abbrev pub ended : Stage → StdOption BadLine
ended First = None
ended (Choice f) = None
ended (Records f n) = None
ended BadFirst = Some FirstLine
ended BadChoice = Some SecondLine

-- the texts of all the steps over some lines
unfoldable pub text_from : List ℕ → Stage → List (List ℕ) → List ℕ
text_from choice stage [] = end_text stage
text_from choice stage (l ∷ ls) = line_text choice stage l ++ text_from (choice_after choice stage l) (stage_after stage l) ls

-- the people of the choice that the stage counts
abbrev pub people_of : Stage → ℕ
people_of First = 0
people_of (Choice f) = 0
people_of (Records f n) = n
people_of BadFirst = 0
people_of BadChoice = 0

-- whether any choice has room in its buffer, and the one that is counted lies there; and any record in the two that hold one, and any answer after the
-- text that waits
unfoldable pub step_room : ℕ → ℕ → ℕ → ℕ → ℕ → Stage → Bool
step_room choice frame chosen out waiting stage =
    pick (ltb choice 30000) false
    (pick (ltb choice (people_of stage)) false
    (pick (ltb frame record_room) false
    (pick (ltb chosen record_room) false
    (fits out waiting line_room))))

-- what is answered to a line, and each buffer then; nothing is stored where one is too short
unfoldable pub stepped : Bool → ℕ → List ℕ → Stage → List ℕ → StdOption (Next Stage)
stepped room waiting choice stage line = pick room (next (stage_after stage line) (waiting + length (line_text choice stage line))) None

unfoldable pub stepped_out : Bool → ℕ → List ℕ → List ℕ → Stage → List ℕ → List ℕ
stepped_out room waiting out choice stage line = pick room (sets out waiting (line_text choice stage line)) out

-- what is answered to the end of the input, and the buffer then
unfoldable pub finished : ℕ → ℕ → Stage → StdOption (Next Stage)
finished out waiting stage = pick (fits out waiting line_room) (next (stage_at_end stage) (waiting + length (end_text stage))) None

unfoldable pub finished_out : List ℕ → ℕ → Stage → List ℕ
finished_out out waiting stage = pick (fits (length out) waiting line_room) (sets out waiting (end_text stage)) out
