-- The line program's step: what a line, and the end of the input, add to the text that waits, and where the input stands then. Rests on specs/Frames.
use Rattle.std.specs.Prelude.{ℕ, ◌+◌, ◌≤◌, List, [], ◌∷◌, ◌++◌, Bool, true, false, ltb, length}
use Rattle.std.proofs.lemmas.List.Edits.{sets}
use Rattle.words.specs.Pick.{pick}
use Rattle.stores.specs.Stores.{fits}
use Rattle.hexadecimal.specs.Hexadecimal.{facts_of, frame_of, stored}
use Rattle.std.specs.Prelude.{Option as StdOption, Some, None}
use Rattle.facts.specs.declared.Facts.{Facts}
use Rattle.frames.specs.Text.{bad_line}
use Rattle.frames.specs.Frames.{answer_line, text_room}
use Rattle.frames.specs.declared.Stage.{Stage}
use Rattle.frames.specs.declared.Stage.TheVariants.{First, Records, Ended}
use Rattle.frames.specs.declared.Next.{Next}

-- where the input stands after its first line, and what that line adds: records follow the facts; a line that isn't 32 digits is `bad` and ends it
abbrev pub stage_opened : StdOption Facts → Stage
stage_opened (Some f) = Records f
stage_opened None = Ended

abbrev pub text_opened : StdOption Facts → List ℕ
text_opened (Some f) = []
text_opened None = bad_line

-- the same of any line, by where the input stands before it
unfoldable pub stage_after : Stage → List ℕ → Stage
stage_after First line = stage_opened (facts_of line)
stage_after (Records f) line = Records f
stage_after Ended line = Ended

unfoldable pub line_text : Stage → List ℕ → List ℕ
line_text First line = text_opened (facts_of line)
line_text (Records f) line = answer_line f line
line_text Ended line = []

-- and of the end of the input: a first line that is absent is `bad`
unfoldable pub stage_at_end : Stage → Stage
stage_at_end First = Ended
stage_at_end (Records f) = Records f
stage_at_end Ended = Ended

unfoldable pub end_text : Stage → List ℕ
end_text First = bad_line
end_text (Records f) = []
end_text Ended = []

-- a bad or absent first line has ended it
abbrev pub ended : Stage → Bool
ended First = false
ended (Records f) = false
ended Ended = true

-- the texts of all the steps over some lines
unfoldable pub text_from : Stage → List (List ℕ) → List ℕ
text_from stage [] = end_text stage
text_from stage (l ∷ ls) = line_text stage l ++ text_from (stage_after stage l) ls

-- the longest record that a line holds
abbrev pub frame_room : ℕ
frame_room = 30000

-- whether any record has room in its buffer, and any answer after the text that waits
unfoldable pub step_room : ℕ → ℕ → ℕ → Bool
step_room frame out waiting = pick (ltb frame frame_room) false (fits out waiting text_room)

-- after a line: where the input stands then, and how much text waits
abbrev pub next : {S : Type 0} → S → ℕ → StdOption (Next S)
next s n = Some (record { stage = s; waiting = n })

-- what is answered to a line, and the buffers then: its text behind what waits, and a record's bytes in their own; nothing where one is too short
unfoldable pub stepped : ℕ → ℕ → ℕ → Stage → List ℕ → StdOption (Next Stage)
stepped frame out waiting stage line =
    pick (step_room frame out waiting) (next (stage_after stage line) (waiting + length (line_text stage line))) None

unfoldable pub stepped_out : ℕ → List ℕ → ℕ → Stage → List ℕ → List ℕ
stepped_out frame out waiting stage line = pick (step_room frame (length out) waiting) (sets out waiting (line_text stage line)) out

abbrev pub frame_after : List ℕ → Stage → List ℕ → List ℕ
frame_after frame First line = frame
frame_after frame (Records f) line = stored frame (frame_of line)
frame_after frame Ended line = frame

unfoldable pub stepped_frame : List ℕ → ℕ → ℕ → Stage → List ℕ → List ℕ
stepped_frame frame out waiting stage line = pick (step_room (length frame) out waiting) (frame_after frame stage line) frame

-- what is answered to the end of the input, and the buffer then
unfoldable pub finished : ℕ → ℕ → Stage → StdOption (Next Stage)
finished out waiting stage = pick (fits out waiting text_room) (next (stage_at_end stage) (waiting + length (end_text stage))) None

unfoldable pub finished_out : List ℕ → ℕ → Stage → List ℕ
finished_out out waiting stage = pick (fits (length out) waiting text_room) (sets out waiting (end_text stage)) out

-- the text that waits lies in its buffer
abbrev pub StepInside : {S : Type 0} → ℕ → StdOption (Next S) → Type 0
StepInside end (Some n) = n.waiting ≤ end
StepInside end None = Unit {0}

-- a step in 01's terms, its number and its value: number 0 and how much text waits; 13 at place 0 where a buffer is too short
abbrev pub step_told : {S : Type 0} → StdOption (Next S) → ℕ × ℕ
step_told (Some n) = (0, n.waiting)
step_told None = (13, 0)
