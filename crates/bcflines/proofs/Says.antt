-- The line program's steps are those of a run, and what is said of a whole input is what is printed for it. Rests on frames and on runs.
use Rattle.std.proofs.Common.{◌≡◌, sym, ap, ◌∙◌, ℕ, ◌+◌, ◌<◌, Bool, true, false, List, [], ◌∷◌, append-nil, length, take, map, None, Some, arith}
use Rattle.std.specs.declared.option.Option.{Option}
use Rattle.lines.specs.Lines.{lines_of}
use Rattle.lines.specs.Pieces.{joined, LinesTaken}
use Rattle.lines.proofs.Pieces.{lines_taken_lem}
use Rattle.stores.specs.Stores.{fits}
use Rattle.std.proofs.lemmas.List.Edits.{sets}
use Rattle.words.specs.Pick.{pick}
use Rattle.frames.specs.Frames.{text_room}
use Rattle.frames.specs.Steps.{text_from, line_text, stage_after, end_text, stage_at_end, step_room, stepped, stepped_out, finished, finished_out, next, StepInside, ended}
use Rattle.frames.specs.Printed.{printed, StepsPrinted}
use Rattle.frames.specs.declared.Next.{Next}
use Rattle.frames.specs.declared.Stage.{Stage}
use Rattle.frames.specs.declared.Stage.TheVariants.{First, Records, Ended as IsOver}
use Rattle.frames.proofs.Steps.{steps_printed, text_ended}
use Rattle.runs.specs.Runs.{Stepped, Finished, Ended, said_of, Ran}
use Rattle.runs.proofs.Moves.{ran_as}

pub stepped_says : (frame waiting : ℕ) (out new line : List ℕ) (stage : Stage) (n : Next Stage) → stepped frame (length out) waiting stage line ≡ Some n
    → StepInside (length out) (Some n) → new ≡ stepped_out frame out waiting stage line
    → Stepped (text_from stage) (text_from n.stage) line out new waiting (Some n.waiting)
unfolding stepped stepped_out text_from
stepped_says frame waiting out new line stage n e i w = by-room (step_room frame (length out) waiting) e w
  where
    by-room : (b : Bool) → pick b (next (stage_after stage line) (waiting + length (line_text stage line))) None ≡ Some n
        → new ≡ pick b (sets out waiting (line_text stage line)) out → Stepped (text_from stage) (text_from n.stage) line out new waiting (Some n.waiting)
    by-room true k v =
        let s : stage_after stage line ≡ n.stage = cc in
        let m : waiting + length (line_text stage line) ≡ n.waiting = cc in
        (line_text stage line, (omega (arith, m, i), sym m, v), λ ls. rw s)
    by-room false k v = absurd (cc)

pub finished_says : (waiting : ℕ) (out new : List ℕ) (stage : Stage) (n : Next Stage) → finished (length out) waiting stage ≡ Some n
    → StepInside (length out) (Some n) → new ≡ finished_out out waiting stage → Finished (text_from stage) out new waiting (Some n.waiting)
unfolding finished finished_out text_from
finished_says waiting out new stage n e i w = by-room (fits (length out) waiting text_room) e w
  where
    by-room : (b : Bool) → pick b (next (stage_at_end stage) (waiting + length (end_text stage))) None ≡ Some n
        → new ≡ pick b (sets out waiting (end_text stage)) out → Finished (text_from stage) out new waiting (Some n.waiting)
    by-room true k v =
        let m : waiting + length (end_text stage) ≡ n.waiting = cc in
        (omega (arith, m, i), sym m, v)
    by-room false k v = absurd (cc)

pub ended_says : (stage : Stage) → Ended (text_from stage) (ended stage)
ended_says First = tt
ended_says (Records f) = tt
ended_says IsOver = text_ended

-- what is said of an input's lines, cut to a buffer that is longer than any good line, is what is printed
said_printed : (line input : List ℕ) → 60000 < length line → said_of (text_from First) (length line) input ≡ printed input
unfolding StepsPrinted LinesTaken joined
said_printed line input h =
    let one : joined (input ∷ []) ≡ input = append-nil input in
    let few : length (joined (input ∷ [])) + 1 < length input + 2 = rw one (omega arith) in
    ap (λ x. text_from First (map (take (length line)) (lines_of x))) (sym one)
    ∙ ap (text_from First) (sym (lines_taken_lem (length input + 2) line (input ∷ []) (omega arith) few))
    ∙ steps_printed (length input + 2) line (input ∷ []) h few
    ∙ ap printed one

pub ran_printed : (line : List ℕ) (b : Bool) (r c d : Option (List ℕ)) → 60000 < length line → Ran (said_of (text_from First) (length line)) r c d b
    → Ran printed r c d b
ran_printed line b r c d h ran = ran_as (said_of (text_from First) (length line)) printed b r c d (λ xs. said_printed line xs h) ran
