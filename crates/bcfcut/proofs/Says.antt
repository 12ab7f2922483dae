-- The cutting program's steps are those of a run, and what is said of a whole input is what is printed for it. Rests on cuts and on runs.
use Rattle.std.proofs.Common.{is_some, ◌≤◌, ◌≡◌, sym, ap, ◌∙◌, ℕ, ◌+◌, ◌<◌, Bool, true, false, List, [], ◌∷◌, append-nil, length, take, map, None, Some, arith}
use Rattle.std.specs.declared.option.Option.{Option}
use Rattle.lines.specs.Lines.{lines_of}
use Rattle.lines.specs.Pieces.{joined, LinesTaken}
use Rattle.lines.proofs.Pieces.{lines_taken_lem}
use Rattle.stores.specs.Stores.{fits}
use Rattle.std.proofs.lemmas.List.Edits.{sets}
use Rattle.words.specs.Pick.{pick}
use Rattle.cuts.specs.Cuts.{line_room}
use Rattle.frames.specs.Steps.{next, StepInside}
use Rattle.cuts.specs.Steps.{text_from, line_text, stage_after, choice_after, end_text, stage_at_end, stepped, stepped_out, finished, finished_out, ended}
use Rattle.cuts.specs.Printed.{printed, StepsPrinted}
use Rattle.frames.specs.declared.Next.{Next}
use Rattle.cuts.specs.declared.Stage.{Stage}
use Rattle.cuts.specs.declared.Stage.TheVariants.{First, Choice, Records, BadFirst, BadChoice}
use Rattle.cuts.proofs.Steps.{steps_printed, text_first_bad, text_choice_bad}
use Rattle.runs.specs.Runs.{Stepped, Finished, Ended, said_of, Ran}
use Rattle.runs.proofs.Moves.{ran_as}

pub stepped_says : (room : Bool) (waiting : ℕ) (out new choice then line : List ℕ) (stage : Stage) (n : Next Stage)
    → stepped room waiting choice stage line ≡ Some n → StepInside (length out) (Some n) → new ≡ stepped_out room waiting out choice stage line
    → then ≡ pick room (choice_after choice stage line) choice
    → Stepped (text_from choice stage) (text_from then n.stage) line out new waiting (Some n.waiting)
unfolding stepped stepped_out text_from
stepped_says true waiting out new choice then line stage n e i w t =
    let s : stage_after stage line ≡ n.stage = cc in
    let m : waiting + length (line_text choice stage line) ≡ n.waiting = cc in
    (line_text choice stage line, (omega (arith, m, i), sym m, w), λ ls. rw (s, t))
stepped_says false waiting out new choice then line stage n e i w t = absurd (cc)

pub finished_says : (waiting : ℕ) (out new choice : List ℕ) (stage : Stage) (n : Next Stage) → finished (length out) waiting stage ≡ Some n
    → StepInside (length out) (Some n) → new ≡ finished_out out waiting stage → Finished (text_from choice stage) out new waiting (Some n.waiting)
unfolding finished finished_out text_from
finished_says waiting out new choice stage n e i w = by-room (fits (length out) waiting line_room) e w
  where
    by-room : (b : Bool) → pick b (next (stage_at_end stage) (waiting + length (end_text stage))) None ≡ Some n
        → new ≡ pick b (sets out waiting (end_text stage)) out → Finished (text_from choice stage) out new waiting (Some n.waiting)
    by-room true k v =
        let m : waiting + length (end_text stage) ≡ n.waiting = cc in
        (omega (arith, m, i), sym m, v)
    by-room false k v = absurd (cc)

pub ended_says : (choice : List ℕ) (stage : Stage) (b : Bool) → b ≡ is_some (ended stage) → Ended (text_from choice stage) b
ended_says choice First b e = rw e tt
ended_says choice (Choice f) b e = rw e tt
ended_says choice (Records f n) b e = rw e tt
ended_says choice BadFirst b e = rw e (text_first_bad choice)
ended_says choice BadChoice b e = rw e (text_choice_bad choice)

-- what is said of an input's lines, cut to a buffer that is longer than any good line, is what is printed
said_printed : (line choice input : List ℕ) → 240000 < length line → 30000 ≤ length choice → said_of (text_from choice First) (length line) input ≡ printed input
unfolding StepsPrinted LinesTaken joined
said_printed line choice input h k =
    let one : joined (input ∷ []) ≡ input = append-nil input in
    let few : length (joined (input ∷ [])) + 1 < length input + 2 = rw one (omega arith) in
    ap (λ x. text_from choice First (map (take (length line)) (lines_of x))) (sym one)
    ∙ ap (text_from choice First) (sym (lines_taken_lem (length input + 2) line (input ∷ []) (omega arith) few))
    ∙ steps_printed (length input + 2) line choice (input ∷ []) h k few
    ∙ ap printed one

pub ran_printed : (line choice : List ℕ) (b : Bool) (r c d : Option (List ℕ)) → 240000 < length line → 30000 ≤ length choice → Ran (said_of (text_from choice First) (length line)) r c d b
    → Ran printed r c d b
ran_printed line choice b r c d h k ran = ran_as (said_of (text_from choice First) (length line)) printed b r c d (λ xs. said_printed line choice xs h k) ran
