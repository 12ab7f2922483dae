-- Where a step has room, its answer is there; and the texts of the steps over an input's lines are what is printed. Rests on specs/Steps and Printed.
use mathlib.Core.Path.{◌≡◌, refl, ap, ◌∙◌}
use mathlib.Core.List.{List, [], ◌∷◌, map}
use mathlib.Core.Bool.{Bool, true, false}
use mathlib.Core.Option.{Option, none, some}
use Prim.Native.Nat.{ℕ, ◌+◌, ◌-◌, ◌<◌, ◌≤◌}
use native.Mathlib.Omega.{arith}
use lib.Dec.{ltb}
use lib.ListN.{length, take, drop}
use lib.Seq.{sets}
use borrow.Author.Tests.{le-ltb, ltb-false}
use Rattle.words.specs.Pick.{pick}
use Rattle.frames.proofs.Behind.{part_room}
use Rattle.stores.specs.Stores.{fits}
use Rattle.stores.proofs.Room.{room_there}
use Rattle.lines.specs.Lines.{lines_of}
use Rattle.lines.specs.Pieces.{joined, LinesTaken}
use Rattle.lines.proofs.Pieces.{lines_taken_lem}
use Rattle.hexadecimal.specs.Hexadecimal.{facts_of, frame_of, stored}
use Rattle.std.specs.Prelude.{Option as StdOption, Some, None}
use Rattle.hexadecimal.proofs.Cut.{facts_cut, frame_cut}
use Rattle.hexadecimal.proofs.Rooms.{frame_most}
use Rattle.facts.specs.declared.Facts.{Facts}
use Rattle.frames.specs.Frames.{answer_line, framed, text_room, line_said, line_said_in, decoded}
use Rattle.frames.specs.Steps.{stage_after, line_text, end_text, text_from, frame_room, step_room}
use Rattle.frames.specs.Printed.{answers, after_first, printed_lines, printed, StepsPrinted}
use Rattle.frames.specs.declared.Stage.{Stage}
use Rattle.frames.specs.declared.Stage.TheVariants.{First, Records, Ended}

pub step_rooms : (frame out waiting : ℕ) → step_room frame out waiting ≡ true → (frame_room ≤ frame) × (waiting + text_room ≤ out)
unfolding step_room
step_rooms frame out waiting h = by-frame (ltb frame frame_room) refl h
  where
    by-frame : (b : Bool) → ltb frame frame_room ≡ b → pick b false (fits out waiting text_room) ≡ true
        → (frame_room ≤ frame) × (waiting + text_room ≤ out)
    by-frame true e k = let z : ◌≡◌ {A = ℕ} 0 1 = cc in absurd (omega arith)
    by-frame false e k = (ltb-false frame frame_room e, room_there out waiting text_room k)

-- any record has room in a buffer of 30,000 bytes
framed_there : {A : Type 0} (room : ℕ) (short there : A) (line : List ℕ) → frame_room ≤ room → framed room short there (frame_of line) ≡ there
framed_there room short there line h = by-frame (frame_of line) refl
  where
    by-frame : (o : Option (List ℕ)) → frame_of line ≡ o → framed room short there o ≡ there
    by-frame none e = refl
    by-frame (some bs) e =
        let m = frame_most line bs e in
        rw (le-ltb room (length bs) (omega (arith, m)))

pub said_there : (room : ℕ) (out : List ℕ) (f : Facts) (line : List ℕ) → frame_room ≤ room → text_room ≤ length out
    → line_said room (length out) f line ≡ Some (length (answer_line f line))
unfolding line_said
said_there room out f line h k = rw (le-ltb (length out) text_room k) (framed_there room _ (Some (length (answer_line f line))) line h)

pub said_in_there : (room : ℕ) (out : List ℕ) (f : Facts) (line : List ℕ) → frame_room ≤ room → text_room ≤ length out
    → line_said_in room out f line ≡ sets out 0 (answer_line f line)
unfolding line_said_in
said_in_there room out f line h k = rw (le-ltb (length out) text_room k) (framed_there room out (sets out 0 (answer_line f line)) line h)

pub decoded_there : (frame : List ℕ) (out : ℕ) (line : List ℕ) → text_room ≤ out → decoded frame out line ≡ stored frame (frame_of line)
unfolding decoded
decoded_there frame out line k = rw (le-ltb out text_room k)

-- the answer to a line, and its buffers, behind what waits
pub answer_behind : (frame out line : List ℕ) (w : ℕ) (f : Facts) → frame_room ≤ length frame → w + text_room ≤ length out
    → (line_said (length frame) (length (take (length out - w) (drop w out))) f line ≡ Some (length (answer_line f line)))
    × (line_said_in (length frame) (take (length out - w) (drop w out)) f line ≡ sets (take (length out - w) (drop w out)) 0 (answer_line f line))
    × (decoded frame (length (take (length out - w) (drop w out))) line ≡ stored frame (frame_of line))
answer_behind frame out line w f h k =
    let mid = take (length out - w) (drop w out) in
    let room : text_room ≤ length mid = part_room out w text_room k in
    (said_there (length frame) mid f line h room, said_in_there (length frame) mid f line h room, decoded_there frame (length mid) line room)

-- a line that is cut behind what it may have is answered as the whole line is
step_cut : (n : ℕ) (stage : Stage) (l : List ℕ) → 60000 < n
    → (line_text stage (take n l) ≡ line_text stage l) × (stage_after stage (take n l) ≡ stage_after stage l)
unfolding line_text stage_after answer_line
step_cut n First l h = let e = facts_cut n l (omega arith) in (rw e, rw e)
step_cut n (Records f) l h = (rw (frame_cut n l h), refl)
step_cut n Ended l h = (refl, refl)

text_cut : (n : ℕ) (stage : Stage) (ls : List (List ℕ)) → 60000 < n → text_from stage (map (take n) ls) ≡ text_from stage ls
unfolding text_from
text_cut n stage [] h = refl
text_cut n stage (l ∷ ls) h =
    let e = step_cut n stage l h in
    rw (e.0, e.1, text_cut n (stage_after stage l) ls h)

text_records : (f : Facts) (ls : List (List ℕ)) → text_from (Records f) ls ≡ answers f ls
unfolding text_from answers end_text line_text stage_after
text_records f [] = refl
text_records f (l ∷ ls) = rw (text_records f ls)

pub text_ended : (ls : List (List ℕ)) → text_from Ended ls ≡ []
unfolding text_from end_text line_text stage_after
text_ended [] = refl
text_ended (l ∷ ls) = text_ended ls

text_first : (ls : List (List ℕ)) → text_from First ls ≡ printed_lines answers ls
unfolding text_from end_text line_text stage_after
text_first [] = refl
text_first (l ∷ ls) = by-facts (facts_of l) refl
  where
    by-facts : (o : StdOption Facts) → facts_of l ≡ o → text_from First (l ∷ ls) ≡ after_first answers o ls
    by-facts (Some f) e = rw e (text_records f ls)
    by-facts None e = rw (e, text_ended ls)

pub steps_printed : StepsPrinted
unfolding StepsPrinted LinesTaken printed
steps_printed turns line pieces h k =
    ap (text_from First) (lines_taken_lem turns line pieces (omega arith) k)
    ∙ text_cut (length line) First (lines_of (joined pieces)) h
    ∙ text_first (lines_of (joined pieces))
