-- Where a step has room, its answer is there; and the texts of the steps over an input's lines are what is printed. Rests on specs/Steps and Printed.
use mathlib.Core.Path.{◌≡◌, refl, ap, ◌∙◌}
use mathlib.Core.List.{List, [], ◌∷◌, map}
use mathlib.Core.Bool.{Bool, true, false}
use mathlib.Core.Option.{Option, none, some}
use Prim.Native.Nat.{ℕ, ◌+◌, ◌-◌, ◌<◌, ◌≤◌}
use native.Mathlib.Omega.{arith}
use lib.Dec.{ltb}
use lib.ListN.{length, take, drop}
use lib.Seq.{sets}
use borrow.Author.Tests.{le-ltb, ltb-false}
use Rattle.words.specs.Pick.{pick}
use Rattle.stores.proofs.Room.{room_there}
use Rattle.lines.specs.Lines.{lines_of}
use Rattle.lines.specs.Pieces.{joined, LinesTaken}
use Rattle.lines.proofs.Pieces.{lines_taken_lem}
use Rattle.hexadecimal.specs.Hexadecimal.{facts_of, choice_of, frame_of, stored}
use Rattle.std.specs.Prelude.{Option as StdOption, Some, None}
use Rattle.hexadecimal.proofs.Cut.{facts_cut, frame_cut, choice_cut}
use Rattle.facts.specs.declared.Facts.{Facts}
use Rattle.frames.specs.Text.{bad_line}
use Rattle.frames.specs.Frames.{text_room, said, said_in}
use Rattle.frames.proofs.Behind.{part_room}
use Rattle.frames.specs.Printed.{after_first, printed_lines}
use Rattle.cuts.specs.Cuts.{record_room, line_room, roomy, cut_line, cut, cut_out, cut_from, cut_kept, kept_frame}
use Rattle.cuts.specs.Release.{release_line, release_said, release_said_in}
use Rattle.cuts.specs.Steps.{stage_after, line_text, choice_after, end_text, text_from, people_of, step_room}
use Rattle.cuts.specs.Printed.{answers, after_choice, with_facts, printed, StepsPrinted}
use Rattle.cuts.specs.declared.Stage.{Stage}
use Rattle.cuts.specs.declared.Stage.TheVariants.{First, Choice, Records, BadFirst, BadChoice}
use Rattle.cuts.proofs.Cuts.{stored_front}
use Rattle.cuts.proofs.Choices.{choice_most}

both : (b r : Bool) → pick b false r ≡ true → (b ≡ false) × (r ≡ true)
both true r k = (cc, cc)
both false r k = (refl, k)

pub step_rooms : (choice frame chosen out waiting : ℕ) (stage : Stage) → step_room choice frame chosen out waiting stage ≡ true
    → (30000 ≤ choice) × (people_of stage ≤ choice) × (record_room ≤ frame) × (record_room ≤ chosen) × (waiting + line_room ≤ out)
unfolding step_room
step_rooms choice frame chosen out waiting stage h =
    let one = both (ltb choice 30000) _ h in
    let two = both (ltb choice (people_of stage)) _ one.1 in
    let three = both (ltb frame record_room) _ two.1 in
    let four = both (ltb chosen record_room) _ three.1 in (
      ltb-false choice 30000 one.0,
      ltb-false choice (people_of stage) two.0,
      ltb-false frame record_room three.0,
      ltb-false chosen record_room four.0,
      room_there out waiting line_room four.1,
    )

pub roomy_there : (frame chosen out : List ℕ) → record_room ≤ length frame → record_room ≤ length chosen → line_room ≤ length out
    → roomy frame chosen out ≡ true
unfolding roomy
roomy_there frame chosen out f c o =
    rw (le-ltb (length frame) record_room f, le-ltb (length chosen) record_room c, le-ltb (length out) line_room o)

pub cut_there : (frame chosen out : List ℕ) (f : Facts) (cs line : List ℕ) → roomy frame chosen out ≡ true
    → (cut frame chosen out f cs line ≡ Some (length (cut_line f cs line))) × (cut_out frame chosen out f cs line ≡ sets out 0 (cut_line f cs line))
    × (cut_from frame chosen out line ≡ stored frame (frame_of line)) × (cut_kept frame chosen out f cs line ≡ kept_frame f cs chosen (frame_of line))
unfolding cut cut_out cut_from cut_kept
cut_there frame chosen out f cs line h = (rw h, rw h, rw h, rw h)

pub release_there : (out : List ℕ) (f : Facts) (people : ℕ) → line_room ≤ length out
    → (release_said (length out) f people ≡ Some (length (release_line f people))) × (release_said_in out f people ≡ sets out 0 (release_line f people))
unfolding release_said release_said_in
release_there out f people h = let e = le-ltb (length out) 33 (omega arith) in (rw e, rw e)

-- what is said of a line, of a choice and of a bad line behind what waits, and the buffers then
pub cut_behind : (frame chosen out : List ℕ) (w : ℕ) (f : Facts) (cs line : List ℕ) → record_room ≤ length frame → record_room ≤ length chosen
    → w + line_room ≤ length out
    → (cut frame chosen (take (length out - w) (drop w out)) f cs line ≡ Some (length (cut_line f cs line)))
    × (cut_out frame chosen (take (length out - w) (drop w out)) f cs line ≡ sets (take (length out - w) (drop w out)) 0 (cut_line f cs line))
    × (cut_from frame chosen (take (length out - w) (drop w out)) line ≡ stored frame (frame_of line))
    × (cut_kept frame chosen (take (length out - w) (drop w out)) f cs line ≡ kept_frame f cs chosen (frame_of line))
unfolding cut cut_out cut_from cut_kept roomy
cut_behind frame chosen out w f cs line a b h =
    let mid = take (length out - w) (drop w out) in
    let x = le-ltb (length frame) record_room a in
    let y = le-ltb (length chosen) record_room b in
    let z = le-ltb (length mid) line_room (part_room out w line_room h) in
    (rw (x, y, z), rw (x, y, z), rw (x, y, z), rw (x, y, z))

pub release_behind : (out : List ℕ) (w : ℕ) (f : Facts) (people : ℕ) → w + line_room ≤ length out
    → (release_said (length (take (length out - w) (drop w out))) f people ≡ Some (length (release_line f people)))
    × (release_said_in (take (length out - w) (drop w out)) f people ≡ sets (take (length out - w) (drop w out)) 0 (release_line f people))
unfolding release_said release_said_in
release_behind out w f people h =
    let e = le-ltb (length (take (length out - w) (drop w out))) 33 (omega (arith, part_room out w line_room h)) in
    (rw e, rw e)

pub bad_behind : (out : List ℕ) (w : ℕ) → w + line_room ≤ length out
    → (said (length (take (length out - w) (drop w out))) bad_line ≡ Some (length bad_line))
    × (said_in (take (length out - w) (drop w out)) bad_line ≡ sets (take (length out - w) (drop w out)) 0 bad_line)
unfolding said said_in
bad_behind out w h =
    let e = le-ltb (length (take (length out - w) (drop w out))) text_room (omega (arith, part_room out w line_room h)) in
    (rw e, rw e)

-- a line that is cut behind what it may have is answered as the whole line is
step_cut : (n : ℕ) (choice : List ℕ) (stage : Stage) (l : List ℕ) → 240000 < n
    → (line_text choice stage (take n l) ≡ line_text choice stage l) × (stage_after stage (take n l) ≡ stage_after stage l)
    × (choice_after choice stage (take n l) ≡ choice_after choice stage l)
unfolding line_text stage_after choice_after cut_line
step_cut n choice First l h = let e = facts_cut n l (omega arith) in (rw e, rw e, refl)
step_cut n choice (Choice f) l h = let e = choice_cut n l h in (rw e, rw e, rw e)
step_cut n choice (Records f k) l h = (rw (frame_cut n l (omega arith)), refl, refl)
step_cut n choice BadFirst l h = (refl, refl, refl)
step_cut n choice BadChoice l h = (refl, refl, refl)

text_cut : (n : ℕ) (choice : List ℕ) (stage : Stage) (ls : List (List ℕ)) → 240000 < n
    → text_from choice stage (map (take n) ls) ≡ text_from choice stage ls
unfolding text_from
text_cut n choice stage [] h = refl
text_cut n choice stage (l ∷ ls) h =
    let e = step_cut n choice stage l h in
    rw (e.0, e.1, e.2, text_cut n (choice_after choice stage l) (stage_after stage l) ls h)

text_records : (choice : List ℕ) (f : Facts) (k : ℕ) (ls : List (List ℕ)) → text_from choice (Records f k) ls ≡ answers f (take k choice) ls
unfolding text_from answers end_text line_text stage_after choice_after
text_records choice f k [] = refl
text_records choice f k (l ∷ ls) = rw (text_records choice f k ls)

pub text_first_bad : (choice : List ℕ) (ls : List (List ℕ)) → text_from choice BadFirst ls ≡ []
unfolding text_from end_text line_text stage_after choice_after
text_first_bad choice [] = refl
text_first_bad choice (l ∷ ls) = text_first_bad choice ls

pub text_choice_bad : (choice : List ℕ) (ls : List (List ℕ)) → text_from choice BadChoice ls ≡ []
unfolding text_from end_text line_text stage_after choice_after
text_choice_bad choice [] = refl
text_choice_bad choice (l ∷ ls) = text_choice_bad choice ls

-- the people of a choice stand at the start of their buffer
choice_front : (choice cs : List ℕ) → length cs ≤ 30000 → 30000 ≤ length choice → take (length cs) (stored choice (some cs)) ≡ cs
choice_front choice cs m h = rw (le-ltb (length choice) (length cs) (omega arith)) (stored_front choice cs (omega arith))

text_choice : (choice : List ℕ) (f : Facts) (ls : List (List ℕ)) → 30000 ≤ length choice → text_from choice (Choice f) ls ≡ with_facts f ls
unfolding text_from end_text line_text stage_after choice_after
text_choice choice f [] h = refl
text_choice choice f (l ∷ ls) h = by-choice (choice_of l) refl
  where
    by-choice : (o : Option (List ℕ)) → choice_of l ≡ o → text_from choice (Choice f) (l ∷ ls) ≡ after_choice f o ls
    by-choice none e = rw (e, text_choice_bad choice ls)
    by-choice (some cs) e =
        rw (e, text_records (stored choice (some cs)) f (length cs) ls, choice_front choice cs (choice_most l cs e) h)

text_first : (choice : List ℕ) (ls : List (List ℕ)) → 30000 ≤ length choice → text_from choice First ls ≡ printed_lines with_facts ls
unfolding text_from end_text line_text stage_after choice_after
text_first choice [] h = refl
text_first choice (l ∷ ls) h = by-facts (facts_of l) refl
  where
    by-facts : (o : StdOption Facts) → facts_of l ≡ o → text_from choice First (l ∷ ls) ≡ after_first with_facts o ls
    by-facts (Some f) e = rw e (text_choice choice f ls h)
    by-facts None e = rw (e, text_first_bad choice ls)

pub steps_printed : StepsPrinted
unfolding StepsPrinted LinesTaken printed
steps_printed turns line choice pieces h c k =
    ap (text_from choice First) (lines_taken_lem turns line pieces (omega arith) k)
    ∙ text_cut (length line) choice First (lines_of (joined pieces)) h
    ∙ text_first choice (lines_of (joined pieces)) c
