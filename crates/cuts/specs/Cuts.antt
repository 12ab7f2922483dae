-- The answer to a record's line where people are chosen, the whole text of it, and the lent buffers afterwards.
-- Rests on hexadecimal for the line, on reading, on the chosen record, and on frames for the text of what is refused.
use Rattle.std.specs.Prelude.{ℕ, List, [], ◌∷◌, ◌++◌, Bool, true, false, ltb, length, Option as StdOption, None, Some, Err, Ok}
use Rattle.std.proofs.Math.Option.{Option, none, some}
use Rattle.std.proofs.lemmas.List.Edits.{sets}
use Rattle.words.specs.Pick.{pick}
use Rattle.hexadecimal.specs.Hexadecimal.{frame_of, stored}
use Rattle.capitals.specs.Capitals.{capitals}
use Rattle.facts.specs.declared.Facts.{Facts}
use Rattle.record.specs.Reading.{reading}
use Rattle.choice.specs.Choice.{ascending}
use Rattle.choose.specs.Chosen.{chosen_record}
use Rattle.record.specs.declared.Reading.{Reading}
use Rattle.values.specs.Answers.{Answer}
use Rattle.frames.specs.Text.{no_line, bad_line}

-- the text of a record: hexadecimal capitals and a line feed
abbrev pub record_text : List ℕ → List ℕ
record_text bs = capitals bs ++ (0x0A ∷ [])

-- `no` with reading's number and place; `bad` where bytes follow an accepted record; `no 14 0` where the choice isn't ascending or in
-- range; else the chosen record
abbrev pub cut_reading : List ℕ → List ℕ → Answer Reading → List ℕ
cut_reading cs bs (Err r) = no_line (r.number ∷ r.place ∷ [])
cut_reading cs bs (Ok a) =
    pick (ltb a.site.length (length bs)) bad_line
    (pick (ascending a.site.people cs) (record_text (chosen_record a.site cs bs))
    (no_line (14 ∷ 0 ∷ [])))

unfoldable pub cut_record : Facts → List ℕ → List ℕ → List ℕ
cut_record f cs bs = cut_reading cs bs (reading f bs)

-- the text of a line's answer: a line that is bad itself is told before the reading
abbrev pub cut_frame : Facts → List ℕ → Option (List ℕ) → List ℕ
cut_frame f cs none = bad_line
cut_frame f cs (some bs) = cut_record f cs bs

unfoldable pub cut_line : Facts → List ℕ → List ℕ → List ℕ
cut_line f cs line = cut_frame f cs (frame_of line)

-- the longest record that a line holds, and the longest answer: that record's text
abbrev pub record_room : ℕ
record_room = 30000

abbrev pub line_room : ℕ
line_room = 60001

-- whether any record has room in the two buffers that hold one, and any answer in its own
unfoldable pub roomy : List ℕ → List ℕ → List ℕ → Bool
roomy frame chosen out =
    pick (ltb (length frame) record_room) false (pick (ltb (length chosen) record_room) false (pick (ltb (length out) line_room) false true))

-- the buffer of chosen records: the chosen record from its start on where that is the answer, else as it was
abbrev pub kept_reading : List ℕ → List ℕ → List ℕ → Answer Reading → List ℕ
kept_reading cs buf bs (Err r) = buf
kept_reading cs buf bs (Ok a) =
    pick (ltb a.site.length (length bs)) buf (pick (ascending a.site.people cs) (sets buf 0 (chosen_record a.site cs bs)) buf)

unfoldable pub kept_record : Facts → List ℕ → List ℕ → List ℕ → List ℕ
kept_record f cs buf bs = kept_reading cs buf bs (reading f bs)

abbrev pub kept_frame : Facts → List ℕ → List ℕ → Option (List ℕ) → List ℕ
kept_frame f cs buf none = buf
kept_frame f cs buf (some bs) = kept_record f cs buf bs

-- the answer, and each buffer after it, by the three buffers before it; nothing where one is too short
unfoldable pub cut : List ℕ → List ℕ → List ℕ → Facts → List ℕ → List ℕ → StdOption ℕ
cut frame chosen out f cs line = pick (roomy frame chosen out) (Some (length (cut_line f cs line))) None

unfoldable pub cut_out : List ℕ → List ℕ → List ℕ → Facts → List ℕ → List ℕ → List ℕ
cut_out frame chosen out f cs line = pick (roomy frame chosen out) (sets out 0 (cut_line f cs line)) out

unfoldable pub cut_from : List ℕ → List ℕ → List ℕ → List ℕ → List ℕ
cut_from frame chosen out line = pick (roomy frame chosen out) (stored frame (frame_of line)) frame

unfoldable pub cut_kept : List ℕ → List ℕ → List ℕ → Facts → List ℕ → List ℕ → List ℕ
cut_kept frame chosen out f cs line = pick (roomy frame chosen out) (kept_frame f cs chosen (frame_of line)) chosen
