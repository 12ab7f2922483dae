-- The answer to a record's line, the whole text of it. Rests on hexadecimal for the line, on reading, and on the tally.
use Rattle.std.specs.Prelude.{ℕ, ◌+◌, ◌≤◌, List, [], ◌∷◌, ◌++◌, ltb, length, take, Option as StdOption, None, Some, Err, Ok}
use Rattle.std.proofs.Math.Option.{Option, none, some}
use Rattle.std.proofs.lemmas.List.Edits.{sets}
use Rattle.words.specs.Pick.{pick}
use Rattle.hexadecimal.specs.Hexadecimal.{frame_of, stored}
use Rattle.facts.specs.declared.Facts.{Facts}
use Rattle.fixed.specs.declared.Site.{Site}
use Rattle.genotypes.specs.declared.Gt.{Gt}
use Rattle.record.specs.Reading.{reading}
use Rattle.tally.specs.Tally.{calls_of}
use Rattle.record.specs.declared.Reading.{Reading}
use Rattle.values.specs.Answers.{Answer}
use Rattle.frames.specs.Text.{ok_line, no_line, bad_line}

-- length, alleles, INFO fields, FORMAT fields, people
abbrev pub record_numbers : Site → List ℕ
record_numbers t = t.length ∷ t.alleles ∷ t.infos ∷ t.formats ∷ t.people ∷ []

-- people without genotype, missing alleles, the calls of each allele; nothing over 64 alleles
unfoldable pub call_numbers : Site → Gt → List ℕ → List ℕ
call_numbers t g bs =
    let calls = calls_of g t.people bs in
    pick (ltb 64 t.alleles) [] (calls.without ∷ take (t.alleles + 1) calls.counts)

-- an accepted record, with no bytes after it
unfoldable pub accepted_line : Site → Gt → List ℕ → List ℕ
accepted_line t g bs = ok_line (record_numbers t ++ call_numbers t g bs)

-- `no` with the refusal's number and place; `bad` where bytes follow an accepted record; else `ok`
abbrev pub read_line : List ℕ → Answer Reading → List ℕ
read_line bs (Err r) = no_line (r.number ∷ r.place ∷ [])
read_line bs (Ok a) = pick (ltb a.site.length (length bs)) bad_line (accepted_line a.site a.gt bs)

unfoldable pub record_line : Facts → List ℕ → List ℕ
record_line f bs = read_line bs (reading f bs)

-- the text of a line's answer: a line that is bad itself is told before the reading
abbrev pub frame_line : Facts → Option (List ℕ) → List ℕ
frame_line f none = bad_line
frame_line f (some bs) = record_line f bs

unfoldable pub answer_line : Facts → List ℕ → List ℕ
answer_line f line = frame_line f (frame_of line)

-- the room that any answer has
abbrev pub text_room : ℕ
text_room = 2048

-- a text that is said, and its buffer: the text at the buffer's start and its length; nothing where any answer would have no room
unfoldable pub said : ℕ → List ℕ → StdOption ℕ
said room text = pick (ltb room text_room) None (Some (length text))

unfoldable pub said_in : List ℕ → List ℕ → List ℕ
said_in out text = pick (ltb (length out) text_room) out (sets out 0 text)

-- a line's answer and its buffer: the text at the buffer's start and its length; nothing where the record's bytes, or any answer,
-- would have no room in the lent buffers
abbrev pub framed : {A : Type 0} → ℕ → A → A → Option (List ℕ) → A
framed room short fits none = fits
framed room short fits (some bs) = pick (ltb room (length bs)) short fits

unfoldable pub line_said : ℕ → ℕ → Facts → List ℕ → StdOption ℕ
line_said frame out f line = pick (ltb out text_room) None (framed frame None (Some (length (answer_line f line))) (frame_of line))

unfoldable pub line_said_in : ℕ → List ℕ → Facts → List ℕ → List ℕ
line_said_in frame out f line = pick (ltb (length out) text_room) out (framed frame out (sets out 0 (answer_line f line)) (frame_of line))

-- the record's bytes stand at the start of the other buffer
unfoldable pub decoded : List ℕ → ℕ → List ℕ → List ℕ
decoded frame out line = pick (ltb out text_room) frame (stored frame (frame_of line))

-- the text lies in its buffer
abbrev pub TextInside : ℕ → StdOption ℕ → Type 0
TextInside end (Some n) = n ≤ end
TextInside end None = Unit {0}

-- an answer in 01's terms, its number and its value: number 0 and the length of the text; 13 at place 0 where a buffer is too short
abbrev pub answer_told : StdOption ℕ → ℕ × ℕ
answer_told (Some n) = (0, n)
answer_told None = (13, 0)
