-- Choosing: the answer, and the lent buffer afterwards. Reading's refusals come first, then 14 for a choice that isn't ascending or in
-- range, then 13 for a buffer too short. Rests on reading and on the chosen record.
use Rattle.std.specs.Prelude.{ℕ, ◌≤◌, List, [], ◌∷◌, ltb, length, Err, Ok}
use Rattle.std.proofs.lemmas.List.Edits.{sets}
use Rattle.words.specs.Pick.{pick}
use Rattle.values.specs.Answers.{refusal, Says, refuses, holds, Answer}
use Rattle.facts.specs.declared.Facts.{Facts}
use Rattle.record.specs.Reading.{reading}
use Rattle.choice.specs.Choice.{ascending}
use Rattle.record.specs.declared.Reading.{Reading}
use Rattle.choose.specs.Chosen.{chosen_record}

-- 01's number and values for each case: the refusal, or the chosen length
abbrev pub choosing_says : Answer ℕ → Says
choosing_says (Err r) = refuses r
choosing_says (Ok n) = holds (n ∷ [])

-- a record that would be written into so much room: its length, or 13
abbrev pub chosen_length : ℕ → List ℕ → Answer ℕ
chosen_length room r = pick (ltb room (length r)) (Err (refusal 13 0)) (Ok (length r))

abbrev pub answer_of : List ℕ → ℕ → List ℕ → Answer Reading → Answer ℕ
answer_of cs room s (Err r) = Err r
answer_of cs room s (Ok a) = pick (ascending a.site.people cs) (chosen_length room (chosen_record a.site cs s)) (Err (refusal 14 0))

-- the answer: the chosen length, or the refusal
unfoldable pub choosing : Facts → List ℕ → ℕ → List ℕ → Answer ℕ
choosing f cs room s = answer_of cs room s (reading f s)

-- the buffer: the chosen record from its start on, its other bytes as they were; on a refusal every byte as it was
abbrev pub chosen_buffer : List ℕ → List ℕ → List ℕ
chosen_buffer buf r = pick (ltb (length buf) (length r)) buf (sets buf 0 r)

abbrev pub buffer_of : List ℕ → List ℕ → List ℕ → Answer Reading → List ℕ
buffer_of cs buf s (Err r) = buf
buffer_of cs buf s (Ok a) = pick (ascending a.site.people cs) (chosen_buffer buf (chosen_record a.site cs s)) buf

unfoldable pub after_choosing : Facts → List ℕ → List ℕ → List ℕ → List ℕ
after_choosing f cs buf s = buffer_of cs buf s (reading f s)

-- the chosen record lies in its buffer
abbrev pub ChosenInside : ℕ → Answer ℕ → Type 0
ChosenInside end (Err r) = Unit {0}
ChosenInside end (Ok n) = n ≤ end
