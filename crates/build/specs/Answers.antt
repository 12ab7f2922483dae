-- A turn's answer in 01's terms: for each case its number and its place; a turn that is taken gives the next state beside it. Rests on nothing.
use Rattle.values.specs.Answers.{Answer}
use Rattle.std.specs.Prelude.{ℕ, Ok, Err}

-- a turn that is taken
pattern abbrev pub Taken : Answer (Unit {0})
Taken = Ok tt

-- taken 0; refused the number of the refusal
abbrev pub answer_number : Answer (Unit {0}) → ℕ
answer_number Taken = 0
answer_number (Err r) = r.number

abbrev pub answer_place : Answer (Unit {0}) → ℕ
answer_place Taken = 0
answer_place (Err r) = r.place
