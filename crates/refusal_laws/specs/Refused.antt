-- What is said of a refusal: its number is one of a few, its place is 0 or lies in the record, and what was lent is as it was. Rests on reading, on a
-- turn's answer, and on answers that are told in one number.
use Rattle.build.specs.Answers.{Taken}
use Rattle.std.specs.Prelude.{ℕ, ◌/◌, ◌%◌, ◌≤◌, ◌≡◌, ◌⊎◌, ◌≢◌, List, ◌∷◌, ◌++◌, true, length, Err}
use Rattle.words.specs.Lists.{among}
use Rattle.values.specs.Answers.{refusal}
use Rattle.values.specs.declared.Refusal.{Refusal}
use Rattle.record_laws.specs.Told.{own_length}
use Rattle.facts.specs.declared.Facts.{Facts}
use Rattle.record.specs.Reading.{reading}
use Rattle.build.specs.declared.Builder.{Builder}
use Rattle.build.specs.declared.Turned.{Turned}
use Rattle.refusal_laws.specs.Numbers.{reading_gives}

-- one of these numbers, at a place up to an end
pub record Told (numbers : List ℕ) (end : ℕ) (r : Refusal) : Type 0 where
  pub number : among r.number numbers ≡ true
  pub place : r.place ≤ end

-- one of these numbers, at a place of the record, and of what is lent of it
pub record InRecord (numbers : List ℕ) (s : List ℕ) (r : Refusal) : Type 0 where
  pub number : among r.number numbers ≡ true
  pub place : r.place ≤ own_length s
  pub lent : r.place ≤ length s

-- one of these numbers, at place 0
pub record AtStart (numbers : List ℕ) (r : Refusal) : Type 0 where
  pub number : among r.number numbers ≡ true
  pub place : r.place ≡ 0

-- reading's own refusal, or then one of these numbers at place 0
pub record AfterReading (numbers : List ℕ) (f : Facts) (s : List ℕ) (r : Refusal) : Type 0 where
  pub own : (reading f s ≡ Err r) ⊎ AtStart numbers r
  pub told : InRecord (reading_gives ++ numbers) s r

-- a turn that is made of one number: with 0 it is taken, and gives the next state and the new buffer; with another it is refused with that number at
-- place 0, and the state and the buffer are as they were
pub record MadeOf (n : ℕ) (st next : Builder) (buf new : List ℕ) (t : Turned) (after : List ℕ) : Type 0 where
  pub taken : n ≡ 0 → (t.answer ≡ Taken) × (t.state ≡ next) × (after ≡ new)
  pub refused : n ≢ 0 → (t.answer ≡ Err (refusal n 0)) × (t.state ≡ st) × (after ≡ buf)

-- a turn that is refused: one of these numbers at place 0, and the state and the buffer as they were
pub record Kept (numbers : List ℕ) (st : Builder) (buf : List ℕ) (t : Turned) (after : List ℕ) (r : Refusal) : Type 0 where
  pub told : AtStart numbers r
  pub state : t.state ≡ st
  pub buffer : after ≡ buf

abbrev pub Refuses : List ℕ → Builder → List ℕ → Turned → List ℕ → Type 0
Refuses numbers st buf t after = (r : Refusal) → t.answer ≡ Err r → Kept numbers st buf t after r

-- an answer in one number: in its high half 0, or one of these numbers and then in its low half a place up to an end
pub record Halves (numbers : List ℕ) (end answer : ℕ) : Type 0 where
  pub number : among (answer / 4294967296) (0 ∷ numbers) ≡ true
  pub place : answer / 4294967296 ≢ 0 → answer % 4294967296 ≤ end

-- and where it is a refusal, what was lent is as it was
pub record Answered (numbers : List ℕ) (end answer : ℕ) (lent after : List ℕ) : Type 0 where
  pub halves : Halves numbers end answer
  pub kept : answer / 4294967296 ≢ 0 → after ≡ lent
