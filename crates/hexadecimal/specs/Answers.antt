-- The answers of this crate in 01's terms: for each case its number and its value. Number 0 says that nothing is refused; a buffer that
-- is too short is 13, with place 0. A bad line has no number of 01: none stands for it. Rests on facts.
use Rattle.std.specs.Prelude.{ℕ, Option as StdOption, Some, None, Result, Ok, Err}
use Rattle.std.proofs.Math.Option.{Option, none, some}
use Rattle.facts.specs.declared.Facts.{Facts}
use Rattle.hexadecimal.specs.declared.LineError.{LineError}
use Rattle.hexadecimal.specs.declared.LineError.TheVariants.{Bad, NoRoom}

-- the first line: the facts
abbrev pub facts_told : StdOption Facts → Option Facts
facts_told (Some f) = some f
facts_told None = none

-- a choice's line: how many people it has
abbrev pub choice_told : Result ℕ LineError → Option (ℕ × ℕ)
choice_told (Ok n) = some (0, n)
choice_told (Err Bad) = none
choice_told (Err NoRoom) = some (13, 0)

-- a record's line: how many bytes it has
abbrev pub frame_told : Result ℕ LineError → Option (ℕ × ℕ)
frame_told (Ok n) = some (0, n)
frame_told (Err Bad) = none
frame_told (Err NoRoom) = some (13, 0)
