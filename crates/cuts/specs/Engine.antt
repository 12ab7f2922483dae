-- An engine's own words, which no public promise cites: whether bytes follow the record at the front of a list, by the record's own lengths. Rests on
-- fixed.
use Rattle.std.specs.Prelude.{ℕ, List, Bool, false, ltb, length, Err, Ok}
use Rattle.fixed.specs.declared.Blocks.{Blocks}
use Rattle.values.specs.Answers.{Answer}
use Rattle.fixed.specs.Fixed.{blocks}

-- the list goes on after the blocks; after blocks that are refused nothing follows
abbrev pub goes_on : ℕ → Answer Blocks → Bool
goes_on end (Err r) = false
goes_on end (Ok b) = ltb b.length end

-- bytes follow the record
unfoldable pub followed : List ℕ → Bool
followed bs = goes_on (length bs) (blocks bs)
