-- Turns: their order, and what a turn answers and writes. Rests on build_append for the number of what is wrong and for the buffer afterwards.
use Rattle.build.specs.Answers.{Taken}
use Rattle.std.specs.Prelude.{ℕ, List, eqb, length, Err}
use Rattle.words.specs.Pick.{pick}
use Rattle.values.specs.Answers.{refusal}
use Rattle.build_append.specs.Append.{written_to}
use Rattle.build_rules.specs.Rules.{ordered}
unfoldable pub use Rattle.build_rules.specs.Rules.{count_number, reach_number}
unfoldable pub use Rattle.build_append.specs.Append.{first_of, room_number}
use Rattle.build.specs.declared.Stage.{Stage}
use Rattle.build.specs.declared.Stage.TheVariants.{Fresh, Begun, Named, Alleles, Filtered, Infos, Formats, Ended}
use Rattle.build.specs.declared.Builder.{Builder}
use Rattle.build.specs.declared.Turned.{Turned}

-- how far a build is: the last turn taken, counted in the order begin, ID, allele, FILTER, INFO, FORMAT, end
abbrev pub rank : Stage → ℕ
rank Fresh = 0
rank Begun = 1
rank Named = 2
rank Alleles = 3
rank Filtered = 4
rank Infos = 5
rank Formats = 6
rank Ended = 7

-- 12 for a turn that may come only after a turn from one to another
abbrev pub order : ℕ → ℕ → Stage → ℕ
order low high stage = ordered low high (rank stage)

-- a turn's answer: with number 0 it is taken and gives the next state; a refused one keeps the state. Places are 0
unfoldable pub turned : Builder → ℕ → Builder → Turned
turned st number next =
    pick (eqb number 0) (record { state = next; answer = Taken }) (record { state = st; answer = Err (refusal number 0) })

-- a turn that appends: the rules' number first, then the room's; its answer, and the buffer afterwards
unfoldable pub appended : Builder → ℕ → ℕ → List ℕ → Builder → Turned
appended st room number bs next = turned st (first_of number (room_number st.at (length bs) room)) next

unfoldable pub afterwards : Builder → List ℕ → ℕ → List ℕ → List ℕ
afterwards st buf number bs = written_to buf st.at number bs
