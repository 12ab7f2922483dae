-- A build's state as a list of numbers, and back; what a turn leaves there. Rests on the builder and on answers as they are told.
use Rattle.std.specs.Prelude.{ℕ, ◌%◌, List, ◌∷◌, ltb, eqb, length, get_or, take, drop, Err}
use Rattle.words.specs.Pick.{pick}
use Rattle.stores.specs.Stores.{filled}
use Rattle.build.specs.Answers.{answer_number, answer_place, Taken}
use Rattle.build.specs.Order.{rank}
use Rattle.build.specs.Turns.{fresh_state, moved_to}
use Rattle.build.specs.declared.Stage.{Stage}
use Rattle.build.specs.declared.Stage.TheVariants.{Fresh, Begun, Named, Alleles, Filtered, Infos, Formats, Ended}
use Rattle.build.specs.declared.Builder.{Builder}
use Rattle.build.specs.declared.Turned.{Turned}
use Rattle.values.specs.Answers.{Answer}
use Rattle.c_answers.specs.Told.{answer}

-- the stage of a rank; past the last one nothing is taken any more
unfoldable pub stage_of : ℕ → Stage
stage_of rank =
    pick (eqb rank 0) Fresh
    (pick (eqb rank 1) Begun
    (pick (eqb rank 2) Named
    (pick (eqb rank 3) Alleles
    (pick (eqb rank 4) Filtered
    (pick (eqb rank 5) Infos
    (pick (eqb rank 6) Formats
    Ended))))))

-- the facts, the bytes written, where the genotype block begins, the counts, how far the build is, and the FORMAT keys
abbrev pub state_numbers : Builder → List ℕ
state_numbers st =
    st.facts.strings ∷ st.facts.contigs ∷ st.facts.people ∷ st.facts.gt ∷ st.at ∷ st.border ∷ st.alleles ∷ st.infos
    ∷ st.formats ∷ rank st.stage ∷ st.keys

-- a state that takes no turn
abbrev pub no_state : Builder
no_state = moved_to fresh_state Ended 0 0 0 0

-- the state that numbers hold; fewer than 266 hold none
unfoldable pub state_of : List ℕ → Builder
state_of ns =
    pick (ltb (length ns) 266) no_state
    (record {
      facts = record { strings = get_or ns 0 0; contigs = get_or ns 1 0; people = get_or ns 2 0; gt = get_or ns 3 0 };
      at = get_or ns 4 0;
      border = get_or ns 5 0;
      alleles = get_or ns 6 0 % 65536;
      infos = get_or ns 7 0 % 65536;
      formats = get_or ns 8 0 % 256;
      stage = stage_of (get_or ns 9 0);
      keys = take 256 (drop 10 ns);
    })

-- a turn: its number, with 0 the bytes written so far, else the place; the numbers hold the next state, and on a refusal what they held
abbrev pub turn_low : Builder → Answer (Unit {0}) → ℕ
turn_low st Taken = st.at
turn_low st (Err r) = answer_place (Err r)

abbrev pub turn_answer : Turned → ℕ
turn_answer t = answer (answer_number t.answer) (turn_low t.state t.answer)

abbrev pub held_after : List ℕ → Builder → Answer (Unit {0}) → List ℕ
held_after ns st Taken = filled ns 0 (state_numbers st)
held_after ns st (Err r) = ns

abbrev pub turn_numbers : List ℕ → Turned → List ℕ
turn_numbers ns t = held_after ns t.state t.answer

-- a fresh state: 13 where it has no room
unfoldable pub fresh_answer : ℕ → ℕ
fresh_answer room = pick (ltb room 266) (answer 13 0) (answer 0 0)

unfoldable pub fresh_numbers : List ℕ → List ℕ
fresh_numbers ns = filled ns 0 (state_numbers fresh_state)
