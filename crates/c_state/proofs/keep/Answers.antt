-- `c_state::keep` meets its contract.
use Rattle.c_answers.specs.Told.{refused_answer}
use Rattle.c_state.proofs.keep.Goals as goal

pub returns-in-Ok : goal.returns-in-Ok
returns-in-Ok c =
    record { told = rw c.in-Ok.is c.answer_of.ensures; written = rw c.in-Ok.is c.put_state.ensures }

pub returns-in-Err : goal.returns-in-Err
unfolding refused_answer
returns-in-Err c =
    record { told = rw c.in-Err.is c.refused_answer.ensures; written = rw c.in-Err.is }
