-- `c_answers::refused_answer` meets its contract.
use Rattle.c_answers.specs.Told.{refused_answer}
use Rattle.c_answers.proofs.refused_answer.Goals as goal

pub returns : goal.returns
unfolding refused_answer
returns c =
    c.answer_of.ensures
