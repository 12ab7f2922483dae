-- `c_answers::answer_of` meets its contract.
use mathlib.Core.Path.{refl}
use Rattle.c_answers.specs.Told.{answer}
use Rattle.c_answers.proofs.answer_of.Goals as goal

pub returns : goal.returns
unfolding answer
returns c =
    refl
