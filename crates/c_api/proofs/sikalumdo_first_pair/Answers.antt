-- `c_api::sikalumdo_first_pair` meets its contract.
use mathlib.Core.Path.{◌∙◌, ap}
use Rattle.c_answers.specs.Told.{opening_answer}
use Rattle.c_api.proofs.sikalumdo_first_pair.Goals as goal

pub returns : goal.returns
returns c =
    c.tell_one.ensures ∙ ap opening_answer c.opening_of.ensures
