-- `c_api::sikalumdo_shown` meets its contract.
use mathlib.Core.Path.{◌∙◌, ap}
use Rattle.c_answers.specs.Told.{shown_answer}
use Rattle.c_api.proofs.sikalumdo_shown.Goals as goal

pub returns : goal.returns
returns c =
    c.tell_shown.ensures ∙ ap shown_answer c.element_at.ensures
