-- `c_api::sikalumdo_choose` meets its contract.
use mathlib.Core.Path.{◌∙◌, ap}
use Rattle.c_answers.specs.Told.{choosing_answer}
use Rattle.c_api.proofs.sikalumdo_choose.Goals as goal

pub returns : goal.returns
returns c =
    record {
      told = c.tell_one.ensures ∙ ap choosing_answer c.choose.ensures.told;
      written = c.choose.ensures.written;
    }
