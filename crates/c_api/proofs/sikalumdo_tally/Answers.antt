-- `c_api::sikalumdo_tally` meets its contract.
use mathlib.Core.Path.{◌∙◌, ap}
use Rattle.c_answers.specs.Told.{tallied_answer, tallied_numbers}
use Rattle.c_api.proofs.sikalumdo_tally.Goals as goal

pub returns : goal.returns
returns c =
    let e = c.tally.ensures in
    record {
      told = c.tell_tally.ensures.told ∙ ap (tallied_answer _) e;
      written = c.tell_tally.ensures.written ∙ ap (tallied_numbers _) e;
    }
