-- `c_api::sikalumdo_pair` meets its contract.
use mathlib.Core.Path.{◌∙◌, ap}
use Rattle.c_answers.specs.Told.{pair_answer, pair_numbers}
use Rattle.c_api.proofs.sikalumdo_pair.Goals as goal

pub returns : goal.returns
returns c =
    let e = c.pair_at.ensures in
    record {
      told = c.tell_pair.ensures.told ∙ ap (pair_answer _) e;
      written = c.tell_pair.ensures.written ∙ ap (pair_numbers _) e;
    }
