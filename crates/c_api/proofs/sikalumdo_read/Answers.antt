-- `c_api::sikalumdo_read` meets its contract.
use mathlib.Core.Path.{◌∙◌, ap}
use Rattle.c_answers.specs.Told.{reading_answer, reading_numbers}
use Rattle.c_api.proofs.sikalumdo_read.Goals as goal

pub returns : goal.returns
returns c =
    let e = c.read.ensures.value in
    record {
      told = c.tell_reading.ensures.told ∙ ap (reading_answer _) e;
      written = c.tell_reading.ensures.written ∙ ap (reading_numbers _) e;
    }
