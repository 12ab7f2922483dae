-- `c_api::sikalumdo_id` meets its contract.
use mathlib.Core.Path.{◌∙◌, ap}
use lib.ListN.{length}
use Rattle.build.specs.declared.Builder.{Builder}
use Rattle.build.specs.Turns.{id_given, after_id}
use Rattle.c_state.specs.Kept.{turn_answer, turn_numbers}
use Rattle.c_api.proofs.sikalumdo_id.Goals as goal

pub returns : goal.returns
returns c =
    let a = c.args in
    let st = c.state_of.ensures in
    let e = c.id-t.ensures.told ∙ ap (λ (x : Builder). id_given x (length a.buf.now) a.text.now) st in record {
      told = c.keep.ensures.told ∙ ap turn_answer e;
      kept = c.keep.ensures.written ∙ ap (turn_numbers _) e;
      written = c.id-t.ensures.written ∙ ap (λ (x : Builder). after_id x a.buf.now a.text.now) st;
    }
