-- `c_api::sikalumdo_end` meets its contract.
use mathlib.Core.Path.{◌∙◌, ap}
use lib.ListN.{length}
use Rattle.build.specs.declared.Builder.{Builder}
use Rattle.build.specs.Turns.{built, after_end}
use Rattle.c_state.specs.Kept.{turn_answer, turn_numbers}
use Rattle.c_api.proofs.sikalumdo_end.Goals as goal

pub returns : goal.returns
returns c =
    let a = c.args in
    let st = c.state_of.ensures in
    let e = c.end-t.ensures.told ∙ ap (λ (x : Builder). built x (length a.buf.now)) st in record {
      told = c.keep.ensures.told ∙ ap turn_answer e;
      kept = c.keep.ensures.written ∙ ap (turn_numbers _) e;
      written = c.end-t.ensures.written ∙ ap (λ (x : Builder). after_end x a.buf.now) st;
    }
