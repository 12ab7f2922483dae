-- `c_api::sikalumdo_allele` meets its contract.
use mathlib.Core.Path.{◌∙◌, ap}
use lib.ListN.{length}
use Rattle.build.specs.declared.Builder.{Builder}
use Rattle.build.specs.Turns.{allele_given, after_allele}
use Rattle.c_state.specs.Kept.{turn_answer, turn_numbers}
use Rattle.c_api.proofs.sikalumdo_allele.Goals as goal

pub returns : goal.returns
returns c =
    let a = c.args in
    let st = c.state_of.ensures in
    let e = c.allele-t.ensures.told ∙ ap (λ (x : Builder). allele_given x (length a.buf.now) a.text.now) st in record {
      told = c.keep.ensures.told ∙ ap turn_answer e;
      kept = c.keep.ensures.written ∙ ap (turn_numbers _) e;
      written = c.allele-t.ensures.written ∙ ap (λ (x : Builder). after_allele x a.buf.now a.text.now) st;
    }
