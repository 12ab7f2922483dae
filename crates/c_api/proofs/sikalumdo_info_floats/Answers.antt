-- `c_api::sikalumdo_info_floats` meets its contract.
use mathlib.Core.Path.{◌∙◌, ap}
use lib.ListN.{length}
use mir.Syntax.{w32}
use mir.Val.{of_z}
use Rattle.words.proofs.Sign.{back}
use Rattle.shown.specs.Shown.{floats}
use Rattle.build.specs.declared.Builder.{Builder}
use Rattle.build.specs.Turns.{info_given, after_info}
use Rattle.c_state.specs.Kept.{turn_answer, turn_numbers}
use Rattle.c_api.proofs.sikalumdo_info_floats.Goals as goal

pub returns : goal.returns
returns c =
    let a = c.args in
    let f = c.ranges in
    let told = rw (back a.key f.key) at c.info_floats-t.ensures.told in
    let written = rw (back a.key f.key) at c.info_floats-t.ensures.written in
    let st = c.state_of.ensures in
    let e = told ∙ ap (λ (x : Builder). info_given x (length a.buf.now) (of_z w32 a.key) floats a.bits.now) st in record {
      told = c.keep.ensures.told ∙ ap turn_answer e;
      kept = c.keep.ensures.written ∙ ap (turn_numbers _) e;
      written = written ∙ ap (λ (x : Builder). after_info x a.buf.now (of_z w32 a.key) floats a.bits.now) st;
    }
