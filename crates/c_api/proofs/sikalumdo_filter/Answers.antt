-- `c_api::sikalumdo_filter` meets its contract.
use mathlib.Core.Path.{◌∙◌, ap}
use mathlib.Core.List.{map}
use lib.ListN.{length}
use mir.Syntax.{w32}
use mir.Val.{of_z}
use Rattle.build.specs.declared.Builder.{Builder}
use Rattle.build.specs.Turns.{filter_given, after_filter}
use Rattle.c_state.specs.Kept.{turn_answer, turn_numbers}
use Rattle.c_api.proofs.sikalumdo_filter.Goals as goal

pub returns : goal.returns
returns c =
    let a = c.args in
    let st = c.state_of.ensures in
    let e = c.filter-t.ensures.told ∙ ap (λ (x : Builder). filter_given x (length a.buf.now) (map (of_z w32) a.offsets.now)) st in record {
      told = c.keep.ensures.told ∙ ap turn_answer e;
      kept = c.keep.ensures.written ∙ ap (turn_numbers _) e;
      written = c.filter-t.ensures.written ∙ ap (λ (x : Builder). after_filter x a.buf.now (map (of_z w32) a.offsets.now)) st;
    }
