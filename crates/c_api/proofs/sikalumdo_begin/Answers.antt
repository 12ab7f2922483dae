-- `c_api::sikalumdo_begin` meets its contract.
use mathlib.Core.Path.{◌∙◌, ap}
use lib.ListN.{length}
use mir.Syntax.{w32}
use mir.Val.{of_z}
use Rattle.words.proofs.Sign.{back}
use Rattle.positions.specs.Positions.{pos_bits}
use Rattle.c_api.specs.Given.{facts_given}
use Rattle.build.specs.declared.Builder.{Builder}
use Rattle.build.specs.Turns.{begun, after_begin}
use Rattle.c_state.specs.Kept.{turn_answer, turn_numbers}
use Rattle.c_api.proofs.sikalumdo_begin.Goals as goal

pub returns : goal.returns
unfolding pos_bits
returns c =
    let a = c.args in
    let f = c.ranges in
    let told = rw (back a.chrom f.chrom, back a.pos f.pos, back a.rlen f.rlen) at c.begin-t.ensures.told in
    let written = rw (back a.chrom f.chrom, back a.pos f.pos, back a.rlen f.rlen) at c.begin-t.ensures.written in
    let st = c.state_of.ensures in
    let e = told ∙ ap (λ (x : Builder). begun x (length a.buf.now) (facts_given a.strings a.contigs a.people a.gt) (of_z w32 a.chrom) (of_z w32 a.pos) (of_z w32 a.rlen) a.qual) st in record {
      told = c.keep.ensures.told ∙ ap turn_answer e;
      kept = c.keep.ensures.written ∙ ap (turn_numbers _) e;
      written = written ∙ ap (λ (x : Builder). after_begin x a.buf.now (facts_given a.strings a.contigs a.people a.gt) (of_z w32 a.chrom) (of_z w32 a.pos) (of_z w32 a.rlen) a.qual) st;
    }
