-- `cuts::say_text` meets its contract.
use mathlib.Core.Path.{ap, sym}
use native.Mathlib.Omega.{arith}
use Rattle.std.proofs.Common.{Some}
use Rattle.cuts.proofs.Cuts.{length_text, text_stored}
use Rattle.cuts.proofs.say_text.Goals as goal

pub returns : goal.returns
returns c =
    let a = c.args in
    let w = c.put_capitals.ensures.written in record {
      value = ap Some (sym (length_text a.bytes.now));
      text_inside = omega arith;
      out_after = rw w (text_stored a.out.now a.bytes.now (omega arith));
    }
