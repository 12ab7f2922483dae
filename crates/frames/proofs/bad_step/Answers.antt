-- `frames::bad_step` meets its contract.
use native.Mathlib.Omega.{arith}
use Rattle.frames.specs.Text.{bad_line}
use Rattle.frames.proofs.Behind.{behind}
use Rattle.frames.proofs.bad_step.Goals as goal

pub returns : goal.returns
returns c =
    let a = c.args in
    let p = c.put_bad-n.ensures in record {
      value = rw p.0;
      step_inside = omega (arith, p.0);
      out_after = behind a.out.now bad_line _ a.waiting (omega arith) p.1;
    }
