-- `fetch::up_to` meets its contract.
use mathlib.Core.Path.{refl, sym}
use native.Mathlib.Omega.{arith}
use lib.Seq.{length-take-le, take_all}
use Rattle.fetch.proofs.up_to.Goals as goal

pub returns-then-s-end : goal.returns-then-s-end
returns-then-s-end c = record { result_value = sym (take_all c.args.end c.args.s.now (omega arith)); ref_ptr_value = refl }

pub slice_bounds-result-end : goal.slice_bounds-result-end
slice_bounds-result-end c = sym (length-take-le _ _ (omega arith))
