-- `calls::sum_pairs` meets its contract.
use mathlib.Core.Path.{sym, ◌∙◌}
use native.Mathlib.Omega.{arith}
use borrow.Author.Count.{below_more}
use lib.ListN.{length-set}
use lib.Seq.{ext_get_or, get_or-set_other, get_or-set_same}
use Rattle.calls.specs.Engine.{folded}
use Rattle.calls.proofs.Pairs.{folded_at, folded_65}
use Rattle.calls.proofs.sum_pairs.Goals as goal

pub overflow_add-counts-in-loop-i : goal.overflow_add-counts-in-loop-i
overflow_add-counts-in-loop-i c = let b = c.requires.1 c.loop-i.i in omega (arith, folded_at c.args.pairs.now c.loop-i.i)

pub loop-i-preserved : goal.loop-i-preserved
loop-i-preserved c =
    let l = c.loop-i in (
      simp length-set l.invariant.0,
      below_more _ _ (λ j g. get_or-set_other l.counts l.i j _ 0 (λ e. omega arith) ∙ l.invariant.1 j g)
          (get_or-set_same l.counts l.i _ 0 (omega arith) ∙ sym (folded_at c.args.pairs.now l.i)),
    )

pub returns : goal.returns
returns c =
    let l = c.loop-i in
    let n = folded_65 c.args.pairs.now c.requires.0 in
    ext_get_or 0 l.counts (folded c.args.pairs.now) (l.invariant.0 ∙ sym n) (λ j g. l.invariant.1 j (omega arith))
