-- `calls::count_block` meets its contract.
use mathlib.Core.Path.{◌≡◌, ◌∙◌}
use Prim.Native.Nat.{◌*◌, ◌%◌, ◌<◌}
use native.Mathlib.Omega.{arith}
use native.Mathlib.Nat.{mul-one}
use lib.ListN.{length}
use Rattle.vectors.proofs.Plain.{width_1}
use Rattle.calls.specs.Engine.{folded}
use Rattle.calls.proofs.Counters.{wider}
use Rattle.calls.proofs.Padding.{told_part}
use Rattle.calls.proofs.Pairs.{folded_65}
use Rattle.calls.proofs.count_block.Goals as goal

pub raise_few-requires : goal.raise_few-requires
raise_few-requires c =
    (c.requires.pairs_len.0, wider _ _ (folded c.args.pairs.now) (omega arith) c.requires.pairs_len.1)

pub returns-then-is_padding : goal.returns-then-is_padding
returns-then-is_padding c =
    let a = c.args in
    let p = c.requires in
    let f = c.in-Some.ensures in
    let w : a.w ≡ 1 = p.whole.0 ∙ rw f.0 width_1 in
    let q : 0 < a.len * 1 = rw w at p.w_in_bounds.2 in
    let z : length a.part.now % (a.len * 1) ≡ 0 = rw w at p.whole.1 in
    let r = c.raise_few.ensures in
    let b = told_part a.part.now (folded a.pairs.now) _ a.len _ (omega (arith, mul-one a.len))
    (omega (arith, folded_65 a.pairs.now p.pairs_len.0)) z f.1 f.2 (omega arith) (c.is_padding.ensures c.if-is_padding.true) in
    record {
      value = rw (f.0, w) b.0;
      pairs_after = rw (f.0, w) (r.1 ∙ b.1);
      upper_bound = (omega arith, r.0);
    }
