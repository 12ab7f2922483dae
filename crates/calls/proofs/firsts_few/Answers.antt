-- `calls::firsts_few` meets its contract.
use mathlib.Core.Path.{sym, ◌∙◌}
use Prim.Native.Nat.{◌*◌, ◌<◌}
use native.Mathlib.Omega.{arith}
use lib.ListN.{drop, length, length-drop}
use Rattle.words.proofs.Pick.{pick_test}
use Rattle.calls.proofs.Padding.{firsts_turn, firsts_end}
use Rattle.calls.proofs.firsts_few.Goals as goal

pub loop-i-preserved : goal.loop-i-preserved
loop-i-preserved c = c.loop-i.invariant ∙ firsts_turn c.args.part.now c.loop-i.i c.loop-i.good (omega arith)

pub returns : goal.returns
returns c =
    let l = c.loop-i in
    let rest = drop (l.i * 2) c.args.part.now in
    let h : length rest < 2 = rw length-drop (omega arith) in
    sym (rw (l.invariant, firsts_end rest h, pick_test _))
