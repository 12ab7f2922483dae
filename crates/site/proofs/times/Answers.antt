-- `site::times` meets its contract.
use Rattle.std.proofs.Common.{◌≡◌, ◌+◌, ◌-◌, ◌∙◌, arith, rules}
use Rattle.words.proofs.Places.{drop_on}
use Rattle.site.specs.Steps.{times}
use Rattle.site.proofs.Turns.{times_turn}
use Rattle.site.proofs.times.Goals as goal

pub returns-in_err-at : goal.returns-in_err-at
returns-in_err-at g c one block takes =
    let l = c.loop in
    let s = takes l.at _ c.step.ensures in
    (rw ((l.invariant one block takes).0, times_turn one block (c.args.count - l.counter) l.at (omega arith), ← s.0, c.in_err-at.was) (search rules), search rules)

pub loop-preserved : goal.loop-preserved
loop-preserved g c one block takes =
    let l = c.loop in
    let i = l.invariant one block takes in
    let s = takes l.at _ c.step.ensures in
    let next = rw c.in_ok-at.was at s.1 in
    let left : c.args.count - l.counter - 1 ≡ c.args.count - (l.counter + 1) = omega arith in
    (i.0 ∙ rw (times_turn one block (c.args.count - l.counter) l.at (omega arith), ← s.0, c.in_ok-at.was, drop_on block l.at c.in_ok-at.at next.0, left), omega (arith, i, next), omega (arith, i, next))

pub returns : goal.returns
unfolding times
returns g c one block takes =
    let l = c.loop in
    let i = l.invariant one block takes in
    let none : c.args.count - l.counter ≡ 0 = omega arith in
    (rw (i.0, none), (i.1, i.2))
