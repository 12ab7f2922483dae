-- `fetch::skip` meets its contract. The loop's invariant: the fields from the start on are those that are left, from a place in the block.
use mathlib.Core.Path.{◌≡◌, ◌∙◌}
use Prim.Native.Nat.{◌+◌, ◌-◌}
use native.Mathlib.Omega.{arith}
use Rattle.words.proofs.Places.{drop_on}
use Rattle.site.specs.Steps.{times}
use Rattle.fetch.specs.Engine.{passing, past}
use Rattle.fetch.proofs.Fields.{past_turn}
use borrow.Author.Rules.{rules}
use Rattle.fetch.proofs.skip.Goals as goal

pub returns-in_err-at-clause-value : goal.returns-in_err-at-clause-value
unfolding passing
returns-in_err-at-clause-value c =
    let a = c.args in
    let l = c.loop in
    rw (l.invariant.0, past_turn a.kind a.people a.block.now (a.count - l.counter) l.at (omega arith), ← c.field_at.ensures.value, c.in_err-at.was) (search rules)

pub loop-preserved : goal.loop-preserved
unfolding passing
loop-preserved c =
    let l = c.loop in
    let a = c.args in
    let i = c.in_ok-at.ensures.found_inside in
    let left : a.count - l.counter - 1 ≡ a.count - (l.counter + 1) = omega arith in (
      l.invariant.0
          ∙ rw (
            past_turn a.kind a.people a.block.now (a.count - l.counter) l.at (omega arith),
            ← c.field_at.ensures.value,
            c.in_ok-at.was,
            drop_on a.block.now l.at c.in_ok-at.field-0.stop (omega (arith, i)),
            left,
          ),
      omega (arith, i),
      omega (arith, i),
    )

pub returns : goal.returns
unfolding past times
returns c =
    let l = c.loop in
    let z : c.args.count - l.counter ≡ 0 = omega arith in
    record { value = rw (l.invariant.0, z); step_inside = (l.invariant.1, l.invariant.2) }
