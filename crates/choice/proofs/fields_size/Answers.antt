-- `choice::fields_size` meets its contract. What is kept of a field is no longer than the field.
use Rattle.std.proofs.Common.{◌≡◌, ◌∙◌, ◌+◌, ◌-◌, drop, sym, arith}
use Rattle.choice.proofs.Sizes.{parts_fit, size_turn}
use Rattle.choice.proofs.fields_size.Goals as goal

pub overflow_mul-sum : goal.overflow_mul-sum
overflow_mul-sum c =
    let a = c.args in
    let fit = parts_fit a.people a.kept c.loop.at (drop c.loop.at a.block.now) c.requires (sym c.field_at.ensures.value ∙ c.in-Ok.is) in
    rw c.part_size.ensures.0 (omega (arith, rw c.in-Ok.is at c.field_at.ensures.found_inside))

pub overflow_add-sum : goal.overflow_add-sum
overflow_add-sum c =
    let a = c.args in
    let fit = parts_fit a.people a.kept c.loop.at (drop c.loop.at a.block.now) c.requires (sym c.field_at.ensures.value ∙ c.in-Ok.is) in
    rw c.part_size.ensures.0 (omega (arith, rw c.in-Ok.is at c.field_at.ensures.found_inside))

pub overflow_add-sum-in-loop : goal.overflow_add-sum-in-loop
overflow_add-sum-in-loop c =
    let a = c.args in
    let fit = parts_fit a.people a.kept c.loop.at (drop c.loop.at a.block.now) c.requires (sym c.field_at.ensures.value ∙ c.in-Ok.is) in
    rw c.part_size.ensures.0 (omega (arith, rw c.in-Ok.is at c.field_at.ensures.found_inside, c.loop.invariant))

pub loop-preserved : goal.loop-preserved
loop-preserved c =
    let a = c.args in
    let l = c.loop in
    let n = a.count - l.counter in
    let i = rw c.in-Ok.is at c.field_at.ensures.found_inside in
    let h = sym c.field_at.ensures.value ∙ c.in-Ok.is in
    let fit = parts_fit a.people a.kept l.at (drop l.at a.block.now) c.requires h in
    let left : n - 1 ≡ a.count - (l.counter + 1) = omega arith in
    let t = size_turn a.people a.kept n l.at a.block.now (omega arith) h (omega (arith, i)) in
    rw c.part_size.ensures.0 (l.invariant.0 ∙ rw (t, left) (omega arith), omega (arith, i), omega (arith, i, fit), omega (arith, i))
