-- `calls::few_of` meets its contract.
use Prim.Native.Nat.{◌<◌, ◌≤◌}
use native.Mathlib.Omega.{arith}
use lib.ListN.{length}
use lib.Seq.{take_all}
use borrow.Author.Rules.{rules}
use Rattle.calls.specs.Calls.{how_many, counters}
use Rattle.calls.specs.Engine.{halves}
use Rattle.calls.proofs.Halves.{count_turn, get_or_halves, length_halved}
use Rattle.calls.proofs.few_of.Goals as goal

pub loop-x-init : goal.loop-x-init
unfolding how_many
loop-x-init c = search rules

pub loop-x-preserved : goal.loop-x-preserved
loop-x-preserved c =
    let l = c.loop-x in
    let i = l.x-index in
    let s = c.args.part.now in
    let h : i < length s = omega arith in
    let n : i < length (halves s) = rw length_halved h in (
      count_turn (halves s) 0 i _ _ n l.invariant.0 (rw get_or_halves c.from.ensures),
      count_turn (halves s) 1 i _ _ n l.invariant.1 (rw get_or_halves c.from-in-loop-x.ensures),
      count_turn (halves s) 2 i _ _ n l.invariant.2 (rw get_or_halves c.from-in-loop-x-2.ensures),
      count_turn (halves s) 3 i _ _ n l.invariant.3 (rw get_or_halves c.from-in-loop-x-3.ensures),
      count_turn s 0x81 i _ _ h l.invariant.4 c.from-in-loop-x-4.ensures,
      grind arith,
      grind arith,
      grind arith,
      grind arith,
      grind arith,
    )

pub returns : goal.returns
unfolding counters
returns c =
    let s = c.args.part.now in
    let i = c.loop-x.x-index in
    let h : length s ≤ i = omega arith in
    let n : length (halves s) ≤ i = rw length_halved h in
    let v = c.loop-x.invariant in
    (rw (v.0, v.1, v.2, v.3, take_all i (halves s) n), rw (v.4, take_all i s h))
