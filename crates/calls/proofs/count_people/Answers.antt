-- `calls::count_people` meets its contract.
use mathlib.Core.Path.{ap, sym, ◌∙◌}
use Prim.Native.Nat.{◌*◌, ◌<◌}
use native.Mathlib.Nat.{add-zero}
use native.Mathlib.Omega.{arith}
use lib.ListN.{length, length-append}
use Rattle.std.specs.Slice.Iter.{chunks_exact_rest}
use Rattle.calls.specs.Engine.{folded}
use Rattle.calls.proofs.Counters.{wider}
use Rattle.calls.proofs.Halves.{person_within}
use Rattle.calls.proofs.Turns.{people_turn, people_end}
use Rattle.calls.proofs.count_people.Goals as goal

pub loop-person-preserved : goal.loop-person-preserved
loop-person-preserved c =
    let l = c.loop-person in
    let a = c.args in
    let r = c.count_person-lacking.ensures in
    let h = c.in-Some.ensures.steps in
    let p = c.requires.w_in_bounds in
    let t = people_turn a.code a.w a.len _ _ _ (folded l.pairs) p.0 p.2 h.1.0 (h.1.1 ∙ l.invariant.5) in
    let n = simp length-append at (ap length h.1.0) in
    let b = r.upper_bound.0 in (
      omega (arith, t.0, r.value),
      l.invariant.1 ∙ rw (t.1, ← r.pairs_after),
      rw r.pairs_after (wider _ _ _ (omega arith) (person_within _ a.code a.w (folded l.pairs) c.in-Some.person.now l.invariant.2)),
      r.upper_bound.1,
      omega arith,
      h.0 ∙ l.invariant.5,
    )

pub returns-clause-value : goal.returns-clause-value
returns-clause-value c =
    let rest = chunks_exact_rest c.loop-person.person-iterator in
    let h : length rest < c.args.len * c.args.w = let h = c.in-None.ensures.steps.1 in omega arith in
    sym (rw (c.loop-person.invariant.0, (people_end c.args.code c.args.w c.args.len rest (folded c.loop-person.pairs) h).0) (add-zero _))

pub returns-clause-pairs_after : goal.returns-clause-pairs_after
returns-clause-pairs_after c =
    let rest = chunks_exact_rest c.loop-person.person-iterator in
    let h : length rest < c.args.len * c.args.w = let h = c.in-None.ensures.steps.1 in omega arith in
    sym (c.loop-person.invariant.1 ∙ (people_end c.args.code c.args.w c.args.len rest (folded c.loop-person.pairs) h).1)
