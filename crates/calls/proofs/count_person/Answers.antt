-- `calls::count_person` meets its contract.
use mathlib.Core.Path.{◌≡◌, ap, sym, ◌∙◌}
use Prim.Native.Nat.{◌+◌, ◌%◌, ◌<◌}
use native.Mathlib.Nat.{mul-one, mul-zero, zero-mul}
use native.Mathlib.Omega.{arith}
use lib.ListN.{get_or, length, length-append, length-set}
use Rattle.std.specs.Iterator.Adapters.{enumerate_source}
use Rattle.std.specs.Slice.Iter.{chunks_exact_rest}
use Rattle.calls.specs.Engine.{folded}
use Rattle.calls.proofs.Counters.{raised_none, raised_one, set_past, set_within, wider}
use Rattle.calls.proofs.Pairs.{folded_set, folded_above, folded_65}
use Rattle.calls.proofs.Turns.{person_turn, person_end}
use Rattle.calls.proofs.count_person.Goals as goal

pub returns-in_default-clause-value : goal.returns-in_default-clause-value
returns-in_default-clause-value c =
    let l = c.loop-i in
    let h = c.in-Some.ensures.steps.0.1 in
    let p = c.requires.w_in_bounds in
    let t = person_turn c.args.code c.args.w _ _ _ p.0 p.1 h.0 (h.1 ∙ l.invariant.4) in
    rw (l.invariant.0, t.0, ← c.word.ensures, ← c.slot_of.ensures, c.in_default.is) (sym (mul-one _))

pub returns-in_default-clause-pairs_after : goal.returns-in_default-clause-pairs_after
returns-in_default-clause-pairs_after c =
    let l = c.loop-i in
    let h = c.in-Some.ensures.steps.0.1 in
    let p = c.requires.w_in_bounds in
    let t = person_turn c.args.code c.args.w _ _ _ p.0 p.1 h.0 (h.1 ∙ l.invariant.4) in
    rw (l.invariant.1, t.1, ← c.word.ensures, ← c.slot_of.ensures, c.in_default.is) (sym (raised_none _ _))

pub overflow_add-pairs-then-a-lt65 : goal.overflow_add-pairs-then-a-lt65
overflow_add-pairs-then-a-lt65 c =
    let l = c.loop-i in
    let k = c.in-Some-slot_of.a in
    let h = c.in-Some.ensures.steps.0.1 in
    let b = l.invariant.2 k in
    let g : c.in-Some.i % 2 < 2 = omega arith in
    omega (arith, folded_above l.pairs k (c.in-Some.i % 2) g, simp length-append at (ap length h.0))

pub loop-i-preserved-then-a-lt65 : goal.loop-i-preserved-then-a-lt65
loop-i-preserved-then-a-lt65 c =
    let l = c.loop-i in
    let k = c.in-Some-slot_of.a in
    let h = c.in-Some.ensures.steps.0.1 in
    let p = c.requires.w_in_bounds in
    let t = person_turn c.args.code c.args.w _ _ _ p.0 p.1 h.0 (h.1 ∙ l.invariant.4) in
    let n = simp length-append at (ap length h.0) in
    let z : length l.pairs % 2 ≡ 0 = rw l.invariant.3 in
    let q = folded_set l.pairs k (c.in-Some.i % 2) z (omega arith) in
    let b = l.invariant.2 k in (
      rw (l.invariant.0, t.0, ← c.word.ensures, ← c.slot_of.ensures, c.in-Some-slot_of.is, zero-mul) (mul-zero _),
      rw (l.invariant.1, t.1, ← c.word.ensures, ← c.slot_of.ensures, c.in-Some-slot_of.is, q) (raised_one _ _ _),
      rw q (set_within (folded l.pairs) k _ _ (omega arith) (wider _ _ (folded l.pairs) (omega arith) l.invariant.2)),
      rw length-set l.invariant.3,
      c.in-Some.ensures.steps.0.0 ∙ l.invariant.4,
      omega arith,
      omega arith,
    )

pub loop-i-preserved : goal.loop-i-preserved
loop-i-preserved c =
    let l = c.loop-i in
    let k = c.in-Some-slot_of.a in
    let h = c.in-Some.ensures.steps.0.1 in
    let p = c.requires.w_in_bounds in
    let t = person_turn c.args.code c.args.w _ _ _ p.0 p.1 h.0 (h.1 ∙ l.invariant.4) in
    let n = simp length-append at (ap length h.0) in
    let q = set_past (folded l.pairs) k (get_or (folded l.pairs) k 0 + 1) (let n = c.if-a-lt65.false in omega (arith, folded_65 l.pairs l.invariant.3)) in (
      rw (l.invariant.0, t.0, ← c.word.ensures, ← c.slot_of.ensures, c.in-Some-slot_of.is, zero-mul) (mul-zero _),
      rw (l.invariant.1, t.1, ← c.word.ensures, ← c.slot_of.ensures, c.in-Some-slot_of.is) (raised_one (folded l.pairs) k _ ∙ rw q),
      wider _ _ (folded l.pairs) (omega arith) l.invariant.2,
      l.invariant.3,
      c.in-Some.ensures.steps.0.0 ∙ l.invariant.4,
      omega arith,
      omega arith,
    )

pub returns-clause-value : goal.returns-clause-value
returns-clause-value c =
    let rest = chunks_exact_rest (enumerate_source c.loop-i.i-iterator) in
    let h : length rest < c.args.w = let h = c.in-None.ensures.steps.0.1 in omega arith in
    rw (c.loop-i.invariant.0, (person_end c.args.code c.args.w rest h).0) (sym (mul-one _))

pub returns-clause-pairs_after : goal.returns-clause-pairs_after
returns-clause-pairs_after c =
    let rest = chunks_exact_rest (enumerate_source c.loop-i.i-iterator) in
    let h : length rest < c.args.w = let h = c.in-None.ensures.steps.0.1 in omega arith in
    rw (c.loop-i.invariant.1, (person_end c.args.code c.args.w rest h).1) (sym (raised_none _ _))
