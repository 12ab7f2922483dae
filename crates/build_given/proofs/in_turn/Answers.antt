-- `build_given::in_turn` meets its contract. The loop's invariant: the elements are judged as those that are left.
use Rattle.std.proofs.Common.{◌∙◌, arith, rules}
use Rattle.build_given.proofs.Turns.{elements_chunk}
use Rattle.build_given.proofs.in_turn.Goals as goal

pub loop-part-preserved : goal.loop-part-preserved
loop-part-preserved g c =
    let l = c.loop-part.invariant in
    let s = c.in-Some.ensures.steps in
    (search rules, tt, s.0 ∙ l.2, rw (← l.3, elements_chunk _ _ _ _ _ _ _ (omega arith) s.1.0 (s.1.1 ∙ l.2), ← c.vector_of.ensures, c.in_default.is))

pub returns-in-Err : goal.returns-in-Err
returns-in-Err g c =
    let l = c.loop-part.invariant in
    let s = c.in-Some.ensures.steps in
    rw (← l.3, elements_chunk _ _ _ _ _ _ _ (omega arith) s.1.0 (s.1.1 ∙ l.2), ← c.vector_of.ensures, c.in-Err.is)
