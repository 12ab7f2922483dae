-- `vectors::Rule::vector` meets its contract. The loop's invariant: the vector is judged as what is left of it, at its place.
use Rattle.std.proofs.Common.{◌∙◌, rules}
use Rattle.vectors.specs.Vectors.{vector}
use Rattle.vectors.proofs.Lots.{numbers_chunk}
use Rattle.vectors.proofs.Rule.vector.Goals as goal

pub returns-in_default : goal.returns-in_default
unfolding vector
returns-in_default c =
    let l = c.loop-e.invariant in
    let s = c.in-Some.ensures.steps in
    let w = c.args.self.now.by_type.1 in
    rw (← l.4, numbers_chunk _ _ _ _ (search rules, w) s.1.0 (s.1.1 ∙ l.2), ← c.word.ensures, ← c.judge_one-turn.ensures, c.turn_refusal.ensures, c.in_default.is)
