-- `vectors::Rule::vectors` meets its contract. The loop's invariant: the part is judged as what is left of it, at its place.
use Rattle.std.proofs.Common.{◌∙◌, arith, rules}
use Rattle.std.specs.Slice.Iter.{chunks_exact_rest}
use Rattle.vectors.proofs.Lots.{length_cut, judged_vector}
use Rattle.vectors.proofs.Rule.vectors.Goals as goal

pub returns-in_err-vector : goal.returns-in_err-vector
returns-in_err-vector c =
    let l = c.loop-v.invariant in
    let s = c.in-Some.ensures.steps in
    let r = c.args.self.now in
    rw (← l.4, judged_vector _ _ _ _ _ _ _ _ _ r.by_type.0 r.some s.1.0 (s.1.1 ∙ l.2), ← c.vector.ensures, c.in_err-vector.was) (search rules)

pub loop-v-preserved : goal.loop-v-preserved
loop-v-preserved c =
    let l = c.loop-v.invariant in
    let s = c.in-Some.ensures.steps in
    let r = c.args.self.now in
    let n = length_cut _ c.in-Some.v.now (chunks_exact_rest c.next.new.self) s.1.0 in (
      search rules,
      tt,
      s.0 ∙ l.2,
      omega arith,
      rw (← l.4, judged_vector _ _ _ _ _ _ _ _ _ r.by_type.0 r.some s.1.0 (s.1.1 ∙ l.2), ← c.vector.ensures, c.in_ok-vector.was),
    )
