-- `vectors::Rule::by_lots` meets its contract. The loop's invariant: the part is judged as what is left of it, at its place.
use Rattle.std.proofs.Common.{◌≡◌, ◌∙◌, sym, arith, rules}
use Rattle.std.specs.Slice.Iter.{chunks_rest}
use Rattle.vectors.specs.Engine.{judged_at}
use Rattle.vectors.proofs.Lots.{length_cut, judged_lot}
use Rattle.vectors.proofs.Rule.by_lots.Goals as goal
use Rattle.vectors.specs.Vectors.{Sound}
use Rattle.vectors.proofs.Rule.by_lots.Goals.{then-not-is_plain+in_ok-slowly, else-not-is_plain}

pub returns-in_err-slowly : goal.returns-in_err-slowly
returns-in_err-slowly g c =
    let l = c.loop-lot.invariant in
    let s = c.in-Some.ensures.steps in
    let r = c.args.self.now in
    let n = length_cut _ c.in-Some.lot.now (chunks_rest c.next.new.self) s.1.0 in
    rw (← l.4, judged_lot _ _ _ _ _ _ _ _ _ _ _ r.by_type.0 r.some s.1.0 (rw l.2 at s.1.1) (omega arith), ← c.requires.judges _ _ _ c.slowly.ensures, c.in_err-slowly.was) (search rules)

pub loop-lot-preserved : goal.loop-lot-preserved
loop-lot-preserved g c =
    let l = c.loop-lot.invariant in
    let s = c.in-Some.ensures.steps in
    let r = c.args.self.now in
    let n = length_cut _ c.in-Some.lot.now (chunks_rest c.next.new.self) s.1.0 in
    let sound : judged_at r.most r.code r.len c.loop-lot.at c.in-Some.lot.now ≡ Sound = elim c.if-not-is_plain.branch [
      | then-not-is_plain+in_ok-slowly w ↦ sym (c.requires.judges _ _ _ w.slowly.ensures) ∙ w.in_ok-slowly.was
      | else-not-is_plain w ↦ c.is_plain.ensures (search rules) c.loop-lot.at
    ] in (
      search rules,
      tt,
      s.0 ∙ l.2,
      omega arith,
      rw (← l.4, judged_lot _ _ _ _ _ _ _ _ _ _ _ r.by_type.0 r.some s.1.0 (rw l.2 at s.1.1) (omega arith), sound),
    )
