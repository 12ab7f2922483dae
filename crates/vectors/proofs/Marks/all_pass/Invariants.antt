-- `vectors::Marks::all_pass` meets its contract. The loop's invariant: all pass where those that came did and those left do.
use Rattle.std.proofs.Common.{◌≡◌, ◌/◌, false, length}
use Rattle.std.specs.Slice.Iter.{chunks_exact_rest, chunks_exact_size}
use Rattle.words.specs.Pick.{pick}
use Rattle.vectors.specs.Engine.{all_passed}
use Rattle.vectors.specs.Vectors.{numbers}
use Rattle.vectors.proofs.Marks.all_pass.Given as goal

abbrev pub invariant-loop-e : goal.invariant-loop-e
invariant-loop-e g l =
    let w = g.N.Stored.WIDTH in
    let v = g.N.Stored.value in
    let all = all_passed (v l.self.low) (v l.self.high) (v l.self.missing) (v l.self.most) in
    let rest = chunks_exact_rest l.e-iterator in
    (goal.iterator-loop-e g).can_next l.e-iterator
    × (goal.iterator-loop-e g).is_finite l.e-iterator
    × (chunks_exact_size l.e-iterator ≡ w)
    × (all (numbers w (length l.part / w) l.part) ≡ pick l.good (all (numbers w (length rest / w) rest)) false)
