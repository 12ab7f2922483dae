-- `build_given::Marks::all_pass` meets its contract. The loop's invariant: all pass where those before the place did and those left do.
use Rattle.std.proofs.Common.{◌≡◌, ◌&&◌, map, drop}
use Rattle.vectors.specs.Engine.{all_passed}
use Rattle.build_given.proofs.Marks.all_pass.Given as goal

abbrev pub invariant-loop-x : goal.invariant-loop-x
invariant-loop-x g l =
    let all = all_passed l.self.low l.self.high l.self.missing l.self.most in
    all (map g.T.Given.bits l.values) ≡ l.good && all (map g.T.Given.bits (drop l.x-index l.values))
