-- `build_given::vector_of` meets its contract. The loop's invariant: the vector is judged as what is left of it.
use Rattle.std.proofs.Common.{◌≡◌, false, map, drop}
use Rattle.vectors.specs.Vectors.{vector}
use Rattle.build_given.proofs.vector_of.Given as goal

abbrev pub invariant-loop-x : goal.invariant-loop-x
invariant-loop-x g l =
    vector l.most l.code 0 0 l.ended (map g.T.Given.bits (drop l.x-index l.part)) ≡ vector l.most l.code 0 0 false (map g.T.Given.bits l.part)
