-- `genotypes::row_has` meets its contract. The loop's invariant: the row has the key where it was met, or where those left have it.
use Rattle.std.proofs.Common.{◌≡◌, true, drop}
use Rattle.words.specs.Lists.{among}
use Rattle.words.specs.Pick.{pick}
use Rattle.genotypes.proofs.row_has.Given as goal

abbrev pub invariant-loop-k : goal.invariant-loop-k
invariant-loop-k l = among l.key l.row ≡ pick l.met true (among l.key (drop l.k-index l.row))
