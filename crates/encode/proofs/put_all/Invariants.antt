-- `encode::put_all` meets its contract. The loop's invariant: the elements before the place are stored.
use Rattle.std.proofs.Common.{◌≡◌, map, ◌+◌, ◌*◌, take}
use Rattle.std.proofs.lemmas.List.Edits.{sets}
use Rattle.encode.specs.Encode.{elements_bytes}
use Rattle.encode.proofs.put_all.Given as goal

abbrev pub invariant-loop-v : goal.invariant-loop-v
invariant-loop-v g l =
    (l.o ≡ l.at + l.v-index * g.row.WIDTH)
    × (l.buf ≡ sets l.initial.buf l.at (elements_bytes g.row.CODE (map g.T.Given.shown (take l.v-index l.values))))
