-- `frames::put_numbers` meets its contract. The loop's invariant: the numbers so far are stored, each in room for its twenty digits and a space.
use Rattle.std.proofs.Common.{◌≡◌, ◌+◌, ◌*◌, ◌≤◌, length, take}
use Rattle.std.proofs.lemmas.List.Edits.{sets}
use Rattle.frames.specs.Text.{spaced}
use Rattle.frames.proofs.put_numbers.Given as goal

abbrev pub invariant-loop-n : goal.invariant-loop-n
invariant-loop-n l = record {
  place : l.at ≡ l.from + length (spaced (take l.n-index l.numbers));
  room : l.at ≤ l.from + l.n-index * 21;
  stored : l.out ≡ sets l.initial.out l.from (spaced (take l.n-index l.numbers));
}
