-- Bytes stored into a buffer at a place, where they have room. Rests on the choice by a test.
use Rattle.std.specs.Prelude.{ℕ, ◌+◌, List, Bool, true, false, ltb, length}
use Rattle.std.proofs.lemmas.List.Edits.{sets}
use Rattle.words.specs.Pick.{pick}

-- whether so many bytes from a place on lie in a buffer of so many
unfoldable pub fits : ℕ → ℕ → ℕ → Bool
fits room at n = pick (ltb room (at + n)) false true

-- the buffer afterwards: with the bytes at the place where they have room, else as it was
unfoldable pub filled : List ℕ → ℕ → List ℕ → List ℕ
filled buf at bs = pick (ltb (length buf) (at + length bs)) buf (sets buf at bs)
