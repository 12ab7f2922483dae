-- Bytes of a value appended to a record: what they are, the number and size that they are answered with, and the buffer afterwards. Rests on
-- values as they are written and on the layout.
use Rattle.std.specs.Prelude.{ℕ, ◌+◌, List, [], ltb, eqb, length}
use Rattle.std.proofs.lemmas.List.Edits.{sets}
use Rattle.words.specs.Pick.{pick}
use Rattle.encode.specs.Encode.{integer_bytes}
use Rattle.fixed.specs.Layout.{most_bytes}
use Rattle.shown.specs.Shown.{Kind}
use Rattle.shown.specs.Values.{given_bytes, pair_bytes}
use Rattle.build_append.specs.declared.Field.{Field}
use Rattle.build_append.specs.declared.Field.TheVariants.{Alone, Info, Format}
use Rattle.build_append.specs.declared.Written.{Written}

-- the number of a refusal, 0 where there is none: the first of two
unfoldable pub first_of : ℕ → ℕ → ℕ
first_of a b = pick (eqb a 0) b a

-- 2 for a record that would be over the most bytes, then 13 for a buffer too short for what would be written
unfoldable pub room_number : ℕ → ℕ → ℕ → ℕ
room_number at size room = pick (ltb most_bytes (at + size)) 2 (pick (ltb room (at + size)) 13 0)

-- nothing before ID, an allele or FILTER; the key of a pair
abbrev pub head_bytes : Field → List ℕ
head_bytes Alone = []
head_bytes (Info key) = integer_bytes key
head_bytes (Format key n) = integer_bytes key

-- one vector of all its elements; in a FORMAT field a vector for each person
abbrev pub vector_length : Field → ℕ → ℕ
vector_length Alone count = count
vector_length (Info key) count = count
vector_length (Format key n) count = n

-- a value with what stands before it
abbrev pub field_bytes : Field → Kind → List ℕ → List ℕ
field_bytes Alone k xs = given_bytes k (length xs) xs
field_bytes (Info key) k xs = pair_bytes key k (length xs) xs
field_bytes (Format key n) k xs = pair_bytes key k n xs

-- the rules' number first, then the room's; with the size of what would be written
unfoldable pub written : ℕ → ℕ → ℕ → List ℕ → Written
written at room rules bs = record { number = first_of rules (room_number at (length bs) room); size = length bs }

-- the buffer afterwards: as it was where anything is wrong
unfoldable pub written_to : List ℕ → ℕ → ℕ → List ℕ → List ℕ
written_to buf at rules bs = pick (eqb (first_of rules (room_number at (length bs) (length buf))) 0) (sets buf at bs) buf
