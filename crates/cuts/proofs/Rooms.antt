-- Where the buffers have room for any record and any answer, each has. Rests on specs/Cuts.
use mathlib.Core.Path.{◌≡◌, refl}
use mathlib.Core.List.{List}
use mathlib.Core.Bool.{Bool, true, false}
use lib.Dec.{ltb}
use lib.ListN.{length}
use Prim.Native.Nat.{ℕ, ◌≤◌}
use borrow.Author.Tests.{ltb-false}
use Rattle.words.specs.Pick.{pick}
use Rattle.cuts.specs.Cuts.{record_room, line_room, roomy}

pub rooms : (frame chosen out : List ℕ) → roomy frame chosen out ≡ true
    → (record_room ≤ length frame) × (record_room ≤ length chosen) × (line_room ≤ length out)
unfolding roomy
rooms frame chosen out h =
    let one = both (ltb (length frame) record_room) _ h in
    let two = both (ltb (length chosen) record_room) _ one.1 in
    let three = both (ltb (length out) line_room) _ two.1 in
    (ltb-false (length frame) record_room one.0, ltb-false (length chosen) record_room two.0, ltb-false (length out) line_room three.0)
  where
    both : (b r : Bool) → pick b false r ≡ true → (b ≡ false) × (r ≡ true)
    both true r k = (cc, cc)
    both false r k = (refl, k)
