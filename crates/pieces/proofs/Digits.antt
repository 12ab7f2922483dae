-- A text put at the start of a buffer that has room for it: the place after it, and the buffer's front, which is the text. Rests on decimal and stores.
use mathlib.Core.Path.{◌≡◌}
use mathlib.Core.List.{List}
use Prim.Native.Nat.{ℕ, ◌+◌, ◌≤◌}
use native.Mathlib.Nat.{zero-add}
use lib.ListN.{length, take, drop}
use lib.Seq.{sets-eq, take-append_seam, length-sets}
use Rattle.std.specs.Prelude.{unwrap_or}
use borrow.Author.Tests.{le-ltb}
use Rattle.decimal.specs.Decimal.{placed}
use Rattle.stores.specs.Stores.{filled}

pub place_after_text : (room : ℕ) (xs : List ℕ) → length xs ≤ room → unwrap_or (placed room 0 xs) 0 ≡ length xs
unfolding placed
place_after_text room xs h = rw (zero-add (length xs), le-ltb room (length xs) h)

pub text_first : (l xs : List ℕ) → length xs ≤ length l → take (length xs) (filled l 0 xs) ≡ xs
unfolding filled
text_first l xs h =
    let k : 0 + length xs ≤ length l = rw (zero-add (length xs)) h in
    rw (le-ltb (length l) (0 + length xs) k, sets-eq xs l 0 k) (take-append_seam xs (drop (0 + length xs) l))

-- a text that has room leaves the buffer as long as it was
pub length_text : (l xs : List ℕ) → length xs ≤ length l → length (filled l 0 xs) ≡ length l
unfolding filled
length_text l xs h =
    let k : 0 + length xs ≤ length l = rw (zero-add (length xs)) h in
    rw (le-ltb (length l) (0 + length xs) k) (length-sets l 0 xs)
