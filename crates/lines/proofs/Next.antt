-- What is taken from a place of a piece, by what is found there: nothing more, a line's feed, or the piece's end. Rests on specs/Lines.
use mathlib.Core.Path.{◌≡◌, refl}
use mathlib.Core.List.{List, []}
use Prim.Native.Nat.{ℕ, ◌+◌, ◌-◌, ◌<◌, ◌≤◌}
use native.Mathlib.Omega.{arith}
use native.Mathlib.Nat.{add-zero, add-sub_cancel_left}
use lib.ListN.{length, take, drop, length-drop, drop_of_length-le}
use lib.Seq.{sets, take-nil}
use borrow.Author.Tests.{lt-ltb, le-ltb}
use Rattle.lines.specs.Lines.{line_length, fitting, added, taken, taken_into}
use Rattle.lines.specs.declared.Taken.TheVariants.{Line, Part}

-- past the piece nothing is added
pub added_past : (line : List ℕ) (held : ℕ) (piece : List ℕ) (at : ℕ) → length piece ≤ at → added line held piece at ≡ []
unfolding added fitting line_length
added_past line held piece at h = rw (drop_of_length-le piece {i = at} h) (take-nil (length line - held))

pub taken_past : (line : List ℕ) (held : ℕ) (piece : List ℕ) (at : ℕ) → length piece ≤ at → taken line held piece at ≡ Part held
unfolding taken
taken_past line held piece at h =
    let e = added_past line held piece at h in
    rw (e, le-ltb (at + line_length (drop at piece)) (length piece) (omega arith), add-zero held)

pub into_past : (line : List ℕ) (held : ℕ) (piece : List ℕ) (at : ℕ) → length piece ≤ at → taken_into line held piece at ≡ line
unfolding taken_into
into_past line held piece at h = rw (added_past line held piece at h)

-- up to a place where the line ends
pub added_to : (line : List ℕ) (held : ℕ) (piece : List ℕ) (at end : ℕ) → end ≡ at + line_length (drop at piece)
    → added line held piece at ≡ fitting line held (take (end - at) (drop at piece))
unfolding added
added_to line held piece at end e = rw (e, add-sub_cancel_left)

-- a line whose feed is there, and a piece that ends before its line does
pub taken_line : (line : List ℕ) (held : ℕ) (piece : List ℕ) (at : ℕ) → at + line_length (drop at piece) < length piece
    → taken line held piece at ≡ Line (held + length (added line held piece at)) (at + line_length (drop at piece) + 1)
unfolding taken
taken_line line held piece at h = rw (lt-ltb _ _ h)

pub taken_part : (line : List ℕ) (held : ℕ) (piece : List ℕ) (at : ℕ) → length piece ≤ at + line_length (drop at piece)
    → taken line held piece at ≡ Part (held + length (added line held piece at))
unfolding taken
taken_part line held piece at h = rw (le-ltb _ _ h)

-- the same, said of the bytes from the place on
pub line_there : (line : List ℕ) (held : ℕ) (piece : List ℕ) (at : ℕ) → line_length (drop at piece) < length (drop at piece)
    → taken line held piece at
    ≡ Line (held + length (fitting line held (take (line_length (drop at piece)) (drop at piece)))) (at + line_length (drop at piece) + 1)
unfolding added
line_there line held piece at h = let k = rw length-drop at h in taken_line line held piece at (omega arith)

pub part_there : (line : List ℕ) (held : ℕ) (piece : List ℕ) (at : ℕ) → length (drop at piece) ≤ line_length (drop at piece)
    → taken line held piece at ≡ Part (held + length (fitting line held (take (line_length (drop at piece)) (drop at piece))))
unfolding added
part_there line held piece at h = let k = rw length-drop at h in taken_part line held piece at (omega arith)

pub into_is : (line : List ℕ) (held : ℕ) (piece : List ℕ) (at : ℕ)
    → taken_into line held piece at ≡ sets line held (fitting line held (take (line_length (drop at piece)) (drop at piece)))
unfolding taken_into added
into_is line held piece at = refl
