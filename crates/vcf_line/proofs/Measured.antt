-- A length that was measured, capped at the largest number: it is below a buffer's length just where the length itself is. Rests on pieces.
use mathlib.Core.Path.{◌≡◌}
use Prim.Native.Nat.{ℕ, ◌+◌, ◌<◌, ◌≤◌}
use native.Mathlib.Omega.{arith}
use Rattle.pieces.specs.Pieces.{after}
use Rattle.pieces.proofs.Put.{After, under, over, after_either}

pub no_room : (room n : ℕ) → room ≤ 18446744073709551615 → room < after 0 n → room < n
no_room room n h k = by-either (after_either 0 n)
  where
    by-either : After 0 n → room < n
    by-either (under g e) = let q : room < 0 + n = rw e at k in omega arith
    by-either (over g e) = omega arith

pub has_room : (room n : ℕ) → room < 18446744073709551615 → after 0 n ≤ room → (n ≤ room) × (after 0 n ≡ n)
has_room room n h k = by-either (after_either 0 n)
  where
    by-either : After 0 n → (n ≤ room) × (after 0 n ≡ n)
    by-either (under g e) =
        let q : 0 + n ≤ room = rw e at k in
        (omega arith, rw e (omega arith))
    by-either (over g e) = let q : 18446744073709551615 ≤ room = rw e at k in absurd (omega arith)
