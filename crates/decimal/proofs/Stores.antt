-- Texts in a buffer: what is answered to one, and two put one after the other. Rests on specs/Decimal.
use mathlib.Core.Path.{◌≡◌}
use mathlib.Core.List.{List, ◌++◌, [], ◌∷◌}
use Prim.Native.Nat.{ℕ, ◌+◌, ◌≤◌, suc}
use native.Mathlib.Omega.{arith}
use native.Mathlib.Nat.{add-suc, add-zero, suc-add}
use lib.ListN.{length, length-append, set}
use lib.Seq.{sets, length-sets, set_comm}
use borrow.Author.Tests.{lt-ltb, le-ltb}
use Rattle.std.specs.Prelude.{Some, None, false}
use Rattle.words.proofs.Stores.{sets_append}
use Rattle.stores.specs.Stores.{fits, filled}
use Rattle.stores.proofs.Room.{room_short}
use Rattle.decimal.specs.Decimal.{placed}

-- the last character may be stored before the others
pub last_first : (xs : List ℕ) (c : ℕ) (l : List ℕ) (i : ℕ) → sets l i (xs ++ (c ∷ [])) ≡ sets (set l (i + length xs) c) i xs
last_first [] c l i = rw add-zero
last_first (x ∷ xs) c l i =
    rw (last_first xs c (set l i x) (suc i), set_comm l i (suc i + length xs) x c (omega arith), add-suc i (length xs), suc-add i (length xs))

-- what is answered where a text has no room, and where it has
pub placed_short : (room at : ℕ) (text : List ℕ) → fits room at (length text) ≡ false → placed room at text ≡ None
unfolding placed
placed_short room at text h = rw (lt-ltb _ _ (room_short _ _ _ h))

pub placed_room : (room at : ℕ) (text : List ℕ) → at + length text ≤ room → placed room at text ≡ Some (at + length text)
unfolding placed
placed_room room at text h = rw (le-ltb _ _ h)

-- two texts that have room, put one after the other, are one text put
pub one_after_other : (buf : List ℕ) (at : ℕ) (xs ys : List ℕ) → at + length (xs ++ ys) ≤ length buf
    → filled (filled buf at xs) (at + length xs) ys ≡ filled buf at (xs ++ ys)
unfolding filled
one_after_other buf at xs ys h =
    let e = length-append xs ys in
    let q : at + length xs ≤ length buf = omega arith in
    let r : at + length xs + length ys ≤ length (sets buf at xs) = rw length-sets (omega arith) in
    rw (le-ltb _ _ q, le-ltb _ _ r, le-ltb _ _ h, sets_append xs ys buf at)
