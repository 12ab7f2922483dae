-- What the table of all characters' values holds at a character.
-- Rests on specs/Hexadecimal.
use mathlib.Core.Path.{◌≡◌}
use Prim.Native.Nat.{ℕ, zero, suc, ◌+◌, ◌<◌}
use native.Mathlib.Nat.{add-zero, zero-add, add-suc, suc-add}
use native.Mathlib.Omega.{arith}
use lib.ListN.{get_or}
use Rattle.hexadecimal.specs.Hexadecimal.{digit, values_from}

from : (c n k : ℕ) → k < n → get_or (values_from c n) k 0 ≡ digit (c + k)
unfolding values_from
from c zero k h = absurd (omega arith)
from c (suc n) zero h = rw add-zero
from c (suc n) (suc k) h = rw (add-suc c k, ← suc-add c k) (from (suc c) n k (omega arith))

-- at a character of the table: its value
pub entry : (n k : ℕ) → k < n → get_or (values_from 0 n) k 0 ≡ digit k
entry n k h = rw (zero-add k) at (from 0 n k h)
