-- A rule of the whole table of types is one computed test, and holds of each row. Rests on types' table.
use mathlib.Core.Path.{◌≡◌, refl}
use mathlib.Core.List.{List, [], ◌∷◌}
use mathlib.Core.Bool.{Bool, true, false}
use Prim.Native.Nat.{ℕ, zero, suc}
use lib.ListN.{get_or}
use Rattle.words.specs.Pick.{pick}
use Rattle.types.specs.declared.Row.{Row}

abbrev pub every : (Row → Bool) → List Row → Bool
every f [] = true
every f (r ∷ rs) = pick (f r) (every f rs) false

pub head_of : (a b : Bool) → pick a b false ≡ true → a ≡ true
head_of true b h = refl
head_of false b h = h

rest_of : (a b : Bool) → pick a b false ≡ true → b ≡ true
rest_of true b h = h
rest_of false b h = cc

pub implied : (a b : Bool) → pick a b true ≡ true → a ≡ true → b ≡ true
implied true b h e = h
implied false b h e = cc

-- the law: a test that is passed by every row of a table, and by the row past its end, is passed by the row of each code
pub each : (f : Row → Bool) (rs : List Row) (d : Row) (k : ℕ) → every f rs ≡ true → f d ≡ true → f (get_or rs k d) ≡ true
each f [] d k h e = e
each f (r ∷ rs) d zero h e = head_of (f r) (every f rs) h
each f (r ∷ rs) d (suc k) h e = each f rs d k (rest_of (f r) (every f rs) h) e
