-- A value that is a bare 00, as fetching and the walker tell it. Rests on nothing.
use Rattle.std.specs.Prelude.{ℕ, ◌-◌, ◌<◌, ◌≡◌, List, [], ◌∷◌, take, drop}

-- of length 0, with no byte from its place on, and its place is just after a byte 00
pub record Empty (s : List ℕ) (n place stop : ℕ) : Type 0 where
  pub none : n ≡ 0
  pub ends : stop ≡ place
  pub later : 0 < place
  pub byte : take 1 (drop (place - 1) s) ≡ 0x00 ∷ []
