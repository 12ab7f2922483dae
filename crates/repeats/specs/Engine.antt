-- An engine's own words, which no public promise cites: how repeats are found. A window is a stretch of 4,194,304 offsets, kept as bits, 32 in a
-- number. Rests on words' lists.
use Rattle.std.specs.Prelude.{ℕ, zero, suc, ◌+◌, ◌*◌, ◌/◌, ◌%◌, ◌^◌, ◌<◌, ◌≤◌, ◌≡◌, ◌⊎◌, List, [], ◌∷◌, Bool, true, false, eqb, leb, length, get_or, set}
use Rattle.words.specs.Lists.{among}
use Rattle.words.specs.Pick.{pick}

-- the first n numbers, the last of them first
unfoldable pub earlier : ℕ → List ℕ → List ℕ
earlier zero xs = []
earlier (suc n) xs = get_or xs n 0 ∷ earlier n xs

-- whether the number at an index stood earlier
unfoldable pub stood : List ℕ → ℕ → Bool
stood xs i = among (get_or xs i 0) (earlier i xs)

-- no number is above the most
abbrev pub UpTo : ℕ → List ℕ → Type 0
UpTo most xs = (i : ℕ) → i < length xs → get_or xs i 0 ≤ most

-- few numbers, for the windows up to the most
unfoldable pub few : ℕ → ℕ → Bool
few count most = pick (leb 65536 count) false (leb (count * count / 65536) (most / 4194304))

-- whether an offset's bit is set, and the bits with it set
unfoldable pub held : List ℕ → ℕ → Bool
held bits y = eqb (get_or bits (y / 32) 0 / 2 ^ (y % 32) % 2) 1

unfoldable pub with_bit : List ℕ → ℕ → List ℕ
with_bit bits y = set bits (y / 32) (get_or bits (y / 32) 0 + 2 ^ (y % 32))

-- whether an offset of a window is noted, and the bits after it is
unfoldable pub noted : ℕ → ℕ → List ℕ → Bool
noted window x bits = pick (eqb (x / 4194304) window) (held bits (x % 4194304)) false

unfoldable pub noting : ℕ → ℕ → List ℕ → List ℕ
noting window x bits = pick (eqb (x / 4194304) window) (pick (held bits (x % 4194304)) bits (with_bit bits (x % 4194304))) bits

-- no number of a window that stands before an index stood earlier
abbrev pub Fresh : ℕ → List ℕ → ℕ → Type 0
Fresh window xs i =
    (j : ℕ) → j < i → get_or xs j 0 / 4194304 ≡ window → stood xs j ≡ false

-- a bound for the first repeat, after a window's sweep up to another: that one or a repeat, and before it no repeat of the window
abbrev pub Bounded : ℕ → ℕ → List ℕ → ℕ → Type 0
Bounded window bound xs r =
    (r ≤ bound) × ((r ≡ bound) ⊎ (stood xs r ≡ true)) × Fresh window xs r

-- the first repeat among the first so many numbers, or their count
abbrev pub FirstWithin : ℕ → List ℕ → ℕ → Type 0
FirstWithin count xs r =
    (r ≤ count) × ((r ≡ count) ⊎ (stood xs r ≡ true)) × ((j : ℕ) → j < r → stood xs j ≡ false)

-- a bound after all windows below one: the count of all numbers or a repeat, and before it no repeat of those windows
abbrev pub Below : ℕ → ℕ → List ℕ → Type 0
Below window bound xs =
    (bound ≤ length xs) × ((bound ≡ length xs) ⊎ (stood xs bound ≡ true)) × ((j : ℕ) → j < bound → get_or xs j 0 / 4194304 < window → stood xs j ≡ false)
