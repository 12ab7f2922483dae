-- One turn of a loop that stores byte by byte. Rests on the kit's `sets` and on words' bytes.
use mathlib.Core.Path.{◌≡◌}
use mathlib.Core.List.{List, [], ◌∷◌}
use Prim.Native.Nat.{ℕ, suc, ◌+◌, ◌-◌, ◌/◌, ◌%◌, ◌<◌, ◌≤◌}
use native.Mathlib.Omega.{arith}
use native.Mathlib.Nat.{add-suc}
use native.Mathlib.Numerals.{add-one}
use lib.ListN.{length, get_or, set, drop, drop_of_length-le}
use lib.Seq.{sets, drop-cons}
use Rattle.words.specs.Words.{bytes}

-- the next byte of a part
pub sets_part : (buf : List ℕ) (at : ℕ) (part : List ℕ) (i : ℕ) → i < length part
    → sets buf (at + i) (drop i part) ≡ sets (set buf (at + i) (get_or part i 0)) (at + (i + 1)) (drop (i + 1) part)
sets_part buf at part i h = rw (drop-cons part i 0 h, add-one i, add-suc at i)

pub sets_end : (buf : List ℕ) (at : ℕ) (part : List ℕ) (i : ℕ) → length part ≤ i → sets buf at (drop i part) ≡ buf
sets_end buf at part i h = rw (drop_of_length-le part {i = i} h)

-- the next byte of a part that is copied, and none left
pub part_next : (part : List ℕ) (i : ℕ) → i < length part → drop i part ≡ get_or part i 0 ∷ drop (i + 1) part
part_next part i h = rw add-one (drop-cons part i 0 h)

pub part_end : (part : List ℕ) (i : ℕ) → length part ≤ i → drop i part ≡ []
part_end part i h = drop_of_length-le part {i = i} h

-- the next byte of a number that is left, and none left
pub bytes_next : (n i v : ℕ) → i < n → bytes (n - i) v ≡ v % 256 ∷ bytes (n - (i + 1)) (v / 256)
unfolding bytes
bytes_next n i v h = let e : n - i ≡ suc (n - (i + 1)) = omega arith in rw e

pub bytes_none : (n v : ℕ) → n ≡ 0 → bytes n v ≡ []
unfolding bytes
bytes_none n v h = rw h
