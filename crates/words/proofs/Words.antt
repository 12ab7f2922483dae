-- Laws of little-endian numbers, over the width. Rests on the definitions of specs/Words.
use mathlib.Core.Path.{◌≡◌, refl, ap}
use mathlib.Core.List.{List, [], ◌∷◌, ◌++◌}
use Prim.Native.Nat.{ℕ, zero, suc, ◌+◌, ◌*◌, ◌-◌, ◌/◌, ◌%◌, ◌^◌, ◌<◌, ◌≤◌}
use native.Mathlib.Omega.{arith}
use native.Mathlib.Nat.{add-sub_cancel_left, pow-suc}
use lib.ListN.{length, get_or, take, drop, length-take, drop_of_length-le, get_or-eq_default, length-drop}
use lib.Seq.{take_all, take_at, take-nil}
use Rattle.words.specs.Words.{le, number, bytes, Bytes}

-- the first four bytes, wherever the list ends
pub number_four : (l : List ℕ) → number 4 l ≡ get_or l 0 0 + get_or l 1 0 * 256 + get_or l 2 0 * 65536 + get_or l 3 0 * 16777216
unfolding number le
number_four [] = refl
number_four (a ∷ []) = omega arith
number_four (a ∷ b ∷ []) = omega arith
number_four (a ∷ b ∷ d ∷ []) = omega arith
number_four (a ∷ b ∷ d ∷ e ∷ l) = omega arith

-- past the end of a list
pub past : (l : List ℕ) (k : ℕ) → length l ≤ k → get_or l k 0 ≡ 0
past l k h = get_or-eq_default l 0 h

pub number_past : (s : List ℕ) (at w : ℕ) → length s ≤ at → number 4 (take w (drop at s)) ≡ 0
unfolding number le
number_past s at w h = rw (drop_of_length-le s h, take-nil {A = ℕ} w)

-- where fewer than w bytes are left
pub number_rest : (s : List ℕ) (at w : ℕ) → length s - at ≤ w
    → number 4 (take (length s - at) (drop at s)) ≡ number 4 (take w (drop at s))
number_rest s at w h =
    rw (take_all (length s - at) (drop at s) (rw length-drop (omega arith)), take_all w (drop at s) (rw length-drop (omega arith)))

-- a part of at most four bytes
pub number_part : (w : ℕ) (l : List ℕ) → w ≤ 4 → number 4 (take w l) ≡ number w l
unfolding number
number_part w l h = rw (take_all 4 (take w l) (rw length-take (omega arith)))

-- the part of w bytes from a place on
pub number_at : (s : List ℕ) (at w : ℕ) → w ≤ 4 → number 4 (take (at + w - at) (drop at s)) ≡ number w (drop at s)
number_at s at w h = rw add-sub_cancel_left (number_part w (drop at s) h)

pub number_between : (s : List ℕ) (first stop w : ℕ) → stop ≡ first + w → w ≤ 4
    → number 4 (take (stop - first) (drop first s)) ≡ number w (drop first s)
number_between s first stop w e h = rw e (number_at s first w h)

-- bounds
pub le_bound : (l : List ℕ) → Bytes l → le l < 256 ^ length l
unfolding le
le_bound [] h = omega arith
le_bound (b ∷ bs) h =
    let q : le bs < 256 ^ length bs = le_bound bs h.1 in
    let p : b < 256 = h.0 in
    rw pow-suc (omega arith)

-- the bytes of a number
pub length_bytes : (w v : ℕ) → length (bytes w v) ≡ w
unfolding bytes
length_bytes zero v = refl
length_bytes (suc w) v = ap suc (length_bytes w (v / 256))

pub bytes_Bytes : (w v : ℕ) → Bytes (bytes w v)
unfolding bytes
bytes_Bytes zero v = tt
bytes_Bytes (suc w) v = (omega arith, bytes_Bytes w (v / 256))

-- reading what was written
pub le_bytes : (w v : ℕ) → v < 256 ^ w → le (bytes w v) ≡ v
unfolding bytes le
le_bytes zero v h = omega arith
le_bytes (suc w) v h =
    let p : v < 256 ^ w * 256 = rw pow-suc at h in
    rw (le_bytes w (v / 256) (omega arith)) (omega arith)

pub number_bytes : (w v : ℕ) (l : List ℕ) → v < 256 ^ w → number w (bytes w v ++ l) ≡ v
unfolding number
number_bytes w v l h = rw (take_at (bytes w v) l w (length_bytes w v)) (le_bytes w v h)

-- writing what was read
pub bytes_le : (l : List ℕ) → Bytes l → bytes (length l) (le l) ≡ l
unfolding bytes le
bytes_le [] h = refl
bytes_le (b ∷ bs) h =
    let p : b < 256 = h.0 in
    let r : (b + le bs * 256) % 256 ≡ b = omega arith in
    let q : (b + le bs * 256) / 256 ≡ le bs = omega arith in
    rw (r, q, bytes_le bs h.1)
