-- The elements of a part by index: how many there are, where each stands, and those of the part's front. Rests on specs/Repeats.
use mathlib.Core.Path.{◌≡◌, refl, sym, ◌∙◌}
use mathlib.Core.List.{List, [], ◌∷◌}
use Prim.Native.Nat.{ℕ, zero, suc, ◌+◌, ◌*◌, ◌/◌, ◌<◌, ◌≤◌}
use native.Mathlib.Omega.{arith}
use native.Mathlib.Nat.{suc-mul, zero-mul, div-zero, mul-div_cancel, mul-le-mul_right, div-mul-le_self}
use lib.ListN.{length, get_or, take, drop}
use lib.Seq.{drop-drop, take-nil, take-take, length-take-le}
use Rattle.words.specs.Words.{number}
use Rattle.types.specs.Rows.{width_of}
use Rattle.types.specs.Elements.{shown}
use Rattle.vectors.specs.Vectors.{shown_numbers}
use Rattle.repeats.specs.Repeats.{shown_elements}

length_shown : (t w n : ℕ) (l : List ℕ) → length (shown_numbers t w n l) ≡ n
unfolding shown_numbers
length_shown t w zero l = refl
length_shown t w (suc n) l = rw (length_shown t w n (drop w l))

pub length_elements : (t : ℕ) (l : List ℕ) → length (shown_elements t l) ≡ length l / width_of t
unfolding shown_elements
length_elements t l = length_shown t (width_of t) (length l / width_of t) l

get_or_shown : (t w n i : ℕ) (l : List ℕ) → i < n → get_or (shown_numbers t w n l) i 0 ≡ shown t (number w (drop (i * w) l))
unfolding shown_numbers
get_or_shown t w zero i l h = absurd (omega arith)
get_or_shown t w (suc n) zero l h = rw (zero-mul w)
get_or_shown t w (suc n) (suc i) l h =
    let e : w + i * w ≡ suc i * w = omega (arith, suc-mul i w) in
    get_or_shown t w n i (drop w l) (omega arith) ∙ rw (drop-drop (i * w) w l, e)

pub get_or_elements : (t i : ℕ) (l : List ℕ) → i < length l / width_of t
    → get_or (shown_elements t l) i 0 ≡ shown t (number (width_of t) (drop (i * width_of t) l))
unfolding shown_elements
get_or_elements t i l h = get_or_shown t (width_of t) (length l / width_of t) i l h

-- an element by its index has room
pub element_room : (i w m : ℕ) → i < m / w → i * w + w ≤ m
element_room i w m h =
    let q : suc i * w ≤ m / w * w = mul-le-mul_right w h in
    omega (arith, q, suc-mul i w, div-mul-le_self m w)

-- the front of a part, k elements long, has the first k elements
drop_take : (m n : ℕ) (l : List ℕ) → drop m (take (m + n) l) ≡ take n (drop m l)
drop_take zero n l = let e : 0 + n ≡ n = omega arith in rw e
drop_take (suc m) n [] = let e : suc m + n ≡ suc (m + n) = omega arith in rw e (sym (take-nil {A = ℕ} n))
drop_take (suc m) n (x ∷ l) = let e : suc m + n ≡ suc (m + n) = omega arith in rw e (drop_take m n l)

shown_front : (t w k n : ℕ) (l : List ℕ) → k ≤ n → shown_numbers t w k (take (k * w) l) ≡ take k (shown_numbers t w n l)
unfolding shown_numbers number
shown_front t w zero n l h = refl
shown_front t w (suc k) zero l h = absurd (omega arith)
shown_front t w (suc k) (suc n) l h =
    let e : suc k * w ≡ w + k * w = omega (arith, suc-mul k w) in
    rw (e, take-take w (w + k * w) l (omega arith), drop_take w (k * w) l, shown_front t w k n (drop w l) (omega arith))

whole : (k w m : ℕ) → k ≤ m / w → k * w / w ≡ k
whole k zero m h = let z : k ≡ 0 = omega (arith, h, div-zero m) in rw (z, div-zero)
whole k (suc w) m h = mul-div_cancel k (omega arith)

pub front_room : (k w m : ℕ) → k ≤ m / w → k * w ≤ m
front_room k w m h = let q : k * w ≤ m / w * w = mul-le-mul_right w h in omega (arith, q, div-mul-le_self m w)

pub elements_front : (t k : ℕ) (l : List ℕ) → k ≤ length l / width_of t → shown_elements t (take (k * width_of t) l) ≡ take k (shown_elements t l)
unfolding shown_elements
elements_front t k l h =
    let w = width_of t in
    let e : length (take (k * w) l) ≡ k * w = length-take-le (k * w) l (front_room k w (length l) h) in
    rw (e, whole k w (length l) h) (shown_front t w k (length l / w) l h)

-- and is shorter than a part of more
pub front_less : (k w m : ℕ) → k < m / w → k * w < m
front_less k zero m h = absurd (omega (arith, h, div-zero m))
front_less k (suc w) m h = omega (arith, element_room k (suc w) m h)
