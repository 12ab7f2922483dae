-- Bytes stored over a part, and one turn of a loop that stores elements one after the other. Rests on stores and on how long elements are.
use Rattle.std.proofs.Common.{◌≡◌, ℕ, zero, suc, ◌+◌, ◌-◌, ◌/◌, ◌<◌, ◌≤◌, List, [], ◌∷◌, length, take, refl, sym, ◌∙◌, arith, append_assoc, append-nil, map, get_or, ◌*◌, ◌++◌}
use Rattle.std.specs.Int.{w32, to_le_bytes}
use Rattle.std.proofs.lemmas.List.Edits.{sets, sets-eq, paste_all}
use Rattle.std.proofs.lemmas.List.{take_more, length-take-le, length-map, map-append}
use Rattle.std.proofs.Math.Nat.{mul-le-mul_right, suc-mul}
use Rattle.std.proofs.lemmas.Slice.{put_mid-paste}
use borrow.Rule.Slice.PartMut.{put_mid}
use Rattle.words.specs.Words.{bytes}
use Rattle.words.proofs.Stores.{sets_append}
use Rattle.words.proofs.Words.{length_bytes}
use Rattle.types.specs.Rows.{width_of}
use Rattle.encode.specs.Encode.{narrowed, elements_bytes}
use Rattle.encode.proofs.Lengths.{length_elements_bytes}

-- the low bytes of 32 bits, as the language gives them
low_bytes : (w v : ℕ) → w ≤ 4 → take w (to_le_bytes w32 v) ≡ bytes w v
unfolding bytes
low_bytes zero v h = refl
low_bytes (suc zero) v h = refl
low_bytes (suc (suc zero)) v h = refl
low_bytes (suc (suc (suc zero))) v h = let e : v / 65536 ≡ v / 256 / 256 = omega arith in rw e
low_bytes (suc (suc (suc (suc zero)))) v h =
    let e : v / 65536 ≡ v / 256 / 256 = omega arith in
    let f : v / 16777216 ≡ v / 256 / 256 / 256 = omega arith in
    rw (e, f)
low_bytes (suc (suc (suc (suc (suc w))))) v h = absurd (omega arith)

-- bytes written over a part of their length
pub stored : (buf : List ℕ) (at w v : ℕ) (part : List ℕ) → at + w ≤ length buf → w ≤ 4 → part ≡ take w (to_le_bytes w32 v)
    → put_mid at (at + w - at) buf part ≡ sets buf at (bytes w v)
stored buf at w v part h k e =
    let n : length (bytes w v) ≡ w = length_bytes w v in
    put_mid-paste at (at + w - at) buf part (bytes w v) w (e ∙ low_bytes w v k) (omega arith) (sym n)
    ∙ paste_all buf at (bytes w v) w (sym n) ∙ sym (rw (n, append_assoc) at (sets-eq (bytes w v) buf at (omega arith)))

-- the room for one element of those that have room
pub element_room : (at i n w m : ℕ) → i < n → at + n * w ≤ m → at + i * w + w ≤ m
element_room at i n w m h r =
    let q : suc i * w ≤ n * w = mul-le-mul_right w h in
    omega (arith, q, suc-mul i w)

-- one element more
elements_push : (t : ℕ) (xs : List ℕ) (x : ℕ) → elements_bytes t (xs ++ x ∷ []) ≡ elements_bytes t xs ++ bytes (width_of t) (narrowed t x)
unfolding elements_bytes
elements_push t [] x = rw append-nil
elements_push t (y ∷ ys) x = rw (elements_push t ys x, append_assoc)

pub elements_more : {X : Type 0} (shown : X → ℕ) (buf : List ℕ) (at t w i : ℕ) (vs : List X) (v : X) (number : ℕ) → w ≡ width_of t → i < length vs
    → v ≡ get_or vs i v → bytes (width_of t) number ≡ bytes (width_of t) (narrowed t (shown v))
    → sets (sets buf at (elements_bytes t (map shown (take i vs)))) (at + i * w) (bytes w number)
    ≡ sets buf at (elements_bytes t (map shown (take (i + 1) vs)))
elements_more shown buf at t w i vs v number e h q b =
    let xs = map shown (take i vs) in
    let n : length (take i vs) ≡ i = length-take-le i vs (omega arith) in
    rw (take_more vs i v h, ← q, map-append, elements_push t xs (shown v), sets_append, length_elements_bytes t xs, length-map, n, e, b)
