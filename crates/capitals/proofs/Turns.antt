-- The length of a text, and one turn of the loop that stores it. Rests on specs/Capitals.
use mathlib.Core.Path.{◌≡◌, refl}
use mathlib.Core.List.{List, [], ◌∷◌, ◌++◌, append-nil}
use Prim.Native.Nat.{ℕ, ◌+◌, ◌*◌, ◌/◌, ◌%◌, ◌<◌, ◌≤◌}
use native.Mathlib.Omega.{arith}
use native.Mathlib.Numerals.{add-one}
use lib.ListN.{length, get_or, set, take, drop, length-set, drop_of_length-le}
use lib.Seq.{drop-cons, take_all}
use Rattle.words.proofs.Stores.{fill_turn}
use Rattle.capitals.specs.Capitals.{capital, capitals}

pub length_capitals : (bs : List ℕ) → length (capitals bs) ≡ length bs * 2
unfolding capitals
length_capitals [] = refl
length_capitals (b ∷ bs) = omega (arith, length_capitals bs)

-- a text filled as far as a byte: the two characters of the next byte, and the end
pub text_turn : (text part : List ℕ) (i : ℕ) → i < length part → length text ≡ 2 * length part
    → take (2 * i) text ++ capitals (drop i part)
    ≡ take (2 * (i + 1)) (set (set text (2 * i) (capital (get_or part i 0 / 16))) (2 * i + 1) (capital (get_or part i 0 % 16))) ++ capitals (drop (i + 1) part)
unfolding capitals
text_turn text part i h e =
    let x = capital (get_or part i 0 / 16) in
    let y = capital (get_or part i 0 % 16) in
    let k : 2 * (i + 1) ≡ 2 * i + 1 + 1 = omega arith in
    let one : 2 * i + 1 < length (set text (2 * i) x) = rw length-set (omega arith) in
    rw (k, fill_turn (set text (2 * i) x) (2 * i + 1) y _ one, fill_turn text (2 * i) x _ (omega arith), drop-cons part i 0 h, add-one i)

pub text_end : (text part : List ℕ) (i : ℕ) → length part ≤ i → length text ≡ 2 * length part → take (2 * i) text ++ capitals (drop i part) ≡ text
unfolding capitals
text_end text part i h e = rw (drop_of_length-le part {i = i} h, append-nil, take_all (2 * i) text (omega arith))
