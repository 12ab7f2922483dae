-- How long what is written is, that text is written as it is, and which elements have no bytes. Rests on the definitions of
-- specs/Encode.
use mathlib.Core.Path.{◌≡◌, refl, ap}
use mathlib.Core.Logic.{◌≢◌}
use mathlib.Core.List.{List, [], ◌∷◌, map}
use mathlib.Core.Bool.{Bool, true, false}
use Prim.Native.Nat.{ℕ, zero, suc, ◌+◌, ◌*◌, ◌%◌, ◌<◌}
use native.Mathlib.Omega.{arith}
use native.Mathlib.Nat.{suc-mul, zero-mul}
use lib.Dec.{ltb}
use lib.ListN.{length, get_or, length-append, length-map, replicate}
use Rattle.words.specs.Pick.{pick}
use Rattle.words.specs.Words.{bytes, Bytes}
use Rattle.words.proofs.Words.{length_bytes}
use Rattle.types.specs.Rows.{width_of, row_of, unused}
use Rattle.types.specs.declared.Row.{Row}
use Rattle.types.specs.Elements.{narrowest}
use Rattle.encode.specs.Encode.{integer_bytes, descriptor_bytes, narrowed, elements_bytes, value_bytes}
use mir.Val.{Fits}
use mir.Syntax.{w8}

-- an integer: its descriptor, and as many bytes as its type is wide
pub length_integer_bytes : (x : ℕ) → length (integer_bytes x) ≡ 1 + width_of (narrowest x)
unfolding integer_bytes
length_integer_bytes x = rw (length_bytes (width_of (narrowest x)) x) (omega arith)

-- a descriptor, whatever its type is
pub length_descriptor_bytes : (t n : ℕ) → length (descriptor_bytes t n) ≡ pick (ltb n 15) 1 (1 + length (integer_bytes n))
unfolding descriptor_bytes
length_descriptor_bytes t n = by_length (ltb n 15)
  where
    by_length : (b : Bool)
        → length (pick b ((n * 16 + t % 16) ∷ []) ((0xF0 + t % 16) ∷ integer_bytes n)) ≡ pick b 1 (1 + length (integer_bytes n))
    by_length true = refl
    by_length false = omega arith

pub length_descriptor_any : (t u n : ℕ) → length (descriptor_bytes t n) ≡ length (descriptor_bytes u n)
length_descriptor_any t u n = rw (length_descriptor_bytes t n, length_descriptor_bytes u n)

-- elements: each as wide as their type
pub length_elements_bytes : (t : ℕ) (xs : List ℕ) → length (elements_bytes t xs) ≡ length xs * width_of t
unfolding elements_bytes
length_elements_bytes t [] = rw zero-mul
length_elements_bytes t (x ∷ xs) =
    rw (length-append, length_bytes (width_of t) (narrowed t x), length_elements_bytes t xs) (omega (arith, suc-mul (length xs) (width_of t)))

-- a value
pub length_value_bytes : (t n : ℕ) (xs : List ℕ) → length (value_bytes t n xs) ≡ length (descriptor_bytes 0 n) + length xs * width_of t
unfolding value_bytes
length_value_bytes t n xs = rw (length-append, length_descriptor_any t 0 n, length_elements_bytes t xs)

-- text is written as it is
pub text_elements : (xs : List ℕ) → Bytes xs → elements_bytes 7 xs ≡ xs
unfolding elements_bytes narrowed width_of row_of bytes
text_elements [] h = refl
text_elements (x ∷ xs) h =
    let q : x % 256 ≡ x = let p : x < 256 = h.0 in omega arith in
    rw (q, text_elements xs h.1)

-- each number of lent text is a byte
pub text_Bytes : (xs : List ℕ) → ((i : ℕ) → Fits w8 (get_or xs i 0)) → Bytes xs
text_Bytes [] h = tt
text_Bytes (x ∷ xs) h = ((h 0).fits, text_Bytes xs (λ i. h (suc i)))

-- a type that is none of these has no width, and its elements no bytes
elements_none : (t : ℕ) → width_of t ≡ 0 → (xs : List ℕ) → elements_bytes t xs ≡ []
unfolding elements_bytes bytes
elements_none t e [] = refl
elements_none t e (x ∷ xs) = rw (e, elements_none t e xs)

width_other : (t : ℕ) → t ≢ 1 → t ≢ 2 → t ≢ 3 → t ≢ 5 → t ≢ 7 → width_of t ≡ 0
unfolding width_of row_of
width_other zero a b d e f = refl
width_other (suc zero) a b d e f = absurd (a refl)
width_other (suc (suc zero)) a b d e f = absurd (b refl)
width_other (suc (suc (suc zero))) a b d e f = absurd (d refl)
width_other (suc (suc (suc (suc zero)))) a b d e f = refl
width_other (suc (suc (suc (suc (suc zero))))) a b d e f = absurd (e refl)
width_other (suc (suc (suc (suc (suc (suc zero)))))) a b d e f = refl
width_other (suc (suc (suc (suc (suc (suc (suc zero))))))) a b d e f = absurd (f refl)
width_other (suc (suc (suc (suc (suc (suc (suc (suc t)))))))) a b d e f = ap (λ (r : Row). r.width) (get_or_replicate 8 t)
  where
    get_or_replicate : (n t : ℕ) → get_or (replicate n unused) t unused ≡ unused
    get_or_replicate zero t = refl
    get_or_replicate (suc n) zero = refl
    get_or_replicate (suc n) (suc t) = get_or_replicate n t

pub elements_other : (t : ℕ) (xs : List ℕ) → t ≢ 1 → t ≢ 2 → t ≢ 3 → t ≢ 5 → t ≢ 7 → elements_bytes t xs ≡ []
elements_other t xs a b d e f = elements_none t (width_other t a b d e f) xs

-- the room that elements want is as many bytes as they take
pub length_elements : {X : Type 0} (shown : X → ℕ) (t w : ℕ) (vs : List X) → w ≡ width_of t → length (elements_bytes t (map shown vs)) ≡ length vs * w
length_elements shown t w vs e = rw (length_elements_bytes t (map shown vs), length-map, e)
