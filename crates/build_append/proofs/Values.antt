-- A value stored, descriptor first and then its elements. Rests on encode's bytes and on stores.
use mathlib.Core.Path.{◌≡◌}
use mathlib.Core.List.{List, [], ◌∷◌}
use Prim.Native.Nat.{ℕ, suc, ◌+◌, ◌≤◌}
use native.Mathlib.Omega.{arith}
use lib.ListN.{length, get_or}
use lib.Seq.{sets}
use mir.Syntax.{w8}
use mir.Val.{Fits}
use Rattle.words.specs.Words.{Bytes}
use Rattle.stores.specs.Stores.{filled}
use Rattle.stores.proofs.Room.{filled_append}
use Rattle.encode.specs.Encode.{descriptor_bytes, elements_bytes, value_bytes}
use Rattle.encode.proofs.Lengths.{length_descriptor_any, text_elements}

pub value_stored : (buf : List ℕ) (at t n : ℕ) (xs : List ℕ) → at + length (value_bytes t n xs) ≤ length buf
    → filled (filled buf at (descriptor_bytes t n)) (at + length (descriptor_bytes 0 n)) (elements_bytes t xs) ≡ sets buf at (value_bytes t n xs)
unfolding value_bytes
value_stored buf at t n xs h =
    filled_append buf at (length (descriptor_bytes 0 n)) (descriptor_bytes t n) (elements_bytes t xs) (length_descriptor_any t 0 n) h

-- a slice of bytes is a list of bytes
slice_bytes : (xs : List ℕ) → ((i : ℕ) → Fits w8 (get_or xs i 0)) → Bytes xs
slice_bytes [] h = tt
slice_bytes (x ∷ xs) h = let q = (h 0).fits in (omega arith, slice_bytes xs (λ i. h (suc i)))

-- text is written as it is
pub text_as_is : (xs : List ℕ) → ((i : ℕ) → Fits w8 (get_or xs i 0)) → elements_bytes 7 xs ≡ xs
text_as_is xs k = text_elements xs (slice_bytes xs k)
