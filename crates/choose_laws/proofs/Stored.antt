-- Four bytes stored in a list: what stands there and what stands elsewhere. Rests on the layout, on words' numbers and on
-- proofs/Sets.
use mathlib.Core.Path.{◌≡◌, refl, sym, ◌∙◌, ap}
use mathlib.Core.List.{List, [], ◌∷◌, ◌++◌, append_assoc}
use mathlib.Core.Bool.{Bool, true, false}
use Prim.Native.Nat.{ℕ, zero, suc, ◌+◌, ◌-◌, ◌≤◌, ◌<◌, ◌^◌}
use native.Mathlib.Omega.{arith}
use lib.Dec.{leb}
use lib.ListN.{length, take, drop, set, length-drop}
use lib.Seq.{sets, sets-eq, take-set-le, length-take-le, drop_at}
use borrow.Author.Tests.{leb-true, leb-false}
use Rattle.words.specs.Words.{number, bytes, Bytes}
use Rattle.words.proofs.Words.{le_bound, length_bytes, number_bytes}
use Rattle.fixed.specs.Layout.{field}
use Rattle.fetch_laws.proofs.Fronts.{field_part, field_take}
use Rattle.choose_laws.proofs.Sets.{drop_sets}

-- a store leaves what stands before it
take_sets : (n : ℕ) (l : List ℕ) (i : ℕ) (vs : List ℕ) → n ≤ i → take n (sets l i vs) ≡ take n l
take_sets n l i [] h = refl
take_sets n l i (v ∷ vs) h = take_sets n (set l i v) (suc i) vs (omega arith) ∙ take-set-le n l i v h

field_before : (p i : ℕ) (l vs : List ℕ) → p + 4 ≤ i → field p (sets l i vs) ≡ field p l
field_before p i l vs h =
    sym (field_take p i (sets l i vs) h) ∙ ap (field p) (take_sets i l i vs (omega arith)) ∙ field_take p i l h

field_after : (p i : ℕ) (l vs : List ℕ) → i + length vs ≤ p → field p (sets l i vs) ≡ field p l
field_after p i l vs h = field_part p (sets l i vs) l (ap (take 4) (drop_sets vs l i p h))

-- a store of at most four bytes leaves a field that stands four or more places away, on either side
pub field_elsewhere : (p i : ℕ) (l vs : List ℕ) → length vs ≤ 4 → 4 ≤ i - p + (p - i) → field p (sets l i vs) ≡ field p l
field_elsewhere p i l vs h k = by_side (leb (p + 4) i) refl
  where
    by_side : (b : Bool) → leb (p + 4) i ≡ b → field p (sets l i vs) ≡ field p l
    by_side true e = field_before p i l vs (leb-true (p + 4) i e)
    by_side false e = let z = leb-false (p + 4) i e in field_after p i l vs (omega arith)

pub field_stored : (i v : ℕ) (l : List ℕ) → i + 4 ≤ length l → v < 2 ^ 32 → field i (sets l i (bytes 4 v)) ≡ v
unfolding field
field_stored i v l h b =
    let e = length_bytes 4 v in
    let rest = drop (i + length (bytes 4 v)) l in
    let k : i + length (bytes 4 v) ≤ length l = omega arith in
    let q : length (take i l) ≡ i = length-take-le i l (omega arith) in
    rw (sets-eq (bytes 4 v) l i k, append_assoc (take i l) (bytes 4 v) rest, drop_at (take i l) (bytes 4 v ++ rest) i q) (number_bytes 4 v rest b)

-- parts of bytes are bytes
pub Bytes_drop : (n : ℕ) (l : List ℕ) → Bytes l → Bytes (drop n l)
Bytes_drop zero l b = b
Bytes_drop (suc n) [] b = b
Bytes_drop (suc n) (x ∷ l) b = Bytes_drop n l b.1

pub Bytes_take : (n : ℕ) (l : List ℕ) → Bytes l → Bytes (take n l)
Bytes_take zero l b = tt
Bytes_take (suc n) [] b = b
Bytes_take (suc n) (x ∷ l) b = (b.0, Bytes_take n l b.1)

-- so a field is a number of 32 bits
pub field_bound : (p : ℕ) (s : List ℕ) → Bytes s → p + 4 ≤ length s → field p s < 2 ^ 32
unfolding field number
field_bound p s b h =
    let l = take 4 (drop p s) in
    let e : length l ≡ 4 = length-take-le 4 (drop p s) (rw length-drop (omega arith)) in
    rw e at (le_bound l (Bytes_take 4 (drop p s) (Bytes_drop p s b)))
