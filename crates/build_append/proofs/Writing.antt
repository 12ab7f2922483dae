-- Bytes that are appended, from the pieces that the code makes them of to the definitions. Rests on specs/Append and on the numbers.
use mathlib.Core.Path.{◌≡◌, ◌∙◌, refl, ap, sym}
use mathlib.Core.List.{List, [], ◌++◌, map}
use mathlib.Core.Bool.{Bool, true, false}
use Prim.Native.Nat.{ℕ, zero, suc, ◌+◌, ◌*◌, ◌≤◌}
use native.Mathlib.Omega.{arith}
use lib.Dec.{ltb}
use lib.ListN.{length, length-append, length-map}
use lib.Seq.{sets}
use borrow.Author.Tests.{eq-eqb, ne_eqb}
use Rattle.words.specs.Pick.{pick}
use Rattle.words.proofs.Stores.{sets_append}
use Rattle.types.specs.Rows.{row_of, width_of}
use Rattle.stores.specs.Stores.{filled}
use Rattle.stores.proofs.Room.{filled_room}
use Rattle.fixed.specs.Layout.{most_bytes}
use Rattle.shown.specs.Shown.{Kind, integers, floats, text}
use Rattle.encode.specs.Encode.{descriptor_bytes, widest, value_bytes}
use Rattle.encode.proofs.Lengths.{length_value_bytes}
use Rattle.shown.specs.Values.{written_as, given_bytes, pair_bytes}
use Rattle.encode.proofs.Widest.{widest_range}
use Rattle.build_append.specs.Append.{first_of, room_number, head_bytes, vector_length, field_bytes, written, written_to}
use Rattle.build_append.specs.declared.Field.{Field}
use Rattle.build_append.specs.declared.Field.TheVariants.{Alone, Info, Format}
use Rattle.build_append.specs.declared.Written.{Written}
use Rattle.build_append.proofs.Numbers.{append_room, first_zero}

-- every kind is written in a type with a width
pub integer_wide : (t : ℕ) → 1 ≤ t → t ≤ 3 → 1 ≤ width_of t
unfolding width_of row_of
integer_wide zero h k = absurd (omega arith)
integer_wide (suc zero) h k = omega arith
integer_wide (suc (suc zero)) h k = omega arith
integer_wide (suc (suc (suc zero))) h k = omega arith
integer_wide (suc (suc (suc (suc t)))) h k = absurd (omega arith)

pub kind_wide : (k : Kind) (xs : List ℕ) → 1 ≤ width_of (written_as k xs)
unfolding width_of row_of
kind_wide integers xs = let h = widest_range xs in integer_wide (widest xs) h.0 h.1
kind_wide floats xs = omega arith
kind_wide text xs = omega arith

-- nothing stored
pub filled_none : (buf : List ℕ) (at : ℕ) → buf ≡ filled buf at []
unfolding filled
filled_none buf at = by-test (ltb (length buf) (at + 0))
  where
    by-test : (b : Bool) → buf ≡ pick b buf (sets buf at [])
    by-test true = refl
    by-test false = refl

-- a value stored right behind what stands before it
pub headed : (buf : List ℕ) (at n : ℕ) (hs bs : List ℕ) → n ≡ length hs → at + length (hs ++ bs) ≤ length buf
    → sets (filled buf at hs) (at + n) bs ≡ sets buf at (hs ++ bs)
headed buf at n hs bs e h =
    let both = length-append hs bs in
    let one : filled buf at hs ≡ sets buf at hs = filled_room buf at hs (omega arith) in
    rw (one, e) (sym (sets_append hs bs buf at))

-- what an appending function answers, and the buffer after it
pub written_by : (at room rules n size : ℕ) (bs : List ℕ) → size ≡ length bs → n ≡ first_of rules (room_number at size room)
    → ◌≡◌ {A = Written} (record { number = n; size = size }) (written at room rules bs)
unfolding written
written_by at room rules n size bs e h = rw (h, e)

pub written_taken : (buf : List ℕ) (at rules n size : ℕ) (bs : List ℕ) → size ≡ length bs → n ≡ first_of rules (room_number at size (length buf)) → n ≡ 0
    → sets buf at bs ≡ written_to buf at rules bs
unfolding written_to
written_taken buf at rules n size bs e h z = rw (← e, ← h, eq-eqb n 0 z)

pub written_kept : (buf : List ℕ) (at rules n size : ℕ) (bs : List ℕ) → size ≡ length bs → n ≡ first_of rules (room_number at size (length buf))
    → (n ≡ 0 → ⊥) → buf ≡ written_to buf at rules bs
unfolding written_to
written_kept buf at rules n size bs e h z = rw (← e, ← h, ne_eqb n 0 z)

-- where bytes were written, they fit
pub written_room : (w : Written) (at room rules : ℕ) (bs : List ℕ) → w ≡ written at room rules bs → w.number ≡ 0 → at + w.size ≤ most_bytes
unfolding written
written_room w at room rules bs h z =
    rw (ap (λ v. v.size) h) (append_room w.number rules at (length bs) room (ap (λ v. v.number) h) z).0

pub written_rules : (w : Written) (at room rules : ℕ) (bs : List ℕ) → w ≡ written at room rules bs → w.number ≡ 0 → rules ≡ 0
unfolding written
written_rules w at room rules bs h z =
    (first_zero rules (room_number at (length bs) room) (sym (ap (λ v. v.number) h) ∙ z)).0

-- a value right behind what stands before it, with the length of each vector
pub field_eq : (f : Field) (k : Kind) (n : ℕ) (xs : List ℕ) → n ≡ vector_length f (length xs) → head_bytes f ++ given_bytes k n xs ≡ field_bytes f k xs
unfolding pair_bytes
field_eq Alone k n xs e = rw e
field_eq (Info key) k n xs e = rw e
field_eq (Format key m) k n xs e = rw e

-- the size of a value with what stands before it: of the elements as many bytes as they are, each as wide as its type
pub field_size : {X : Type 0} (shown : X → ℕ) (f : Field) (k : Kind) (n code w h d : ℕ) (vs : List X) → n ≡ vector_length f (length vs)
    → code ≡ written_as k (map shown vs) → w ≡ width_of code → h ≡ length (head_bytes f) → d ≡ length (descriptor_bytes 0 n)
    → h + d + length vs * w ≡ length (field_bytes f k (map shown vs))
unfolding given_bytes
field_size shown f k n code w h d vs e q r p b =
    let xs = map shown vs in
    let m : length xs ≡ length vs = length-map vs shown in
    let g : length (given_bytes k n xs) ≡ d + length vs * w = length_value_bytes (written_as k xs) n xs ∙ rw (m, ← q, ← r, ← b) in
    let j : length (head_bytes f ++ given_bytes k n xs) ≡ h + (d + length vs * w) = length-append (head_bytes f) (given_bytes k n xs) ∙ rw (g, ← p) in
    let o : head_bytes f ++ given_bytes k n xs ≡ field_bytes f k xs = field_eq f k n xs (e ∙ ap (vector_length f) (sym m)) in
    let t : h + d + length vs * w ≡ length (head_bytes f ++ given_bytes k n xs) = omega (arith, j) in
    rw o at t

-- a value stored right behind what stands before it, where it fits
pub field_stored : {X : Type 0} (shown : X → ℕ) (buf : List ℕ) (at rules : ℕ) (f : Field) (k : Kind) (n code h size number : ℕ) (vs : List X)
    → n ≡ vector_length f (length vs) → code ≡ written_as k (map shown vs) → h ≡ length (head_bytes f) → size ≡ length (field_bytes f k (map shown vs))
    → number ≡ first_of rules (room_number at size (length buf)) → number ≡ 0
    → sets (filled buf at (head_bytes f)) (at + h) (value_bytes code n (map shown vs)) ≡ written_to buf at rules (field_bytes f k (map shown vs))
unfolding given_bytes
field_stored shown buf at rules f k n code h size number vs e q p s u z =
    let xs = map shown vs in
    let o : head_bytes f ++ given_bytes k n xs ≡ field_bytes f k xs = field_eq f k n xs (e ∙ ap (vector_length f) (sym (length-map vs shown))) in
    let fit : at + length (head_bytes f ++ given_bytes k n xs) ≤ length buf = rw (o, ← s) (append_room number rules at size (length buf) u z).1 in
    let a : sets (filled buf at (head_bytes f)) (at + h) (given_bytes k n xs) ≡ sets buf at (head_bytes f ++ given_bytes k n xs) = headed buf at h (head_bytes f) (given_bytes k n xs) p fit in
    rw (q, a, o) (written_taken buf at rules number size (field_bytes f k xs) s u z)
