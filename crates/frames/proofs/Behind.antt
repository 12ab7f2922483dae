-- A text stored behind what waits in a buffer, by way of the buffer's part from there on. Rests on the kit's lists.
use mathlib.Core.Path.{◌≡◌, sym, ◌∙◌}
use mathlib.Core.List.{List, [], ◌++◌, append-nil, append_assoc}
use Prim.Native.Nat.{ℕ, ◌+◌, ◌-◌, ◌≤◌}
use native.Mathlib.Omega.{arith}
use native.Mathlib.Nat.{zero-add}
use lib.ListN.{length, take, drop, length-drop, drop_of_length-le}
use lib.Seq.{sets, sets-eq, take_all, drop-drop}
use Rattle.std.proofs.Common.{None, Some}
use Rattle.std.specs.declared.option.Option.{Option as Answer}
use Rattle.words.proofs.Places.{length_part}
use Rattle.frames.specs.Frames.{TextInside}
use borrow.Rule.Slice.PartMut.{put_mid}

pub behind : (out text after : List ℕ) (w : ℕ) → w + length text ≤ length out → after ≡ sets (take (length out - w) (drop w out)) 0 text
    → put_mid w (length out - w) out after ≡ sets out w text
behind out text after w h e =
    let k = length-drop w out in
    let whole : take (length out - w) (drop w out) ≡ drop w out = take_all (length out - w) (drop w out) (omega (arith, k)) in
    let none : drop (length out - w) (drop w out) ≡ [] = drop_of_length-le (drop w out) {i = length out - w} (omega (arith, k)) in
    let stored : after ≡ text ++ drop (length text) (drop w out) =
    e ∙ rw whole (sets-eq text (drop w out) 0 (omega (arith, k)) ∙ rw (zero-add (length text))) in
    rw (none, append-nil after, stored, drop-drop (length text) w out)
    (sym (append_assoc (take w out) text (drop (w + length text) out)) ∙ sym (sets-eq text out w h))

-- that part has the room that is left
pub part_room : (out : List ℕ) (w room : ℕ) → w + room ≤ length out → room ≤ length (take (length out - w) (drop w out))
part_room out w room h = omega (arith, length_part out w (length out) (omega arith) (omega arith))

-- a text that is said at the start of that part: its length, which is told, lies behind what waits, and the text is stored there
pub said_behind : (r : Answer ℕ) (out text after : List ℕ) (w n : ℕ) → w ≤ length out → r ≡ Some (length text) → r ≡ Some n
    → TextInside (length (take (length out - w) (drop w out))) r → after ≡ sets (take (length out - w) (drop w out)) 0 text
    → (n ≡ length text) × (w + n ≤ length out) × (put_mid w (length out - w) out after ≡ sets out w text)
said_behind r out text after w n h told was inside e =
    let same : n ≡ length text = cc (told, was) in
    let i : n ≤ length (take (length out - w) (drop w out)) = rw was at inside in
    let part = length_part out w (length out) h (omega arith) in
    (same, omega (arith, i, part), behind out text after w (omega (arith, i, part, same)) e)

-- a text that was told is there
pub said_lost : (r : Answer ℕ) (n : ℕ) → r ≡ Some n → r ≡ None → ⊥
said_lost r n told was = cc (told, was)
