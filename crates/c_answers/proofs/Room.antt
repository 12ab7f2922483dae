-- Where an answer's numbers have room, and where they have not. Rests on specs/Told and specs/Stored, and on stores for numbers.
use mathlib.Core.Path.{◌≡◌, refl, sym}
use mathlib.Core.List.{List, append_assoc}
use Prim.Native.Nat.{ℕ, ◌+◌, ◌-◌, ◌<◌, ◌≤◌}
use native.Mathlib.Nat.{add-sub_cancel_left}
use lib.ListN.{length, take, drop}
use lib.Seq.{sets-eq, drop-drop}
use borrow.Rule.Slice.PartMut.{put_mid}
use borrow.Author.Tests.{lt-ltb, le-ltb}
use Rattle.stores.specs.Stores.{filled}
use Rattle.c_answers.specs.Stored.{stored}
use Rattle.c_answers.specs.Told.{answer, told_answer}

pub told_short : (room : ℕ) (ns : List ℕ) (low : ℕ) → room < length ns → told_answer room ns low ≡ answer 13 0
unfolding told_answer
told_short room ns low h = rw (lt-ltb _ _ h)

pub told_room : (room : ℕ) (ns : List ℕ) (low : ℕ) → length ns ≤ room → told_answer room ns low ≡ answer 0 low
unfolding told_answer
told_room room ns low h = rw (le-ltb _ _ h)

pub stored_short : {A : Type 0} (out : List A) (at : ℕ) (xs : List A) → length out < at + length xs → stored out at xs ≡ out
unfolding stored
stored_short out at xs h = rw (lt-ltb _ _ h)

-- the values copied into a part of the slice
pub stored_part : {A : Type 0} (out : List A) (at : ℕ) (xs : List A) → at + length xs ≤ length out
    → put_mid at (at + length xs - at) out xs ≡ stored out at xs
unfolding stored
stored_part out at xs h =
    rw (add-sub_cancel_left, le-ltb _ _ h, sets-eq xs out at h, ← drop-drop (length xs) at out)
    (sym (append_assoc (take at out) xs (drop (length xs) (drop at out))))

-- of numbers it is what `filled` says
pub stored_numbers : (out : List ℕ) (at : ℕ) (ns : List ℕ) → stored out at ns ≡ filled out at ns
unfolding stored filled
stored_numbers out at ns = refl
