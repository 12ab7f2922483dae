-- Where bytes have room, and where they have not: what `fits` and `filled` then are. Rests on specs/Stores.
use mathlib.Core.Path.{◌≡◌, refl, ◌∙◌, sym}
use mathlib.Core.List.{List, [], ◌∷◌, ◌++◌, append_assoc}
use mathlib.Core.Bool.{Bool, true, false}
use Prim.Native.Nat.{ℕ, ◌+◌, ◌-◌, ◌<◌, ◌≤◌, min}
use native.Mathlib.Omega.{arith}
use native.Mathlib.Numerals.{add-one}
use lib.Dec.{ltb}
use lib.ListN.{length, take, drop, set, length-set, length-append, length-take}
use lib.Seq.{sets, sets-eq, length-sets, drop-drop}
use borrow.Rule.Slice.PartMut.{put_mid}
use borrow.Author.Tests.{lt-ltb, le-ltb, ltb-true, ltb-false}
use Rattle.std.proofs.lemmas.List.{take_min}
use Rattle.words.specs.Pick.{pick}
use Rattle.words.proofs.Stores.{sets_append}
use Rattle.stores.specs.Stores.{fits, filled}

pub fits_short : (room at n : ℕ) → room < at + n → fits room at n ≡ false
unfolding fits
fits_short room at n h = rw (lt-ltb _ _ h)

pub fits_room : (room at n : ℕ) → at + n ≤ room → fits room at n ≡ true
unfolding fits
fits_room room at n h = rw (le-ltb _ _ h)

pub filled_short : (buf : List ℕ) (at : ℕ) (bs : List ℕ) → length buf < at + length bs → filled buf at bs ≡ buf
unfolding filled
filled_short buf at bs h = rw (lt-ltb _ _ h)

pub filled_room : (buf : List ℕ) (at : ℕ) (bs : List ℕ) → at + length bs ≤ length buf → filled buf at bs ≡ sets buf at bs
unfolding filled
filled_room buf at bs h = rw (le-ltb _ _ h)

-- a part of the buffer that was filled with bytes
pub filled_part : (buf : List ℕ) (at n : ℕ) (bs : List ℕ) → length bs ≡ n → at + n ≤ length buf → put_mid at n buf bs ≡ filled buf at bs
filled_part buf at n bs e h =
    let r : at + length bs ≤ length buf = omega arith in
    rw (filled_room buf at bs r, sets-eq bs buf at r, e, ← drop-drop n at buf) (sym (append_assoc (take at buf) bs (drop n (drop at buf))))

-- as much of a part as there is room for
pub filled_front : (buf : List ℕ) (at : ℕ) (part : List ℕ)
    → filled buf at (take (min (length buf - at) (length part)) part) ≡ sets buf at (take (length buf - at) part)
filled_front buf at part = rw take_min (by-room (ltb (length buf) at) refl)
  where
    by-room : (b : Bool) → ltb (length buf) at ≡ b → filled buf at (take (length buf - at) part) ≡ sets buf at (take (length buf - at) part)
    by-room true e =
        let q = ltb-true (length buf) at e in
        let z : length buf - at ≡ 0 = omega arith in
        rw z (filled_short buf at [] (omega arith))
    by-room false e =
        let q = ltb-false (length buf) at e in
        filled_room buf at (take (length buf - at) part) (rw length-take (omega arith))

-- and what the answer tells
pub room_short : (room at n : ℕ) → fits room at n ≡ false → room < at + n
unfolding fits
room_short room at n h = by-test (ltb room (at + n)) refl h
  where
    by-test : (b : Bool) → ltb room (at + n) ≡ b → pick b false true ≡ false → room < at + n
    by-test true e h = ltb-true _ _ e
    by-test false e h = let z : ◌≡◌ {A = ℕ} 0 1 = cc in absurd (omega arith)

pub room_there : (room at n : ℕ) → fits room at n ≡ true → at + n ≤ room
unfolding fits
room_there room at n h = by-test (ltb room (at + n)) refl h
  where
    by-test : (b : Bool) → ltb room (at + n) ≡ b → pick b false true ≡ true → at + n ≤ room
    by-test true e h = let z : ◌≡◌ {A = ℕ} 0 1 = cc in absurd (omega arith)
    by-test false e h = ltb-false _ _ e

pub filled_none : (buf : List ℕ) (at : ℕ) (bs : List ℕ) → fits (length buf) at (length bs) ≡ false → filled buf at bs ≡ buf
filled_none buf at bs h = filled_short buf at bs (room_short _ _ _ h)

-- a byte stored, and the others behind it
pub fits_on : (buf : List ℕ) (at b n : ℕ) → fits (length (set buf at b)) (at + 1) n ≡ fits (length buf) at (1 + n)
unfolding fits
fits_on buf at b n = let e : at + 1 + n ≡ at + (1 + n) = omega arith in rw (length-set, e)

pub filled_on : (buf : List ℕ) (at b : ℕ) (bs : List ℕ) → at + (1 + length bs) ≤ length buf
    → filled (set buf at b) (at + 1) bs ≡ filled buf at (b ∷ bs)
filled_on buf at b bs h =
    let e : sets (set buf at b) (at + 1) bs ≡ sets buf at (b ∷ bs) = rw (add-one at) in
    filled_room (set buf at b) (at + 1) bs (rw length-set (omega arith)) ∙ e ∙ sym (filled_room buf at (b ∷ bs) (omega arith))

-- one list stored, and another right behind it
pub filled_append : (buf : List ℕ) (at n : ℕ) (xs ys : List ℕ) → length xs ≡ n → at + length (xs ++ ys) ≤ length buf
    → filled (filled buf at xs) (at + n) ys ≡ sets buf at (xs ++ ys)
filled_append buf at n xs ys e h =
    let both = length-append xs ys in
    let one : filled buf at xs ≡ sets buf at xs = filled_room buf at xs (omega arith) in
    let two : filled (sets buf at xs) (at + n) ys ≡ sets (sets buf at xs) (at + n) ys =
    filled_room (sets buf at xs) (at + n) ys (rw length-sets (omega arith)) in
    rw (one, two, ← e) (sym (sets_append xs ys buf at))

-- what a function needs that asks for room and then fills a part
pub ruleset rooms = (room_there, filled_none, filled_part)
