-- What a record's line is, by what was found of it; and what stands in the buffer once its bytes are told. Rests on specs/Hexadecimal.
use mathlib.Core.Path.{◌≡◌, refl}
use mathlib.Core.List.{List, ◌++◌}
use mathlib.Core.Bool.{Bool, true, false}
use mathlib.Core.Option.{Option, none, some}
use Prim.Native.Nat.{ℕ, zero, suc, ◌/◌, ◌%◌, ◌<◌, ◌≤◌}
use lib.Dec.{ltb, eqb}
use lib.ListN.{length, take, drop}
use lib.Seq.{sets, sets-eq, take-append_seam}
use native.Mathlib.Nat.{zero-add}
use native.Mathlib.Omega.{arith}
use borrow.Author.Tests.{lt-ltb, le-ltb, ltb-false, ne_eqb, eq-eqb}
use Rattle.words.specs.Pick.{pick}
use Rattle.words.proofs.Pick.{pick_same}
use Rattle.hexadecimal.specs.Hexadecimal.{digits, line_bytes, frame_of, answered, stored, counted}
use Rattle.hexadecimal.specs.declared.LineError.TheVariants.{Bad, NoRoom}
use Rattle.hexadecimal.specs.declared.LineError.{LineError}
use Rattle.hexadecimal.proofs.Digits.{length_line_bytes}
use Rattle.std.specs.Prelude.{Ok, Err}

pub frame_long : (l : List ℕ) → 60000 < length l → frame_of l ≡ none
unfolding frame_of
frame_long l h = rw (lt-ltb _ _ h)

pub frame_odd : (l : List ℕ) → length l % 2 ≡ 1 → frame_of l ≡ none
unfolding frame_of
frame_odd l h = rw (eq-eqb _ _ h) (pick_same (ltb 60000 (length l)) none)

pub frame_other : (l : List ℕ) → digits l ≡ false → frame_of l ≡ none
unfolding frame_of
frame_other l h = rw (h, pick_same {A = Option (List ℕ)} (eqb (length l % 2) 1) none) (pick_same (ltb 60000 (length l)) none)

pub frame_good : (l : List ℕ) → length l ≤ 60000 → (length l % 2 ≡ 1 → ⊥) → digits l ≡ true → frame_of l ≡ some (line_bytes l)
unfolding frame_of
frame_good l h o d = rw (le-ltb _ _ h, ne_eqb _ _ o, d)

-- what is counted of it is what is answered to it
pub frame_counted : (room : ℕ) (l : List ℕ) → counted 60000 2 room l ≡ answered room (frame_of l)
unfolding counted frame_of
frame_counted room l = by-long (ltb 60000 (length l))
  where
    by_digits : (d : Bool) → pick d (pick (ltb room (length l / 2)) (Err NoRoom) (Ok (length l / 2))) (Err Bad) ≡ answered room (pick d (some (line_bytes l)) none)
    by_digits true = rw length_line_bytes
    by_digits false = refl

    by-odd : (p : ℕ) → p < 2
        → pick (eqb p 0) (pick (digits l) (pick (ltb room (length l / 2)) (Err NoRoom) (Ok (length l / 2))) (Err Bad)) (Err Bad)
        ≡ answered room (pick (eqb p 1) none (pick (digits l) (some (line_bytes l)) none))
    by-odd zero h = by_digits (digits l)
    by-odd (suc zero) h = refl
    by-odd (suc (suc p)) h = absurd (omega arith)

    by-long : (b : Bool)
        → pick b (Err Bad) (pick (eqb (length l % 2) 0) (pick (digits l) (pick (ltb room (length l / 2)) (Err NoRoom) (Ok (length l / 2))) (Err Bad)) (Err Bad))
        ≡ answered room (pick b none (pick (eqb (length l % 2) 1) none (pick (digits l) (some (line_bytes l)) none)))
    by-long true = refl
    by-long false = by-odd (length l % 2) (omega arith)

-- a line that is not answered with its bytes leaves the buffer as it was
pub kept : (buf : List ℕ) (f : Option (List ℕ)) (e : LineError) → Err e ≡ answered (length buf) f → buf ≡ stored buf f
kept buf none e h = refl
kept buf (some bs) e h = by-room (ltb (length buf) (length bs)) h
  where
    by-room : (b : Bool) → Err e ≡ pick b (Err NoRoom) (Ok (length bs)) → buf ≡ pick b buf (sets buf 0 bs)
    by-room true h = refl
    by-room false h = cc

-- where n are told, and the line can say no others than these, they stand before what else the buffer held
pub filled : (buf : List ℕ) (f : Option (List ℕ)) (n : ℕ) (xs : List ℕ) → Ok n ≡ answered (length buf) f → ((bs : List ℕ) → f ≡ some bs → bs ≡ xs)
    → xs ++ drop n buf ≡ stored buf f
filled buf none n xs h k = cc
filled buf (some bs) n xs h k = by-room (ltb (length buf) (length bs)) refl h
  where
    by-room : (b : Bool) → ltb (length buf) (length bs) ≡ b → Ok n ≡ pick b (Err NoRoom) (Ok (length bs)) → xs ++ drop n buf ≡ pick b buf (sets buf 0 bs)
    by-room true e h = cc
    by-room false e h =
        let q : length bs ≡ n = cc in
        let r : length xs ≡ n = rw (← k bs refl) q in
        rw (k bs refl, sets-eq xs buf 0 (omega (arith, ltb-false (length buf) (length bs) e, q, r)), r, zero-add n)

pub frame_says : (l bs : List ℕ) → frame_of l ≡ some bs → bs ≡ line_bytes l
unfolding frame_of
frame_says l bs h = by-long (ltb 60000 (length l)) (eqb (length l % 2) 1) (digits l) h
  where
    by-long : (b o d : Bool) → pick b none (pick o none (pick d (some (line_bytes l)) none)) ≡ some bs → bs ≡ line_bytes l
    by-long true o d h = cc
    by-long false true d h = cc
    by-long false false true h = cc
    by-long false false false h = cc

-- where n bytes are told, the first n of the buffer are the line's
pub told : (buf : List ℕ) (f : Option (List ℕ)) (n : ℕ) → answered (length buf) f ≡ Ok n → f ≡ some (take n (stored buf f))
told buf none n h = cc
told buf (some bs) n h = by-room (ltb (length buf) (length bs)) refl h
  where
    by-room : (b : Bool) → ltb (length buf) (length bs) ≡ b → pick b (Err NoRoom) (Ok (length bs)) ≡ Ok n
        → some bs ≡ some (take n (pick (ltb (length buf) (length bs)) buf (sets buf 0 bs)))
    by-room true e h = cc
    by-room false e h =
        let q : length bs ≡ n = cc in
        rw (e, ← q, sets-eq bs buf 0 (omega (arith, ltb-false (length buf) (length bs) e)), take-append_seam)
