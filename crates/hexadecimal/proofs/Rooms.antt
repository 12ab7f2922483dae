-- A line holds at most 30,000 bytes, so a buffer that has room for that many always has room. Rests on specs/Hexadecimal.
use mathlib.Core.Path.{◌≡◌, refl, ap}
use mathlib.Core.List.{List}
use mathlib.Core.Bool.{Bool, true, false}
use mathlib.Core.Option.{Option, none, some}
use Prim.Native.Nat.{ℕ, ◌%◌, ◌≤◌}
use native.Mathlib.Omega.{arith}
use lib.Dec.{ltb, eqb}
use lib.ListN.{length}
use borrow.Author.Tests.{le-ltb, ltb-false}
use Rattle.words.specs.Pick.{pick}
use Rattle.hexadecimal.specs.Hexadecimal.{digits, line_bytes, frame_of, answered}
use Rattle.hexadecimal.specs.declared.LineError.TheVariants.{NoRoom}
use Rattle.std.specs.Prelude.{Ok, Err}
use Rattle.hexadecimal.proofs.Digits.{length_line_bytes}

pub frame_most : (l bs : List ℕ) → frame_of l ≡ some bs → length bs ≤ 30000
unfolding frame_of
frame_most l bs h = by-long (ltb 60000 (length l)) refl h
  where
    by_digits : (d : Bool) → pick d (some (line_bytes l)) none ≡ some bs → line_bytes l ≡ bs
    by_digits true e = cc
    by_digits false e = cc

    by-odd : (o : Bool) → pick o none (pick (digits l) (some (line_bytes l)) none) ≡ some bs → line_bytes l ≡ bs
    by-odd true e = cc
    by-odd false e = by_digits (digits l) e

    by-long : (b : Bool) → ltb 60000 (length l) ≡ b
        → pick b none (pick (eqb (length l % 2) 1) none (pick (digits l) (some (line_bytes l)) none)) ≡ some bs
        → length bs ≤ 30000
    by-long true k e = let z : ◌≡◌ {A = ℕ} 0 1 = cc in absurd (omega arith)
    by-long false k e =
        let q = ap length (by-odd (eqb (length l % 2) 1) e) in
        omega (arith, q, length_line_bytes l, ltb-false 60000 (length l) k)

-- a buffer of 30,000 bytes is never too short
pub frame_room_lem : (room : ℕ) (l : List ℕ) → 30000 ≤ room → answered room (frame_of l) ≡ Err NoRoom → ⊥
frame_room_lem room l r h = by-frame (frame_of l) refl h
  where
    by-frame : (o : Option (List ℕ)) → frame_of l ≡ o → answered room o ≡ Err NoRoom → ⊥
    by-frame none e k = let z : ◌≡◌ {A = ℕ} 0 1 = cc in omega arith
    by-frame (some bs) e k =
        let m = frame_most l bs e in
        let q : ltb room (length bs) ≡ false = le-ltb room (length bs) (omega arith) in
        let b : Ok (length bs) ≡ Err NoRoom = rw q at k in
        let z : ◌≡◌ {A = ℕ} 0 1 = cc in
        omega arith
