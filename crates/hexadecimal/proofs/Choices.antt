-- What a choice's line is, by what was found of it; and what stands in the buffer once its people are told. Rests on specs/Hexadecimal.
use mathlib.Core.Path.{◌≡◌, refl}
use mathlib.Core.List.{List}
use mathlib.Core.Bool.{Bool, true, false}
use mathlib.Core.Option.{Option, none, some}
use Prim.Native.Nat.{ℕ, ◌/◌, ◌%◌, ◌<◌, ◌≤◌}
use lib.Dec.{ltb, eqb}
use lib.ListN.{length, take}
use borrow.Author.Tests.{lt-ltb, eq-eqb, le-ltb, ne_eqb}
use Rattle.words.specs.Pick.{pick}
use Rattle.hexadecimal.specs.Hexadecimal.{digits, eights, choice_of, choice_answered, stored, counted}
use Rattle.hexadecimal.specs.declared.LineError.TheVariants.{Bad, NoRoom}
use Rattle.hexadecimal.proofs.Digits.{length_eights}
use Rattle.hexadecimal.proofs.Frames.{told}
use Rattle.std.specs.Prelude.{Ok, Err}

pub choice_long : (l : List ℕ) → 240000 < length l → choice_of l ≡ none
unfolding choice_of
choice_long l h = rw (lt-ltb _ _ h)

pub choice_part : (l : List ℕ) → length l ≤ 240000 → (length l % 8 ≡ 0 → ⊥) → choice_of l ≡ none
unfolding choice_of
choice_part l h o = rw (le-ltb _ _ h, ne_eqb _ _ o)

pub choice_other : (l : List ℕ) → length l ≤ 240000 → length l % 8 ≡ 0 → digits l ≡ false → choice_of l ≡ none
unfolding choice_of
choice_other l h o d = rw (le-ltb _ _ h, eq-eqb _ _ o, d)

pub choice_good : (l : List ℕ) → length l ≤ 240000 → length l % 8 ≡ 0 → digits l ≡ true → choice_of l ≡ some (eights (length l / 8) l)
unfolding choice_of
choice_good l h o d = rw (le-ltb _ _ h, eq-eqb _ _ o, d)

pub choice_says : (l cs : List ℕ) → choice_of l ≡ some cs → cs ≡ eights (length l / 8) l
unfolding choice_of
choice_says l cs h = by-long (ltb 240000 (length l)) (eqb (length l % 8) 0) (digits l) h
  where
    by-long : (b o d : Bool) → pick b none (pick o (pick d (some (eights (length l / 8) l)) none) none) ≡ some cs → cs ≡ eights (length l / 8) l
    by-long true o d h = cc
    by-long false false d h = cc
    by-long false true true h = cc
    by-long false true false h = cc

-- what is counted of it is what is answered to it
pub choice_counted : (room : ℕ) (l : List ℕ) → counted 240000 8 room l ≡ choice_answered room (choice_of l)
unfolding counted choice_of
choice_counted room l = by-long (ltb 240000 (length l)) (eqb (length l % 8) 0) (digits l)
  where
    by-long : (b o d : Bool)
        → pick b (Err Bad) (pick o (pick d (pick (ltb room (length l / 8)) (Err NoRoom) (Ok (length l / 8))) (Err Bad)) (Err Bad))
        ≡ choice_answered room (pick b none (pick o (pick d (some (eights (length l / 8) l)) none) none))
    by-long true o d = refl
    by-long false false d = refl
    by-long false true true = rw length_eights
    by-long false true false = refl

-- where n people are told, the first n of the buffer are the line's
pub chosen : (buf : List ℕ) (f : Option (List ℕ)) (n : ℕ) → choice_answered (length buf) f ≡ Ok n → f ≡ some (take n (stored buf f))
chosen = told
