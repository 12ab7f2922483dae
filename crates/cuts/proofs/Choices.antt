-- A choice's line names at most 30,000 people, so a buffer that has room for that many always has room; and what is answered to it. Rests on hexadecimal.
use mathlib.Core.Path.{◌≡◌, refl, ap}
use mathlib.Core.List.{List}
use mathlib.Core.Bool.{Bool, true, false}
use mathlib.Core.Option.{Option, none, some}
use Prim.Native.Nat.{ℕ, ◌/◌, ◌%◌, ◌≤◌}
use native.Mathlib.Omega.{arith}
use lib.Dec.{ltb, eqb}
use lib.ListN.{length}
use borrow.Author.Tests.{le-ltb, ltb-false}
use Rattle.words.specs.Pick.{pick}
use Rattle.hexadecimal.specs.Hexadecimal.{digits, eights, choice_of, choice_answered}
use Rattle.hexadecimal.specs.declared.LineError.TheVariants.{Bad, NoRoom}
use Rattle.std.specs.Prelude.{Ok, Err}
use Rattle.hexadecimal.proofs.Digits.{length_eights}
use Rattle.facts.specs.declared.Facts.{Facts}
use Rattle.cuts.specs.Release.{release_line}
use Rattle.cuts.specs.Steps.{stage_chosen, text_chosen}
use Rattle.cuts.specs.declared.Stage.TheVariants.{Records}

pub choice_most : (l cs : List ℕ) → choice_of l ≡ some cs → length cs ≤ 30000
unfolding choice_of
choice_most l cs h = by-long (ltb 240000 (length l)) refl h
  where
    by_digits : (d : Bool) → pick d (some (eights (length l / 8) l)) none ≡ some cs → eights (length l / 8) l ≡ cs
    by_digits true e = cc
    by_digits false e = cc

    by-eights : (o : Bool) → pick o (pick (digits l) (some (eights (length l / 8) l)) none) none ≡ some cs → eights (length l / 8) l ≡ cs
    by-eights true e = by_digits (digits l) e
    by-eights false e = cc

    by-long : (b : Bool) → ltb 240000 (length l) ≡ b
        → pick b none (pick (eqb (length l % 8) 0) (pick (digits l) (some (eights (length l / 8) l)) none) none) ≡ some cs
        → length cs ≤ 30000
    by-long true k e = let z : ◌≡◌ {A = ℕ} 0 1 = cc in absurd (omega arith)
    by-long false k e =
        let q = ap length (by-eights (eqb (length l % 8) 0) e) in
        omega (arith, q, length_eights (length l / 8) l, ltb-false 240000 (length l) k)

-- so many people told
pub people_told : (room : ℕ) (o : Option (List ℕ)) (f : Facts) (n : ℕ) → choice_answered room o ≡ Ok n
    → (stage_chosen f o ≡ Records f n) × (text_chosen f o ≡ release_line f n)
people_told room none f n h = let z : ◌≡◌ {A = ℕ} 0 1 = cc in absurd (omega arith)
people_told room (some cs) f n h = by-room (ltb room (length cs)) h
  where
    by-room : (b : Bool) → pick b (Err NoRoom) (Ok (length cs)) ≡ Ok n
        → (stage_chosen f (some cs) ≡ Records f n) × (text_chosen f (some cs) ≡ release_line f n)
    by-room true k = let z : ◌≡◌ {A = ℕ} 0 1 = cc in absurd (omega arith)
    by-room false k = let q : length cs ≡ n = cc in (rw q, rw q)

pub people_most : (room : ℕ) (l : List ℕ) (n : ℕ) → choice_answered room (choice_of l) ≡ Ok n → n ≤ 30000
people_most room l n h = by-choice (choice_of l) refl h
  where
    by-room : (cs : List ℕ) → length cs ≤ 30000 → (b : Bool) → pick b (Err NoRoom) (Ok (length cs)) ≡ Ok n → n ≤ 30000
    by-room cs m true k = let z : ◌≡◌ {A = ℕ} 0 1 = cc in absurd (omega arith)
    by-room cs m false k = let q : length cs ≡ n = cc in omega arith

    by-choice : (o : Option (List ℕ)) → choice_of l ≡ o → choice_answered room o ≡ Ok n → n ≤ 30000
    by-choice none e k = let z : ◌≡◌ {A = ℕ} 0 1 = cc in absurd (omega arith)
    by-choice (some cs) e k = by-room cs (choice_most l cs e) (ltb room (length cs)) k

-- a bad line
pub choice_bad : (room : ℕ) (o : Option (List ℕ)) → choice_answered room o ≡ Err Bad → o ≡ none
choice_bad room none h = refl
choice_bad room (some cs) h = by-room (ltb room (length cs)) h
  where
    by-room : (b : Bool) → pick b (Err NoRoom) (Ok (length cs)) ≡ Err Bad → some cs ≡ none
    by-room true k = cc
    by-room false k = cc

-- a buffer of 30,000 is never too short
pub choice_room : (room : ℕ) (l : List ℕ) → 30000 ≤ room → choice_answered room (choice_of l) ≡ Err NoRoom → ⊥
choice_room room l r h = by-choice (choice_of l) refl h
  where
    by-choice : (o : Option (List ℕ)) → choice_of l ≡ o → choice_answered room o ≡ Err NoRoom → ⊥
    by-choice none e k = let z : ◌≡◌ {A = ℕ} 0 1 = cc in omega arith
    by-choice (some cs) e k =
        let m = choice_most l cs e in
        let q : ltb room (length cs) ≡ false = le-ltb room (length cs) (omega arith) in
        let b : Ok (length cs) ≡ Err NoRoom = rw q at k in
        let z : ◌≡◌ {A = ℕ} 0 1 = cc in
        omega arith
