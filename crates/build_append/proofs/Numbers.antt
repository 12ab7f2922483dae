-- Where a number is 0 nothing is wrong: what each number then says. Rests on specs/Append.
use mathlib.Core.Path.{◌≡◌, refl, sym, ◌∙◌}
use mathlib.Core.Bool.{Bool, true, false}
use Prim.Native.Nat.{ℕ, ◌+◌, ◌≤◌}
use native.Mathlib.Omega.{arith}
use lib.Dec.{ltb, eqb}
use borrow.Author.Tests.{ltb-false, eqb-true, ne_eqb}
use Rattle.words.specs.Pick.{pick}
use Rattle.fixed.specs.Layout.{most_bytes}
use Rattle.build_append.specs.Append.{first_of, room_number}

-- of two numbers, both
pub first_zero : (a b : ℕ) → first_of a b ≡ 0 → (a ≡ 0) × (b ≡ 0)
unfolding first_of
first_zero a b h = by-test (eqb a 0) refl h
  where
    by-test : (c : Bool) → eqb a 0 ≡ c → pick c b a ≡ 0 → (a ≡ 0) × (b ≡ 0)
    by-test true e k = (eqb-true a 0 e, k)
    by-test false e k = let z : ◌≡◌ {A = Bool} true false = rw k at e in let y : ◌≡◌ {A = ℕ} 0 1 = cc in absurd (omega arith)

pub first_assoc : (a b c : ℕ) → first_of (first_of a b) c ≡ first_of a (first_of b c)
unfolding first_of
first_assoc a b c = by-test (eqb a 0) refl
  where
    by-test : (t : Bool) → eqb a 0 ≡ t → pick (eqb (pick t b a) 0) c (pick t b a) ≡ pick t (pick (eqb b 0) c b) a
    by-test true e = refl
    by-test false e = rw e

pub first_refused : (a b c : ℕ) → (a ≡ 0 → ⊥) → first_of a b ≡ first_of a c
unfolding first_of
first_refused a b c h = rw (ne_eqb a 0 h)

pub room_zero : (at size room : ℕ) → room_number at size room ≡ 0 → (at + size ≤ most_bytes) × (at + size ≤ room)
unfolding room_number
room_zero at size room h = by_tests (ltb most_bytes (at + size)) (ltb room (at + size)) refl refl h
  where
    by_tests : (c d : Bool) → ltb most_bytes (at + size) ≡ c → ltb room (at + size) ≡ d → ◌≡◌ {A = ℕ} (pick c 2 (pick d 13 0)) 0
        → (at + size ≤ most_bytes) × (at + size ≤ room)
    by_tests true d e f k = absurd (omega arith)
    by_tests false true e f k = absurd (omega arith)
    by_tests false false e f k = (ltb-false most_bytes (at + size) e, ltb-false room (at + size) f)

-- the first of two numbers, each known by another name
pub first_eq : (n a b c d : ℕ) → n ≡ first_of a b → a ≡ c → b ≡ d → n ≡ first_of c d
first_eq n a b c d h p q = rw (← p, ← q) h

-- where both the rules and the room are sound, the bytes fit
pub append_room : (n rules at size room : ℕ) → n ≡ first_of rules (room_number at size room) → n ≡ 0 → (at + size ≤ most_bytes) × (at + size ≤ room)
append_room n rules at size room h z = room_zero at size room (first_zero rules (room_number at size room) (sym h ∙ z)).1
