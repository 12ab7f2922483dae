-- Where a number is 0 nothing is wrong: what each number then says. Rests on specs/Rules.
use mathlib.Core.Path.{◌≡◌, refl, sym, ◌∙◌}
use mathlib.Core.Bool.{Bool, true, false}
use Prim.Native.Nat.{ℕ, ◌<◌, ◌≤◌}
use native.Mathlib.Omega.{arith}
use lib.Dec.{ltb}
use borrow.Author.Tests.{ltb-false, ltb-true}
use Rattle.words.specs.Pick.{pick}
use Rattle.fixed.specs.Layout.{id_at, filled_to}
use Rattle.facts.specs.declared.Facts.{Facts}
use Rattle.build_append.specs.Append.{first_of}
use Rattle.build_append.proofs.Numbers.{first_zero}
use Rattle.build_rules.specs.Rules.{count_number, reach_number, wrong_begin, wrong_end}

pub reach_zero : (room stop : ℕ) → reach_number room stop ≡ 0 → stop ≤ room
unfolding reach_number
reach_zero room stop h = by-test (ltb room stop) refl h
  where
    by-test : (c : Bool) → ltb room stop ≡ c → ◌≡◌ {A = ℕ} (pick c 13 0) 0 → stop ≤ room
    by-test true e k = absurd (omega arith)
    by-test false e k = ltb-false room stop e

-- a count that is judged second is below its most
pub count_zero : (count most : ℕ) → count_number count most ≡ 0 → count < most
unfolding count_number
count_zero count most h = by-test (ltb count most) refl h
  where
    by-test : (b : Bool) → ltb count most ≡ b → ◌≡◌ {A = ℕ} (pick b 0 5) 0 → count < most
    by-test true e k = ltb-true count most e
    by-test false e k = absurd (omega arith)

pub count_below : (a count most b n : ℕ) → n ≡ first_of a (first_of (count_number count most) b) → n ≡ 0 → count < most
count_below a count most b n h z = count_zero count most (first_zero _ _ (first_zero a _ (sym h ∙ z)).1).0

-- begin and end have room
pub begin_room : (rank room : ℕ) (f : Facts) (chrom pos rlen qual : ℕ) → wrong_begin rank room f chrom pos rlen qual ≡ 0 → id_at ≤ room
unfolding wrong_begin
begin_room rank room f chrom pos rlen qual h = reach_zero room id_at (first_zero _ _ (first_zero _ _ h).1).1

pub end_room : (rank room : ℕ) → wrong_end rank room ≡ 0 → filled_to ≤ room
unfolding wrong_end
end_room rank room h = reach_zero room filled_to (first_zero _ _ h).1
