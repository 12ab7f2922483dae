-- A value of type 0 is a bare 00: no elements, and no byte but its descriptor. Rests on values' definitions and fetch_laws' Present.
use mathlib.Core.Path.{◌≡◌, refl, sym, ap}
use mathlib.Core.List.{List, [], ◌∷◌}
use mathlib.Core.Bool.{Bool, true, false}
use Prim.Native.Nat.{ℕ, zero, suc, ◌+◌, ◌*◌, ◌/◌, ◌%◌, ◌<◌}
use native.Mathlib.Omega.{arith}
use native.Mathlib.Nat.{mul-zero}
use lib.Dec.{ltb}
use borrow.Author.Tests.{ltb-false}
use Rattle.words.specs.Pick.{pick}
use Rattle.types.specs.Rows.{row_of, width_of, allowed}
use Rattle.types.specs.declared.Use.{Use}
use Rattle.values.specs.Answers.{no_descriptor, typed, Answer, whole}
use Rattle.values.specs.Values.{true_length, with_length, may_stand, described, present}
use Rattle.values.proofs.Stand.{may_stand_zero}
use Rattle.std.specs.Prelude.{Err, Ok}
use Rattle.values.specs.declared.Integer.{Integer}
use Rattle.fetch_laws.proofs.Present.{present_typed}
use Rattle.values.proofs.Held.{same_typed}

-- a type with a width is not type 0
pub wide_type : (t : ℕ) → 0 < width_of t → 0 < t
unfolding width_of row_of
wide_type zero h = absurd (omega arith)
wide_type (suc t) h = omega arith

-- a descriptor of type 0 is a bare 00, at a use that takes one
pub record Bare (role : Use) (at : ℕ) (l : List ℕ) (n first : ℕ) : Type 0 where
  pub rest : List ℕ
  pub zero : l ≡ 0 ∷ rest
  pub none : n ≡ 0
  pub next : first ≡ at + 1
  pub takes : allowed (row_of 0) role ≡ true

pub described_zero : (role : Use) (at : ℕ) (l : List ℕ) (n first : ℕ) → described role at l ≡ typed 0 n first → Bare role at l n first
unfolding described
described_zero role at [] n first h = let z : ◌≡◌ {A = ℕ} 0 1 = cc in absurd (omega arith)
described_zero role at (d ∷ rest) n first h = by_tests (may_stand role (d % 16) (d / 16)) (ltb (d / 16) 15) (true_length (at + 1) rest) refl refl h
  where
    bare : d % 16 ≡ 0 → may_stand role (d % 16) (d / 16) ≡ true → (allowed (row_of 0) role ≡ true) × (d ≡ 0)
    bare e p = let k = may_stand_zero role (d / 16) (rw e at p) in (k.0, omega (arith, k.1))

    by_tests : (a b : Bool) (i : Answer Integer) → may_stand role (d % 16) (d / 16) ≡ a → ltb (d / 16) 15 ≡ b
        → pick a (pick b (typed (d % 16) (d / 16) (at + 1)) (with_length (d % 16) i)) (no_descriptor 6 at) ≡ typed 0 n first → Bare role at (d ∷ rest) n first
    by_tests false b i p q e = let z : ◌≡◌ {A = ℕ} 0 1 = cc in absurd (omega arith)
    by_tests true true i p q e =
        let i = same_typed e in
        let len = i.1 in
        let k = bare i.0 p in
        let z = k.1 in
        record { rest = rest; zero = ap (λ b. b ∷ rest) z; none = omega arith; next = sym i.2; takes = k.0 }
    by_tests true false (Err r) p q e = let z : ◌≡◌ {A = ℕ} 0 1 = cc in absurd (omega arith)
    by_tests true false (Ok i) p q e =
        let z = (bare (same_typed e).0 p).1 in
        let long = ltb-false (d / 16) 15 q in
        absurd (omega arith)

-- a value of type 0 ends where its elements would begin
pub present_zero : (vectors : ℕ) (role : Use) (at : ℕ) (l : List ℕ) (n first stop : ℕ) → present vectors role at l ≡ whole 0 n first stop
    → Bare role at l n first × (stop ≡ first)
unfolding width_of row_of
present_zero vectors role at l n first stop h =
    let i = present_typed vectors role at l 0 n first stop h in
    let b = described_zero role at l n first i.descriptor in
    let e = i.ends in
    let z = mul-zero (vectors * n) in
    (b, omega arith)
