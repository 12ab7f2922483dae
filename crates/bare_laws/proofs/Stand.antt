-- Where a descriptor 00 may stand, and where type 0 is refused. Rests on values' definitions.
use mathlib.Core.Path.{◌≡◌}
use mathlib.Core.List.{List, ◌∷◌}
use mathlib.Core.Bool.{true, false}
use Prim.Native.Nat.{ℕ, ◌+◌, ◌*◌, ◌/◌, ◌%◌, ◌<◌}
use native.Mathlib.Omega.{arith}
use borrow.Author.Tests.{ne_eqb}
use Rattle.words.proofs.Pick.{pick_same}
use Rattle.types.specs.Rows.{row_of, allowed}
use Rattle.types.specs.declared.Use.{Use}
use Rattle.values.specs.Answers.{no_integer, no_descriptor, typed}
use Rattle.values.specs.Values.{integer, true_length, keyed, may_stand, described}

-- 00 at a use that takes it, and at one that does not
pub described_bare : (role : Use) (at : ℕ) (rest : List ℕ) → allowed (row_of 0) role ≡ true → described role at (0 ∷ rest) ≡ typed 0 0 (at + 1)
unfolding described may_stand
described_bare role at rest h = rw h

pub refused_bare : (role : Use) (at : ℕ) (rest : List ℕ) → allowed (row_of 0) role ≡ false → described role at (0 ∷ rest) ≡ no_descriptor 6 at
unfolding described may_stand
refused_bare role at rest h = rw h

-- type 0 with another length than 0
pub refused_length : (role : Use) (n at : ℕ) (rest : List ℕ) → 0 < n → described role at (n * 16 ∷ rest) ≡ no_descriptor 6 at
unfolding described may_stand
refused_length role n at rest h =
    let low : n * 16 % 16 ≡ 0 = omega arith in
    let high : n * 16 / 16 ≡ n = omega arith in
    rw (low, high, ne_eqb n 0 (λ e. omega arith), pick_same (allowed (row_of 0) role) false)

-- type 0 for one integer, so for a key or a true length, whatever its length
refused_integer : (n at : ℕ) (rest : List ℕ) → integer at (n * 16 ∷ rest) ≡ no_integer 6 at
unfolding integer row_of
refused_integer n at rest = let low : n * 16 % 16 ≡ 0 = omega arith in rw low

pub refused_key : (strings n at : ℕ) (rest : List ℕ) → keyed strings at (n * 16 ∷ rest) ≡ no_integer 6 at
unfolding keyed
refused_key strings n at rest = rw (refused_integer n at rest)

pub refused_true_length : (n at : ℕ) (rest : List ℕ) → true_length at (n * 16 ∷ rest) ≡ no_integer 6 at
unfolding true_length
refused_true_length n at rest = rw (refused_integer n at rest)
