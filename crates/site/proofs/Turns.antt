-- One turn of the loops over steps and over an allele's bytes, and the end of a block. Rests on specs/Steps and specs/Alleles.
use mathlib.Core.Path.{◌≡◌}
use mathlib.Core.List.{List}
use Prim.Native.Nat.{ℕ, zero, suc, ◌+◌, ◌-◌, ◌<◌, ◌≤◌}
use native.Mathlib.Omega.{arith}
use native.Mathlib.Numerals.{sub-one}
use lib.Dec.{ltb, leb}
use lib.ListN.{length, get_or, drop, drop_of_length-le}
use borrow.Author.Tests.{lt-leb}
use Rattle.words.specs.Pick.{pick}
use Rattle.words.proofs.Places.{front, drop_on}
use Rattle.vectors.specs.Vectors.{unsound, Sound}
use Rattle.site.specs.Alleles.{allele_bytes}
use Rattle.std.specs.Prelude.{Ok}
use Rattle.values.specs.Answers.{Answer}
use Rattle.site.specs.Steps.{times, then, ended, no_step}

-- the same step, where some are left
pub times_turn : (step : ℕ → List ℕ → Answer ℕ) (s : List ℕ) (n at : ℕ) → 0 < n
    → times step n at (drop at s) ≡ then at (drop at s) (step at (drop at s)) (times step (n - 1))
unfolding times
times_turn step s zero at h = absurd (omega arith)
times_turn step s (suc n) at h = rw sub-one

-- a step that came to a later place, and on from there
pub then_on : (s : List ℕ) (at q : ℕ) (next : ℕ → List ℕ → Answer ℕ) → at ≤ q → then at (drop at s) (Ok q) next ≡ next q (drop q s)
then_on s at q next h = rw (drop_on s at q h)

-- the end of a block
pub ended_at : (s : List ℕ) (at : ℕ) → ended at (drop at s) ≡ pick (leb (length s) at) (Ok at) (no_step 4 at)
ended_at s at = front (ended at) s at

-- an allele's bytes, where some are left and where none is
pub allele_bytes_turn : (s : List ℕ) (at : ℕ) → at < length s
    → allele_bytes at (drop at s)
    ≡ pick (ltb (get_or s at 0) 0x21) (unsound 9 at) (pick (ltb 0x7E (get_or s at 0)) (unsound 9 at) (allele_bytes (at + 1) (drop (at + 1) s)))
unfolding allele_bytes
allele_bytes_turn s at h = rw (front (allele_bytes at) s at, lt-leb _ _ h)

pub allele_bytes_end : (s : List ℕ) (at : ℕ) → length s ≤ at → allele_bytes at (drop at s) ≡ Sound
unfolding allele_bytes
allele_bytes_end s at h = rw (drop_of_length-le s h)
