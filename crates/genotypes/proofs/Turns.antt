-- One turn of the loop over FORMAT fields. Rests on specs/Formats.
use mathlib.Core.Path.{◌≡◌, refl}
use mathlib.Core.List.{List, [], ◌∷◌, ◌++◌}
use Prim.Native.Nat.{ℕ, zero, suc, ◌+◌, ◌-◌, ◌<◌, ◌≤◌}
use native.Mathlib.Omega.{arith}
use native.Mathlib.Numerals.{add-one, sub-one}
use lib.Dec.{leb}
use lib.ListN.{length, set, take, drop}
use lib.Seq.{take-suc-set}
use Rattle.words.specs.Pick.{pick}
use Rattle.words.proofs.Places.{front, drop_on}
use Rattle.genotypes.specs.Formats.{format_field, after_field, format_step, and_on, so_many, none_over, all_read, formats, no_genotypes, gt_now, gt_at, whole_field}
use Rattle.std.specs.Prelude.{Err, Ok}
use Rattle.genotypes.specs.declared.FormatField.{FormatField}
use Rattle.values.specs.Answers.{Answer}
use Rattle.genotypes.specs.declared.Gt.{Gt}

-- what follows a field, where some are left
abbrev pub onward : ℕ → List ℕ → Gt → ℕ → List ℕ → (List ℕ → Gt → ℕ → List ℕ → Answer Gt) → Answer FormatField → Answer Gt
onward gt earlier known at l rest (Err r) = Err r
onward gt earlier known at l rest (Ok w) =
    rest (earlier ++ (w.key ∷ [])) (gt_now w.key gt (gt_at w.code w.len w.first) known) w.stop (drop (w.stop - at) l)

pub formats_turn : (strings people gt alleles n : ℕ) (earlier : List ℕ) (known : Gt) (at : ℕ) (l : List ℕ) → 0 < n
    → formats strings people gt alleles n earlier known at l
    ≡ onward gt earlier known at l (formats strings people gt alleles (n - 1)) (format_field strings people gt alleles earlier at l)
unfolding formats so_many
formats_turn strings people gt alleles zero earlier known at l h = absurd (omega arith)
formats_turn strings people gt alleles (suc n) earlier known at l h = rw sub-one (by_field (format_field strings people gt alleles earlier at l))
  where
    by_field : (f : Answer FormatField)
        → all_read (and_on (after_field gt (record { earlier = earlier; known = known; at = at; left = l }) f) (so_many (format_step strings people gt alleles) n))
        ≡ onward gt earlier known at l (formats strings people gt alleles n) f
    by_field (Err r) = refl
    by_field (Ok w) = refl

-- a field that is sound, and on from where it ends
pub formats_field : (strings people gt alleles left : ℕ) (earlier : List ℕ) (known : Gt) (at : ℕ) (s : List ℕ) {key t n first stop : ℕ}
    → 0 < left → format_field strings people gt alleles earlier at (drop at s) ≡ whole_field key t n first stop → at ≤ stop
    → formats strings people gt alleles left earlier known at (drop at s)
    ≡ formats strings people gt alleles (left - 1) (earlier ++ (key ∷ [])) (gt_now key gt (gt_at t n first) known) stop (drop stop s)
formats_field strings people gt alleles left earlier known at s {key} {t} {n} {first} {stop} h f a =
    rw (formats_turn strings people gt alleles left earlier known at (drop at s) h, f, drop_on s at stop a)

-- one more key in the array
pub keys_more : (keys : List ℕ) (seen key : ℕ) → seen < length keys → take (seen + 1) (set keys seen key) ≡ take seen keys ++ (key ∷ [])
keys_more keys seen key h = rw (add-one seen) (take-suc-set keys seen key h)

-- no field is left: the end of the block
pub formats_end : (strings people gt alleles : ℕ) (earlier : List ℕ) (known : Gt) (s : List ℕ) (at : ℕ)
    → formats strings people gt alleles 0 earlier known at (drop at s)
    ≡ pick (leb (length s) at) (Ok known) (no_genotypes 4 at)
unfolding formats so_many
formats_end strings people gt alleles earlier known s at = front (none_over known at) s at
