-- FORMAT and the calls: nothing where there is no GT, dots where it has no length. Rests on specs/Engine.
use mathlib.Core.Path.{◌≡◌}
use mathlib.Core.Logic.{◌≢◌}
use mathlib.Core.List.{List, [], ◌∷◌}
use Prim.Native.Nat.{ℕ}
use lib.ListN.{replicate}
use borrow.Author.Tests.{eq-eqb, ne_eqb}
use Rattle.genotypes.specs.Formats.{gt_part}
use Rattle.genotypes.specs.declared.Gt.{Gt}
use Rattle.pieces.specs.Pieces.{followed, dot}
use Rattle.vcf_calls.specs.Words.{part_words}
use Rattle.vcf_line.specs.Engine.{genotypes_text}

pub no_gt_lem : (people : ℕ) (g : Gt) (s : List ℕ) → g.first ≡ 0 → genotypes_text people g s ≡ []
unfolding genotypes_text
no_gt_lem people g s h = rw (eq-eqb g.first 0 h)

pub gt_dots : (people : ℕ) (g : Gt) (s : List ℕ) → g.first ≢ 0 → g.len ≡ 0
    → genotypes_text people g s ≡ 0x09 ∷ 0x47 ∷ 0x54 ∷ followed 0x09 (replicate people dot)
unfolding genotypes_text
gt_dots people g s h k = rw (ne_eqb g.first 0 h, eq-eqb g.len 0 k)

pub gt_calls : (people : ℕ) (g : Gt) (s : List ℕ) → g.first ≢ 0 → g.len ≢ 0
    → genotypes_text people g s ≡ 0x09 ∷ 0x47 ∷ 0x54 ∷ followed 0x09 (part_words g.code g.len (gt_part people g s))
unfolding genotypes_text
gt_calls people g s h k = rw (ne_eqb g.first 0 h, ne_eqb g.len 0 k)
