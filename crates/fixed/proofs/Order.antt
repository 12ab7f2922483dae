-- No field before the place that is told breaks its rule: the order of judgement is the order of the bytes. Rests on specs/Fixed and the
-- layout; a layout whose places do not ascend in the order of judgement has no proof of it.
use mathlib.Core.Path.{◌≡◌, refl}
use mathlib.Core.List.{List}
use mathlib.Core.Bool.{Bool, true, false}
use Prim.Native.Nat.{ℕ, ◌≤◌, ◌<◌}
use native.Mathlib.Omega.{arith}
use Rattle.words.specs.Pick.{pick}
use Rattle.words.specs.Words.{outside}
use Rattle.fixed.specs.Layout.{chrom_at, pos_at, rlen_at, qual_at, counts_at, alleles_in, field, pos_wrong, rlen_wrong, qual_wrong, counts_wrong}
use Rattle.fixed.specs.Fixed.{wrong_at}
use Rattle.facts.specs.declared.Facts.{Facts}

-- each field that stands before a place keeps its rule; the people stand before none
pub record RightBefore (f : Facts) (s : List ℕ) (p : ℕ) : Type 0 where
  pub chrom : chrom_at < p → outside f.contigs (field chrom_at s) ≡ false
  pub pos : pos_at < p → pos_wrong (field pos_at s) ≡ false
  pub rlen : rlen_at < p → rlen_wrong (field rlen_at s) ≡ false
  pub qual : qual_at < p → qual_wrong (field qual_at s) ≡ false
  pub counts : counts_at < p → counts_wrong (alleles_in (field counts_at s)) ≡ false

-- a test whose place is not past one that is before the place told
before : (c : Bool) (q x : ℕ) (r : ℕ) → q ≤ r → r < pick c q x → (c ≡ false) × (r < x)
before true q x r h k = absurd (omega arith)
before false q x r h k = (refl, k)

pub first_wrong : (f : Facts) (s : List ℕ) → RightBefore f s (wrong_at f s)
unfolding wrong_at
first_wrong f s =
    let one = outside f.contigs (field chrom_at s) in
    let two = pos_wrong (field pos_at s) in
    let three = rlen_wrong (field rlen_at s) in
    let four = qual_wrong (field qual_at s) in
    let five = counts_wrong (alleles_in (field counts_at s)) in
    record {
      chrom = λ h.
          (before one chrom_at _ chrom_at (omega arith) h).0;
      pos = λ h.
          let a = before one chrom_at _ pos_at (omega arith) h in
          (before two pos_at _ pos_at (omega arith) a.1).0;
      rlen = λ h.
          let a = before one chrom_at _ rlen_at (omega arith) h in
          let b = before two pos_at _ rlen_at (omega arith) a.1 in
          (before three rlen_at _ rlen_at (omega arith) b.1).0;
      qual = λ h.
          let a = before one chrom_at _ qual_at (omega arith) h in
          let b = before two pos_at _ qual_at (omega arith) a.1 in
          let c = before three rlen_at _ qual_at (omega arith) b.1 in
          (before four qual_at _ qual_at (omega arith) c.1).0;
      counts = λ h.
          let a = before one chrom_at _ counts_at (omega arith) h in
          let b = before two pos_at _ counts_at (omega arith) a.1 in
          let c = before three rlen_at _ counts_at (omega arith) b.1 in
          let d = before four qual_at _ counts_at (omega arith) c.1 in
          (before five counts_at _ counts_at (omega arith) d.1).0;
    }
