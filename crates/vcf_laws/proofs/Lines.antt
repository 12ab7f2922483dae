-- An accepted record that prints as a line: the tests that it has passed, and the line. Rests on vcf_line's specs.
use mathlib.Core.Path.{◌≡◌, refl}
use mathlib.Core.List.{List}
use mathlib.Core.Bool.{Bool, true, false}
use Prim.Native.Nat.{ℕ}
use native.Mathlib.Omega.{arith}
use Rattle.words.specs.Pick.{pick}
use Rattle.values.specs.declared.Refusal.{Refusal}
use Rattle.facts.specs.declared.Facts.{Facts}
use Rattle.fixed.specs.declared.Site.{Site}
use Rattle.genotypes.specs.declared.Gt.{Gt}
use Rattle.record.specs.Reading.{reading, accepted_as}
use Rattle.contents.specs.Contents.{shown_of}
use Rattle.vcf_qual.specs.Qual.{printable}
use Rattle.vcf_line.specs.Line.{vcf_line, Names, is_short, line, unprinted, printed_as, printed}
use Rattle.vcf_laws.specs.Lines.{names_of}

pub record LineOf (f : Facts) (strings contigs : Names) (s : List ℕ) (t : Site) (l : List ℕ) : Type 0 where
  pub qual : printable t.qual ≡ true
  pub string_names : is_short f.strings strings ≡ false
  pub contig_names : is_short f.contigs contigs ≡ false
  pub text : l ≡ vcf_line f.gt f.people (names_of strings) (names_of contigs) (shown_of t s)

tests : (a b c : Bool) (q r : Refusal) (w l : List ℕ)
    → pick a (pick b (unprinted q) (pick c (unprinted q) (line w))) (unprinted r) ≡ line l
    → (a ≡ true) × (b ≡ false) × (c ≡ false) × (l ≡ w)
tests true true c q r w l h = let z : ◌≡◌ {A = ℕ} 0 1 = cc in absurd (omega arith)
tests true false true q r w l h = let z : ◌≡◌ {A = ℕ} 0 1 = cc in absurd (omega arith)
tests true false false q r w l h = (refl, refl, refl, cc)
tests false b c q r w l h = let z : ◌≡◌ {A = ℕ} 0 1 = cc in absurd (omega arith)

pub line_of : (f : Facts) (strings contigs : Names) (s : List ℕ) (t : Site) (g : Gt) (l : List ℕ) → reading f s ≡ accepted_as t g
    → printed f strings contigs s ≡ line l → LineOf f strings contigs s t l
unfolding printed
line_of f strings contigs s t g l h p =
    let k : printed_as f strings contigs s (accepted_as t g) ≡ line l = rw h at p in
    let x = tests (printable t.qual) (is_short f.strings strings) (is_short f.contigs contigs) _ _ _ l k in
    record { qual = x.0; string_names = x.1; contig_names = x.2; text = x.3 }
