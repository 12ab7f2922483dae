-- 02's conditions for telling two lines apart, one by one; and that each is needed: there are two records that print alike and differ, where only that one
-- is left out. Rests on specs/Lines, on reading and on printing.
use Rattle.std.specs.Prelude.{ℕ, ◌≡◌, ◌≢◌, List}
use Rattle.words.specs.Words.{Bytes}
use Rattle.facts.specs.declared.Facts.{Facts}
use Rattle.fixed.specs.declared.Site.{Site}
use Rattle.genotypes.specs.declared.Gt.{Gt}
use Rattle.shown.specs.Shown.{Shown}
use Rattle.record.specs.Reading.{reading, accepted_as}
use Rattle.contents.specs.Contents.{shown_of}
use Rattle.build_laws.specs.Records.{All}
use Rattle.pieces.specs.Pieces.{dot}
use Rattle.names.specs.Names.{before_zero}
use Rattle.vcf_line.specs.Line.{Names, line, printed}
use Rattle.vcf_laws.specs.Lines.{Without, stretches_of, EachWithout, Distinct, Same}

-- 02 names line ends too; the law does without
pub data Condition : Type 0 where
  distinct : Condition
  zeros : Condition
  name_tabs : Condition
  id_tabs : Condition
  id_dots : Condition
  commas : Condition
  allele_dots : Condition

-- of two records under so many contigs each: contig names are distinct, and have no zero bytes and no tabs; no ID text has a tab or is a lone dot; no allele
-- has a comma or is a lone dot
abbrev pub Holds : Condition → ℕ → ℕ → Names → Shown → Shown → Type 0
Holds distinct m n contigs r₁ r₂ = Distinct m n (stretches_of contigs)
Holds zeros m n contigs r₁ r₂ = EachWithout 0 m (stretches_of contigs) × EachWithout 0 n (stretches_of contigs)
Holds name_tabs m n contigs r₁ r₂ = EachWithout 0x09 m (stretches_of contigs) × EachWithout 0x09 n (stretches_of contigs)
Holds id_tabs m n contigs r₁ r₂ = Without 0x09 (before_zero r₁.id) × Without 0x09 (before_zero r₂.id)
Holds id_dots m n contigs r₁ r₂ = (before_zero r₁.id ≢ dot) × (before_zero r₂.id ≢ dot)
Holds commas m n contigs r₁ r₂ = All (Without 0x2C) r₁.alleles × All (Without 0x2C) r₂.alleles
Holds allele_dots m n contigs r₁ r₂ = All (λ a. a ≢ dot) r₁.alleles × All (λ a. a ≢ dot) r₂.alleles

-- two accepted records that print alike and differ, where every other condition holds
pub record Needed (c : Condition) : Type 0 where
  pub facts : Facts
  pub strings₁ : Names
  pub strings₂ : Names
  pub contigs : Names
  pub s₁ : List ℕ
  pub s₂ : List ℕ
  pub t₁ : Site
  pub t₂ : Site
  pub g₁ : Gt
  pub g₂ : Gt
  pub text : List ℕ
  pub bytes₁ : Bytes s₁
  pub bytes₂ : Bytes s₂
  pub read₁ : reading facts s₁ ≡ accepted_as t₁ g₁
  pub read₂ : reading facts s₂ ≡ accepted_as t₂ g₂
  pub printed₁ : printed facts strings₁ contigs s₁ ≡ line text
  pub printed₂ : printed facts strings₂ contigs s₂ ≡ line text
  pub others : (d : Condition) → d ≢ c → Holds d facts.contigs facts.contigs contigs (shown_of t₁ s₁) (shown_of t₂ s₂)
  pub differ : Same (shown_of t₁ s₁) (shown_of t₂ s₂) → ⊥
