-- No condition of 02's law about two lines can be left out: of its two records every other condition holds, and they differ. Rests on specs/Conditions and
-- on Twins.
use mathlib.Core.Path.{◌≡◌, refl, sym, ap}
use mathlib.Core.Logic.{◌≢◌}
use mathlib.Core.Bool.{false}
use mathlib.Core.List.{List}
use Prim.Native.Nat.{ℕ, zero, suc}
use native.Mathlib.Omega.{arith}
use lib.Dec.{eqb}
use lib.ListN.{length, get_or}
use borrow.Author.Tests.{eqb-false}
use Rattle.words.specs.Lists.{among}
use Rattle.genotypes.specs.Formats.{no_gt}
use Rattle.shown.specs.Records.{record_bytes}
use Rattle.build_laws.proofs.Front.{site_for}
use Rattle.pieces.specs.Pieces.{dot}
use Rattle.names.specs.Names.{before_zero, stretch_of}
use Rattle.vcf_laws.specs.Conditions.{Condition, distinct, zeros, name_tabs, id_tabs, id_dots, commas, allele_dots, Holds, Needed}
use Rattle.vcf_laws.specs.Lines.{Without, stretches_of, EachWithout, Distinct, Same}
use Rattle.vcf_laws.proofs.Twins.{under, twins, both_print}

-- a condition, of the two records for one; each condition but that one
abbrev Here : Condition → Condition → Type 0
Here c d = Holds d (twins c).contigs (twins c).contigs (twins c).names (twins c).first (twins c).second

each : (c : Condition) → (distinct ≢ c → Here c distinct) → (zeros ≢ c → Here c zeros) → (name_tabs ≢ c → Here c name_tabs)
    → (id_tabs ≢ c → Here c id_tabs) → (id_dots ≢ c → Here c id_dots) → (commas ≢ c → Here c commas) → (allele_dots ≢ c → Here c allele_dots)
    → (d : Condition) → d ≢ c → Here c d
each c h₁ h₂ h₃ h₄ h₅ h₆ h₇ distinct o = h₁ o
each c h₁ h₂ h₃ h₄ h₅ h₆ h₇ zeros o = h₂ o
each c h₁ h₂ h₃ h₄ h₅ h₆ h₇ name_tabs o = h₃ o
each c h₁ h₂ h₃ h₄ h₅ h₆ h₇ id_tabs o = h₄ o
each c h₁ h₂ h₃ h₄ h₅ h₆ h₇ id_dots o = h₅ o
each c h₁ h₂ h₃ h₄ h₅ h₆ h₇ commas o = h₆ o
each c h₁ h₂ h₃ h₄ h₅ h₆ h₇ allele_dots o = h₇ o

-- the names of one contig, and of two
one : (c : ℕ) (name : ℕ → List ℕ) → Without c (name 0) → EachWithout c 1 name × EachWithout c 1 name
one c name h = (each-name, each-name)
  where
    each-name : EachWithout c 1 name
    each-name zero q = h
    each-name (suc i) q = absurd (omega arith)

two : (c : ℕ) (name : ℕ → List ℕ) → Without c (name 0) → Without c (name 1) → EachWithout c 2 name × EachWithout c 2 name
two c name h k = (each-name, each-name)
  where
    each-name : EachWithout c 2 name
    each-name zero q = h
    each-name (suc zero) q = k
    each-name (suc (suc i)) q = absurd (omega arith)

two_distinct : (name : ℕ → List ℕ) → name 0 ≢ name 1 → Distinct 2 2 name
two_distinct name h zero zero p q e = refl
two_distinct name h zero (suc zero) p q e = absurd (h e)
two_distinct name h (suc zero) zero p q e = absurd (h (sym e))
two_distinct name h (suc zero) (suc zero) p q e = refl
two_distinct name h (suc (suc i)) j p q e = absurd (omega arith)
two_distinct name h zero (suc (suc j)) p q e = absurd (omega arith)
two_distinct name h (suc zero) (suc (suc j)) p q e = absurd (omega arith)

-- texts that differ at a place are not the same; a text that begins with no dot is no lone dot
unlike : (i : ℕ) {x y : List ℕ} → eqb (get_or x i 0) (get_or y i 0) ≡ false → x ≢ y
unlike i {x} {y} h e = eqb-false (get_or x i 0) (get_or y i 0) h (ap (λ z. get_or z i 0) e)

fine : {x : List ℕ} → eqb (get_or x 0 0) 0x2E ≡ false → x ≢ dot
fine h = unlike 0 h

others : (c d : Condition) → d ≢ c → Here c d
unfolding among stretch_of before_zero
others distinct =
    each distinct
    (λ o. absurd (o refl))
    (λ o. two 0 (stretches_of (twins distinct).names) refl refl)
    (λ o. two 0x09 (stretches_of (twins distinct).names) refl refl)
    (λ o. (refl, refl))
    (λ o. (fine refl, fine refl))
    (λ o. ((refl, tt), (refl, tt)))
    (λ o. ((fine refl, tt), (fine refl, tt)))
others zeros =
    each zeros
    (λ o. two_distinct (stretches_of (twins zeros).names) (unlike 2 refl))
    (λ o. absurd (o refl))
    (λ o. two 0x09 (stretches_of (twins zeros).names) refl refl)
    (λ o. (refl, refl))
    (λ o. (fine refl, fine refl))
    (λ o. ((refl, tt), (refl, tt)))
    (λ o. ((fine refl, tt), (fine refl, tt)))
others name_tabs =
    each name_tabs
    (λ o. two_distinct (stretches_of (twins name_tabs).names) (unlike 1 refl))
    (λ o. two 0 (stretches_of (twins name_tabs).names) refl refl)
    (λ o. absurd (o refl))
    (λ o. (refl, refl))
    (λ o. (fine refl, fine refl))
    (λ o. ((refl, (refl, tt)), (refl, tt)))
    (λ o. ((fine refl, (fine refl, tt)), (fine refl, tt)))
others id_tabs =
    each id_tabs
    (λ o i j p q e. omega arith)
    (λ o. one 0 (stretches_of (twins id_tabs).names) refl)
    (λ o. one 0x09 (stretches_of (twins id_tabs).names) refl)
    (λ o. absurd (o refl))
    (λ o. (fine refl, fine refl))
    (λ o. ((refl, tt), (refl, (refl, tt))))
    (λ o. ((fine refl, tt), (fine refl, (fine refl, tt))))
others id_dots =
    each id_dots
    (λ o i j p q e. omega arith)
    (λ o. one 0 (stretches_of (twins id_dots).names) refl)
    (λ o. one 0x09 (stretches_of (twins id_dots).names) refl)
    (λ o. (refl, refl))
    (λ o. absurd (o refl))
    (λ o. ((refl, tt), (refl, tt)))
    (λ o. ((fine refl, tt), (fine refl, tt)))
others commas =
    each commas
    (λ o i j p q e. omega arith)
    (λ o. one 0 (stretches_of (twins commas).names) refl)
    (λ o. one 0x09 (stretches_of (twins commas).names) refl)
    (λ o. (refl, refl))
    (λ o. (fine refl, fine refl))
    (λ o. absurd (o refl))
    (λ o. ((fine refl, (fine refl, tt)), (fine refl, (fine refl, (fine refl, tt)))))
others allele_dots =
    each allele_dots
    (λ o i j p q e. omega arith)
    (λ o. one 0 (stretches_of (twins allele_dots).names) refl)
    (λ o. one 0x09 (stretches_of (twins allele_dots).names) refl)
    (λ o. (refl, refl))
    (λ o. (fine refl, fine refl))
    (λ o. ((refl, (refl, tt)), (refl, tt)))
    (λ o. absurd (o refl))

-- they differ: in their contigs, in the length of their ID texts, or in the number of their alleles
differ : (c : Condition) → Same (twins c).first (twins c).second → ⊥
unfolding before_zero
differ distinct s = let z : ◌≡◌ {A = ℕ} 0 1 = s.chrom in omega arith
differ zeros s = let z : ◌≡◌ {A = ℕ} 0 1 = s.chrom in omega arith
differ name_tabs s = let z : ◌≡◌ {A = ℕ} 0 1 = s.chrom in omega arith
differ id_tabs s = let z : ◌≡◌ {A = ℕ} 3 1 = ap length s.id in omega arith
differ id_dots s = let z : ◌≡◌ {A = ℕ} 1 0 = ap length s.id in omega arith
differ commas s = let z : ◌≡◌ {A = ℕ} 2 3 = ap length s.alleles in omega arith
differ allele_dots s = let z : ◌≡◌ {A = ℕ} 2 1 = ap length s.alleles in omega arith

pub needed : (c : Condition) → Needed c
needed c =
    let t = twins c in
    let p = both_print c in
    record {
      facts = under t.contigs;
      strings₁ = t.strings₁;
      strings₂ = t.strings₂;
      contigs = t.names;
      s₁ = record_bytes 0 t.first;
      s₂ = record_bytes 0 t.second;
      t₁ = site_for 0 t.first;
      t₂ = site_for 0 t.second;
      g₁ = no_gt;
      g₂ = no_gt;
      text = t.text;
      bytes₁ = p.0.are_bytes_lem;
      bytes₂ = p.1.are_bytes_lem;
      read₁ = p.0.read;
      read₂ = p.1.read;
      printed₁ = p.0.prints;
      printed₂ = p.1.prints;
      others = λ d o. rw (p.0.shows, p.1.shows) (others c d o);
      differ = λ s. differ c (rw (p.0.shows, p.1.shows) at s);
    }
