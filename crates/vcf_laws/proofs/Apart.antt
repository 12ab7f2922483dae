-- Two lines that are alike are of records with the same contig, POS, ID text and list of alleles: the first five columns are the same, and each tells
-- what it is of. Rests on specs/Lines, on pieces' `first_same` and on 01's rules of what an accepted record shows.
use mathlib.Core.Path.{◌≡◌, refl, sym, ap, ◌∙◌}
use mathlib.Core.Logic.{◌≢◌, ◌⊎◌, inl, inr}
use mathlib.Core.List.{List, [], ◌∷◌, ◌++◌}
use Prim.Native.Nat.{ℕ, ◌+◌, ◌%◌, ◌^◌, ◌<◌, ◌≤◌}
use native.Mathlib.Omega.{arith}
use lib.ListN.{length, get_or}
use mir.Syntax.{w32}
use mir.Val.{of_z, Fits}
use mir.Facts.{of_z-to_z}
use Rattle.words.specs.Words.{Bytes}
use Rattle.decimal.proofs.Digits.{same_number}
use Rattle.facts.specs.declared.Facts.{Facts}
use Rattle.positions.specs.Positions.{pos_of, one_based}
use Rattle.fixed.specs.declared.Site.{Site}
use Rattle.genotypes.specs.declared.Gt.{Gt}
use Rattle.shown.specs.Shown.{Shown}
use Rattle.record.specs.Reading.{reading, accepted_as}
use Rattle.contents.specs.Contents.{shown_of}
use Rattle.build_laws.specs.Records.{All}
use Rattle.record_laws.specs.Rules.{Rules}
use Rattle.record_laws.proofs.Rules.{accepted_rules}
use Rattle.pieces.specs.Pieces.{followed, joined_by, dot, listed, or_dot}
use Rattle.pieces.proofs.Joined.{Free, joined_same, first_same}
use Rattle.names.specs.Names.{before_zero, name_of}
use Rattle.names.proofs.Names.{free}
use Rattle.vcf_qual.specs.Qual.{qual_text}
use Rattle.vcf_site.specs.Columns.{pos_text}
use Rattle.vcf_line.specs.Line.{ref_text, alt_text, filter_text, call_columns, site_columns, vcf_line, Names, line, printed}
use Rattle.vcf_laws.specs.Conditions.{Condition, distinct, zeros, name_tabs, id_tabs, id_dots, commas, allele_dots, Holds}
use Rattle.vcf_laws.specs.Lines.{Without, names_of, stretches_of, EachWithout, Distinct, ClearAllele, Clear, Same}
use Rattle.vcf_laws.proofs.Lines.{line_of}
use Rattle.vcf_laws.proofs.Columns.{without_dot, without_or_dot, without_ref, without_alt, without_pos}

-- POS tells its 32 bits
pos_number : (p : ℕ) → p < 2 ^ 32 → of_z w32 (one_based (pos_of p).0) ≡ (p + 1) % 2 ^ 32
unfolding one_based pos_of
pos_number p h =
    let a : Fits w32 p = record { fits = h } in
    let b : Fits w32 ((p + 1) % 2 ^ 32) = record { fits = omega arith } in
    rw (of_z-to_z {w = w32} a, of_z-to_z {w = w32} b)

pos_bits_lem : (p : ℕ) → (p ≤ 2147483646) ⊎ (p ≡ 0xFFFFFFFF) → p < 2 ^ 32
pos_bits_lem p (inl h) = omega arith
pos_bits_lem p (inr h) = omega arith

same_pos : (p q : ℕ) → p < 2 ^ 32 → q < 2 ^ 32 → pos_text p ≡ pos_text q → p ≡ q
unfolding pos_text
same_pos p q h k e =
    let n : of_z w32 (one_based (pos_of p).0) ≡ of_z w32 (one_based (pos_of q).0) = same_number _ _ e in
    let m : (p + 1) % 2 ^ 32 ≡ (q + 1) % 2 ^ 32 = sym (pos_number p h) ∙ n ∙ pos_number q k in
    omega arith

-- ID tells its text, where that is no lone dot
same_id : (x y : List ℕ) → x ≢ dot → y ≢ dot → or_dot x ≡ or_dot y → x ≡ y
unfolding or_dot
same_id [] [] h k e = refl
same_id [] (b ∷ y) h k e = absurd (k (sym e))
same_id (b ∷ x) [] h k e = absurd (h e)
same_id (b ∷ x) (d ∷ y) h k e = e

-- ALT tells the later alleles, where none has a comma or is a lone dot
free_commas : (xs : List (List ℕ)) → All ClearAllele xs → Free 0x2C xs
free_commas [] h = tt
free_commas (x ∷ xs) h = (h.0.comma, free_commas xs h.1)

not_none : (x : List ℕ) (xs : List (List ℕ)) → All ClearAllele (x ∷ xs) → dot ≡ joined_by 0x2C (x ∷ xs) → ⊥
unfolding joined_by followed
not_none x xs h e =
    let one : joined_by 0x2C (dot ∷ []) ≡ joined_by 0x2C (x ∷ xs) = e in
    let same : dot ∷ [] ≡ x ∷ xs = joined_same 0x2C dot [] x xs (without_dot 0x2C (λ e. omega arith), tt) (free_commas (x ∷ xs) h) one in
    h.0.dotless cc

same_listed : (xs ys : List (List ℕ)) → All ClearAllele xs → All ClearAllele ys → listed 0x2C xs ≡ listed 0x2C ys → xs ≡ ys
unfolding listed
same_listed [] [] h k e = refl
same_listed [] (y ∷ ys) h k e = absurd (not_none y ys k e)
same_listed (x ∷ xs) [] h k e = absurd (not_none x xs h (sym e))
same_listed (x ∷ xs) (y ∷ ys) h k e = joined_same 0x2C x xs y ys (free_commas (x ∷ xs) h) (free_commas (y ∷ ys) k) e

-- REF and ALT tell the alleles
same_alleles : (xs ys : List (List ℕ)) → 1 ≤ length xs → 1 ≤ length ys → All ClearAllele xs → All ClearAllele ys → ref_text xs ≡ ref_text ys
    → alt_text xs ≡ alt_text ys → xs ≡ ys
unfolding ref_text alt_text
same_alleles [] ys h k a b e d = absurd (omega arith)
same_alleles (x ∷ xs) [] h k a b e d = absurd (omega arith)
same_alleles (x ∷ xs) (y ∷ ys) h k a b e d = let rest = same_listed xs ys a.1 b.1 d in rw (e, rest)

-- the five columns of what is told apart
abbrev five : (ℕ → List ℕ) → Shown → List (List ℕ)
five contig r = contig r.chrom ∷ pos_text r.pos ∷ or_dot (before_zero r.id) ∷ ref_text r.alleles ∷ alt_text r.alleles ∷ []

-- of a record that keeps 01's rules, whose contig's name and ID text have no tab, none of them has one
five_free : (f : Facts) (contig : ℕ → List ℕ) (r : Shown) → Rules f r → Without 0x09 (contig r.chrom) → Clear r → Free 0x09 (five contig r)
five_free f contig r h n c =
    let id = without_or_dot 0x09 (before_zero r.id) (λ e. omega arith) c.tab in
    let ref = without_ref 0x09 r.alleles (omega arith) h.alleles in
    let alt = without_alt 0x09 r.alleles (omega arith) h.alleles in
    (n, (without_pos 0x09 r.pos (omega arith), (id, (ref, (alt, tt)))))

-- columns that are the same tell what they are of
five_same : (f₁ f₂ : Facts) (contig : ℕ → List ℕ) (r₁ r₂ : Shown) → Rules f₁ r₁ → Rules f₂ r₂ → Clear r₁ → Clear r₂
    → Distinct f₁.contigs f₂.contigs contig → five contig r₁ ≡ five contig r₂ → Same r₁ r₂
five_same f₁ f₂ contig r₁ r₂ h₁ h₂ c₁ c₂ names e =
    let column : (i : ℕ) → get_or (five contig r₁) i [] ≡ get_or (five contig r₂) i [] = λ i. ap (λ x. get_or x i []) e in
    record {
      chrom = names r₁.chrom r₂.chrom h₁.chrom.1 h₂.chrom.1 (column 0);
      pos = same_pos r₁.pos r₂.pos (pos_bits_lem r₁.pos h₁.pos) (pos_bits_lem r₂.pos h₂.pos) (column 1);
      id = same_id (before_zero r₁.id) (before_zero r₂.id) c₁.dotless c₂.dotless (column 2);
      alleles =
          same_alleles r₁.alleles r₂.alleles h₁.alleles_count.0 h₂.alleles_count.0 c₁.alleles c₂.alleles (column 3) (column 4);
    }

-- they stand first in a line, and others follow
abbrev others : ℕ → ℕ → (ℕ → List ℕ) → Shown → List (List ℕ)
others gt people string r = filter_text string r.filters ∷ dot ∷ call_columns gt people r.formats

line_five : (gt people : ℕ) (string contig : ℕ → List ℕ) (r : Shown)
    → vcf_line gt people string contig r ≡ joined_by 0x09 (five contig r ++ (qual_text r.qual ∷ others gt people string r)) ++ (0x0A ∷ [])
unfolding vcf_line site_columns
line_five gt people string contig r = refl

-- the law: two accepted records that print alike, whatever their facts and their string names are
pub apart : (f₁ f₂ : Facts) (strings₁ strings₂ contigs : Names) (s₁ s₂ : List ℕ) (t₁ t₂ : Site) (g₁ g₂ : Gt) (l : List ℕ) → Bytes s₁ → Bytes s₂
    → reading f₁ s₁ ≡ accepted_as t₁ g₁ → reading f₂ s₂ ≡ accepted_as t₂ g₂ → printed f₁ strings₁ contigs s₁ ≡ line l → printed f₂ strings₂ contigs s₂ ≡ line l
    → EachWithout 0x09 f₁.contigs (names_of contigs) → EachWithout 0x09 f₂.contigs (names_of contigs)
    → Distinct f₁.contigs f₂.contigs (names_of contigs) → Clear (shown_of t₁ s₁) → Clear (shown_of t₂ s₂) → Same (shown_of t₁ s₁) (shown_of t₂ s₂)
apart f₁ f₂ strings₁ strings₂ contigs s₁ s₂ t₁ t₂ g₁ g₂ l b₁ b₂ h₁ h₂ p₁ p₂ n₁ n₂ names c₁ c₂ =
    let x₁ = line_of f₁ strings₁ contigs s₁ t₁ g₁ l h₁ p₁ in
    let x₂ = line_of f₂ strings₂ contigs s₂ t₂ g₂ l h₂ p₂ in
    let r₁ = accepted_rules f₁ s₁ t₁ g₁ b₁ h₁ in
    let r₂ = accepted_rules f₂ s₂ t₂ g₂ b₂ h₂ in
    let e = sym (line_five f₁.gt f₁.people (names_of strings₁) (names_of contigs) (shown_of t₁ s₁)) ∙ sym x₁.text ∙ x₂.text
    ∙ line_five f₂.gt f₂.people (names_of strings₂) (names_of contigs) (shown_of t₂ s₂) in
    five_same f₁ f₂ (names_of contigs) (shown_of t₁ s₁) (shown_of t₂ s₂) r₁ r₂ c₁ c₂ names
    (first_same 0x09 (five (names_of contigs) (shown_of t₁ s₁)) (five (names_of contigs) (shown_of t₂ s₂)) _ _
    (others f₁.gt f₁.people (names_of strings₁) (shown_of t₁ s₁)) (others f₂.gt f₂.people (names_of strings₂) (shown_of t₂ s₂))
    (0x0A ∷ []) (0x0A ∷ []) refl
    (five_free f₁ (names_of contigs) (shown_of t₁ s₁) r₁ (n₁ _ r₁.chrom.1) c₁)
    (five_free f₂ (names_of contigs) (shown_of t₂ s₂) r₂ (n₂ _ r₂.chrom.1) c₂)
    e)

-- names that are distinct and free of zero bytes are distinct as they print
pub distinct_names : (names : Names) (m n : ℕ) → EachWithout 0 m (stretches_of names) → EachWithout 0 n (stretches_of names)
    → Distinct m n (stretches_of names) → Distinct m n (names_of names)
unfolding name_of
distinct_names names m n h k d i j p q e =
    d i j p q (sym (free (stretches_of names i) (h i p)) ∙ e ∙ free (stretches_of names j) (k j q))

-- alleles that have no comma, and are no lone dots
clear_alleles : (xs : List (List ℕ)) → All (Without 0x2C) xs → All (λ a. a ≢ dot) xs → All ClearAllele xs
clear_alleles [] h k = tt
clear_alleles (x ∷ xs) h k = (record { comma = h.0; dotless = k.0 }, clear_alleles xs h.1 k.1)

-- the law in 02's words
pub told_apart : (f₁ f₂ : Facts) (strings₁ strings₂ contigs : Names) (s₁ s₂ : List ℕ) (t₁ t₂ : Site) (g₁ g₂ : Gt) (l : List ℕ) → Bytes s₁ → Bytes s₂
    → reading f₁ s₁ ≡ accepted_as t₁ g₁ → reading f₂ s₂ ≡ accepted_as t₂ g₂ → printed f₁ strings₁ contigs s₁ ≡ line l → printed f₂ strings₂ contigs s₂ ≡ line l
    → ((c : Condition) → Holds c f₁.contigs f₂.contigs contigs (shown_of t₁ s₁) (shown_of t₂ s₂)) → Same (shown_of t₁ s₁) (shown_of t₂ s₂)
unfolding name_of
told_apart f₁ f₂ strings₁ strings₂ contigs s₁ s₂ t₁ t₂ g₁ g₂ l b₁ b₂ h₁ h₂ p₁ p₂ c =
    let r₁ = shown_of t₁ s₁ in
    let r₂ = shown_of t₂ s₂ in
    let whole = c zeros in
    let tabs = c name_tabs in
    apart f₁ f₂ strings₁ strings₂ contigs s₁ s₂ t₁ t₂ g₁ g₂ l b₁ b₂ h₁ h₂ p₁ p₂
    (λ i q. rw (free (stretches_of contigs i) (whole.0 i q)) (tabs.0 i q))
    (λ i q. rw (free (stretches_of contigs i) (whole.1 i q)) (tabs.1 i q))
    (distinct_names contigs f₁.contigs f₂.contigs whole.0 whole.1 (c distinct))
    (record { tab = (c id_tabs).0; dotless = (c id_dots).0; alleles = clear_alleles r₁.alleles (c commas).0 (c allele_dots).0 })
    (record { tab = (c id_tabs).1; dotless = (c id_dots).1; alleles = clear_alleles r₂.alleles (c commas).1 (c allele_dots).1 })
