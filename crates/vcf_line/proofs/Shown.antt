-- The line that is made of an accepted record's bytes is the one of what the record shows. Rests on specs/Line and specs/Engine, and on the laws of its
-- columns.
use mathlib.Core.Path.{◌≡◌, sym, ◌∙◌, ap}
use mathlib.Core.List.{List, [], ◌∷◌, ◌++◌, append_assoc, map}
use Prim.Native.Nat.{ℕ}
use native.Mathlib.Nat.{sub_self}
use lib.ListN.{take, drop, replicate}
use Rattle.facts.specs.declared.Facts.{Facts}
use Rattle.fixed.specs.declared.Site.{Site}
use Rattle.genotypes.specs.declared.Gt.{Gt}
use Rattle.record.specs.Reading.{reading, accepted_as}
use Rattle.fetch.specs.Account.{Entry, fields_of, account, of_kind}
use Rattle.fetch.specs.Fetch.{field_of, part_of, found, fetched}
use Rattle.fetch.specs.declared.Kind.TheVariants.{Id, Format}
use Rattle.fetch.proofs.Account.{of_kind_lem}
use Rattle.fetch_laws.specs.InTurn.{gt_in}
use Rattle.fetch_laws.proofs.InTurn.{accepted_gt}
use Rattle.fetch_laws.proofs.There.{accepted_people}
use Rattle.contents.specs.Contents.{field_shown, shown_of}
use Rattle.contents.proofs.Fetched.{shown_fetched}
use Rattle.pieces.specs.Pieces.{followed, joined_by, dot}
use Rattle.vcf_site.specs.Columns.{front_text}
use Rattle.vcf_line.specs.Line.{call_columns, site_columns, vcf_line}
use Rattle.vcf_line.specs.Engine.{genotypes_text, end_text, line_text}
use Rattle.vcf_line.proofs.Alleles.{alleles_shown}
use Rattle.vcf_line.proofs.Filters.{filters_shown}
use Rattle.vcf_line.proofs.Genotypes.{calls_shown}

-- eight columns and the calls, joined by tabs, one after the other
chain : (a b c d e q f : List ℕ) (calls : List (List ℕ))
    → (a ++ (0x09 ∷ (b ++ (0x09 ∷ c))))
    ++ ((0x09 ∷ (d ++ (0x09 ∷ e))) ++ ((0x09 ∷ q) ++ ((0x09 ∷ f) ++ (0x09 ∷ (0x2E ∷ (followed 0x09 calls ++ (0x0A ∷ [])))))))
    ≡ joined_by 0x09 (a ∷ b ∷ c ∷ d ∷ e ∷ q ∷ f ∷ dot ∷ calls) ++ (0x0A ∷ [])
unfolding joined_by followed
chain a b c d e q f calls = simp append_assoc

-- ID is the part that is fetched
id_shown : (f : Facts) (s : List ℕ) (t : Site) (g : Gt) → reading f s ≡ accepted_as t g → part_of s (field_of Id 0 t s) ≡ (shown_of t s).id
unfolding fetched found
id_shown f s t g h = rw ((shown_fetched f s t g h).id.bytes, h)

-- FORMAT and the calls are those of the genotype block
genotypes_shown : (f : Facts) (s : List ℕ) (t : Site) (g : Gt) → reading f s ≡ accepted_as t g
    → genotypes_text t.people g s ≡ followed 0x09 (call_columns f.gt t.people (shown_of t s).formats)
unfolding shown_of
genotypes_shown f s t g h =
    let fields = fields_of t.people (replicate t.formats Format) t.border (drop t.border (take t.length s)) in
    let e : of_kind Format (account t s) ≡ fields = rw (of_kind_lem Format t s, sub_self t.border) in
    ap (λ (x : Gt). genotypes_text t.people x s) (accepted_gt f s t g h ∙ ap (gt_in f.gt) e)
    ∙ calls_shown f.gt t.people t.formats t.border t.length s
    ∙ ap (λ (es : List Entry). followed 0x09 (call_columns f.gt t.people (map (field_shown s) es))) (sym e)

-- the law
pub line_shown : (f : Facts) (s : List ℕ) (t : Site) (g : Gt) (string contig : ℕ → List ℕ) → reading f s ≡ accepted_as t g
    → line_text string contig t g s ≡ vcf_line f.gt f.people string contig (shown_of t s)
unfolding line_text front_text end_text vcf_line site_columns
line_shown f s t g string contig h =
    let x = shown_fetched f s t g h in
    rw (
      id_shown f s t g h,
      alleles_shown f s t g h,
      filters_shown f s t g string h,
      genotypes_shown f s t g h,
      ← accepted_people f s t g h,
      x.chrom,
      x.pos,
      x.qual,
    )
    (chain _ _ _ _ _ _ _ _)
