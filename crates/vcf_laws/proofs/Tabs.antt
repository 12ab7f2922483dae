-- The tabs and the line feed of a line: a tab fewer than there are columns, and one line feed, at the end. Rests on specs/Lines, on Columns and on Counts.
use mathlib.Core.Path.{◌≡◌, refl}
use mathlib.Core.Logic.{◌≢◌}
use mathlib.Core.List.{List, [], ◌∷◌, ◌++◌, map}
use mathlib.Core.Bool.{Bool, true, false}
use Prim.Native.Nat.{ℕ, zero, suc, ◌+◌, ◌-◌, ◌<◌}
use native.Mathlib.Omega.{arith}
use lib.Dec.{eqb}
use lib.ListN.{length, get_or, drop, length-append, length-map}
use lib.Seq.{get_or_at}
use Rattle.words.specs.Lists.{among}
use Rattle.words.specs.Pick.{pick}
use Rattle.words.specs.Words.{Bytes}
use Rattle.facts.specs.declared.Facts.{Facts}
use Rattle.fixed.specs.declared.Site.{Site}
use Rattle.genotypes.specs.declared.Gt.{Gt}
use Rattle.shown.specs.Shown.{Shown, Field}
use Rattle.record.specs.Reading.{reading, accepted_as}
use Rattle.contents.specs.Contents.{shown_of}
use Rattle.calls.specs.Calls.{how_many}
use Rattle.calls.proofs.Counters.{how_many_append}
use Rattle.record_laws.specs.Rules.{Rules}
use Rattle.record_laws.proofs.Rules.{accepted_rules}
use Rattle.pieces.specs.Pieces.{joined_by, dot, or_dot}
use Rattle.pieces.proofs.Joined.{Free}
use Rattle.names.specs.Names.{before_zero}
use Rattle.vcf_calls.specs.Words.{vectors_of, call_words}
use Rattle.vcf_qual.specs.Qual.{qual_text}
use Rattle.vcf_site.specs.Columns.{pos_text}
use Rattle.vcf_line.specs.Line.{ref_text, alt_text, filter_text, call_columns, site_columns, vcf_line, Names, line, printed}
use Rattle.vcf_laws.specs.Lines.{names_of, TextsWithout, has_gt}
use Rattle.vcf_laws.proofs.Lines.{line_of}
use Rattle.vcf_laws.proofs.Columns.{without_ref, without_alt, without_dot, without_or_dot, without_pos, without_qual, without_filters, free_calls}
use Rattle.vcf_laws.proofs.Counts.{how_many_joined, how_many_replicate, how_many_other, how_many_free}

-- how many columns there are for calls
length_vectors : (n len : ℕ) (xs : List ℕ) → length (vectors_of n len xs) ≡ n
unfolding vectors_of
length_vectors zero len xs = refl
length_vectors (suc n) len xs = rw (length_vectors n len (drop len xs))

length_calls : (gt people : ℕ) (xs : List Field) → length (call_columns gt people xs) ≡ pick (among gt (map (λ x. x.key) xs)) (1 + people) 0
unfolding call_columns call_words among
length_calls gt people [] = refl
length_calls gt people (x ∷ xs) = by-test (eqb x.key gt) (length_calls gt people xs)
  where
    words : List (List ℕ)
    words = call_words people x.len x.value.elements

    by-test : (b : Bool) → length (call_columns gt people xs) ≡ pick (among gt (map (λ x. x.key) xs)) (1 + people) 0
        → length (pick b ((0x47 ∷ 0x54 ∷ []) ∷ words) (call_columns gt people xs)) ≡ pick (pick b true (among gt (map (λ x. x.key) xs))) (1 + people) 0
    by-test true on = rw (length-map, length_vectors people x.len x.value.elements) (omega arith)
    by-test false on = on

-- the columns after the first
abbrev later : ℕ → ℕ → (ℕ → List ℕ) → Shown → List (List ℕ)
later gt people string r =
    pos_text r.pos
    ∷ or_dot (before_zero r.id)
    ∷ ref_text r.alleles
    ∷ alt_text r.alleles
    ∷ qual_text r.qual
    ∷ filter_text string r.filters
    ∷ dot
    ∷ call_columns gt people r.formats

abbrev columns : ℕ → ℕ → (ℕ → List ℕ) → (ℕ → List ℕ) → Shown → List (List ℕ)
columns gt people string contig r = contig r.chrom ∷ later gt people string r

line_columns : (gt people : ℕ) (string contig : ℕ → List ℕ) (r : Shown)
    → vcf_line gt people string contig r ≡ joined_by 0x09 (columns gt people string contig r) ++ (0x0A ∷ [])
unfolding vcf_line site_columns
line_columns gt people string contig r = refl

-- none of them has a byte below 21 that the texts have not
columns_free : (c : ℕ) (f : Facts) (string contig : ℕ → List ℕ) (r : Shown) → c < 0x21 → Rules f r → TextsWithout c string contig r
    → Free c (columns f.gt f.people string contig r)
columns_free c f string contig r b h x =
    let o : c ≢ 0x2E = λ e. omega arith in
    let id = without_or_dot c (before_zero r.id) o x.id in
    let ref = without_ref c r.alleles b h.alleles in
    let alt = without_alt c r.alleles b h.alleles in
    let filters = without_filters c string r.filters b x.filters in
    let calls = free_calls c f.gt f.people r.formats b in
    (x.chrom, (without_pos c r.pos b, (id, (ref, (alt, (without_qual c r.qual b, (filters, (without_dot c o, calls))))))))

-- the law of tabs: 7, and where there is GT one more for FORMAT and one for each person
pub tabs : (f : Facts) (strings contigs : Names) (s : List ℕ) (t : Site) (g : Gt) (l : List ℕ) → Bytes s → reading f s ≡ accepted_as t g
    → printed f strings contigs s ≡ line l → TextsWithout 0x09 (names_of strings) (names_of contigs) (shown_of t s)
    → how_many 0x09 l ≡ pick (has_gt f.gt (shown_of t s)) (8 + f.people) 7
unfolding how_many
tabs f strings contigs s t g l b h p x =
    let r = shown_of t s in
    let rest = later f.gt f.people (names_of strings) r in
    let first = names_of contigs r.chrom in
    let free = columns_free 0x09 f (names_of strings) (names_of contigs) r (omega arith) (accepted_rules f s t g b h) x in
    let joined = how_many_joined 0x09 0x09 first rest in
    rw (
      (line_of f strings contigs s t g l h p).text,
      line_columns f.gt f.people (names_of strings) (names_of contigs) r,
      how_many_append 0x09 (joined_by 0x09 (first ∷ rest)) (0x0A ∷ []),
      joined,
      how_many_replicate 0x09 (length rest),
      how_many_free 0x09 (first ∷ rest) free,
      length_calls f.gt f.people r.formats,
    )
    (by-test (has_gt f.gt r))
  where
    by-test : (a : Bool) → suc (suc (suc (suc (suc (suc (suc (pick a (1 + f.people) 0))))))) + 0 + 0 ≡ pick a (8 + f.people) 7
    by-test true = omega arith
    by-test false = refl

-- the law of line feeds: one, which is the last byte
pub line_feed : (f : Facts) (strings contigs : Names) (s : List ℕ) (t : Site) (g : Gt) (l : List ℕ) → Bytes s → reading f s ≡ accepted_as t g
    → printed f strings contigs s ≡ line l → TextsWithout 0x0A (names_of strings) (names_of contigs) (shown_of t s)
    → (how_many 0x0A l ≡ 1) × (get_or l (length l - 1) 0 ≡ 0x0A)
unfolding how_many
line_feed f strings contigs s t g l b h p x =
    let r = shown_of t s in
    let rest = later f.gt f.people (names_of strings) r in
    let first = names_of contigs r.chrom in
    let whole = joined_by 0x09 (first ∷ rest) in
    let free = columns_free 0x0A f (names_of strings) (names_of contigs) r (omega arith) (accepted_rules f s t g b h) x in
    let n : length (whole ++ (0x0A ∷ [])) ≡ length whole + 1 = length-append whole (0x0A ∷ []) in
    let count : how_many 0x0A (whole ++ (0x0A ∷ [])) ≡ 1 =
    rw (
      how_many_append 0x0A whole (0x0A ∷ []),
      how_many_joined 0x0A 0x09 first rest,
      how_many_other 0x0A 0x09 (length rest) (λ e. omega arith),
      how_many_free 0x0A (first ∷ rest) free,
    ) in
    let last : get_or (whole ++ (0x0A ∷ [])) (length (whole ++ (0x0A ∷ [])) - 1) 0 ≡ 0x0A = get_or_at whole 0x0A [] 0 _ (omega arith) in
    rw ((line_of f strings contigs s t g l h p).text, line_columns f.gt f.people (names_of strings) (names_of contigs) r) (count, last)
