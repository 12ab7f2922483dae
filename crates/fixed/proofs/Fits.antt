-- The front of a record as facts about its fields, both ways. Rests on specs/Fixed and the layout.
use mathlib.Core.Path.{◌≡◌, ap, refl}
use mathlib.Core.List.{List}
use mathlib.Core.Bool.{Bool, true, false}
use Prim.Native.Nat.{ℕ, ◌+◌, ◌≤◌}
use native.Mathlib.Omega.{arith}
use lib.Dec.{ltb, eqb}
use lib.ListN.{length}
use borrow.Author.Tests.{ltb-false, le-ltb, eqb-true, eq-eqb}
use Rattle.words.specs.Pick.{pick}
use Rattle.words.proofs.Pick.{pick_zero}
use Rattle.words.specs.Words.{outside}
use Rattle.positions.specs.Positions.{pos_of}
use Rattle.values.specs.declared.Refusal.{Refusal}
use Rattle.fixed.specs.Layout.{indiv_at, chrom_at, pos_at, rlen_at, counts_at, people_at, qual_at, id_at, alleles_in, infos_in, formats_in, people_in, most_bytes, field, pos_wrong, rlen_wrong, counts_wrong, people_wrong, qual_wrong}
use Rattle.fixed.specs.Fixed.{no_site, blocks, wrong_at, site_at, fields, fixed, lent}
use Rattle.facts.specs.declared.Facts.{Facts}
use Rattle.std.specs.Prelude.{Err, Ok}
use Rattle.fixed.specs.declared.Blocks.{Blocks}
use Rattle.values.specs.Answers.{Answer}
use Rattle.values.proofs.Held.{held}
use Rattle.fixed.specs.declared.Site.{Site}

-- a list begins with a record's front whose site is t: where it lies, what its fields say, and that each keeps its rule
pub record Fits (f : Facts) (s : List ℕ) (t : Site) : Type 0 where
  pub border : 8 + field 0 s ≡ t.border
  pub whole : 8 + field 0 s + field indiv_at s ≡ t.length
  pub there : t.length ≤ length s
  pub most : t.length ≤ most_bytes
  pub site : id_at ≤ t.border
  pub chrom : field chrom_at s ≡ t.chrom
  pub pos : pos_of (field pos_at s) ≡ t.pos
  pub rlen : field rlen_at s ≡ t.rlen
  pub qual : field qual_at s ≡ t.qual
  pub alleles : alleles_in (field counts_at s) ≡ t.alleles
  pub infos : infos_in (field counts_at s) ≡ t.infos
  pub formats : formats_in (field people_at s) ≡ t.formats
  pub people : people_in (field people_at s) ≡ t.people
  pub chrom_right : outside f.contigs t.chrom ≡ false
  pub pos_right : pos_wrong (field pos_at s) ≡ false
  pub rlen_right : rlen_wrong t.rlen ≡ false
  pub qual_right : qual_wrong t.qual ≡ false
  pub counts_right : counts_wrong t.alleles ≡ false
  pub people_right : people_wrong f.people t.formats t.people ≡ false

-- a test that is passed
lent_on : (c : Bool) (r : Refusal) (x : Answer Blocks) {b w : ℕ} → pick c (Err r) x ≡ lent b w → (c ≡ false) × (x ≡ lent b w)
lent_on true r x h = let z : ◌≡◌ {A = ℕ} 0 1 = cc in absurd (omega arith)
lent_on false r x h = (refl, h)

same_lent : (a b c d : ℕ) → lent a b ≡ lent c d → (a ≡ c) × (b ≡ d)
same_lent a b c d h = let e = held h in (ap (λ (x : Blocks). x.border) e, ap (λ (x : Blocks). x.length) e)

-- two blocks that are lent: where the border stands and the record ends
record Lends (s : List ℕ) (b w : ℕ) : Type 0 where
  border : 8 + field 0 s ≡ b
  whole : 8 + field 0 s + field indiv_at s ≡ w
  there : w ≤ length s
  most : w ≤ most_bytes
  site : id_at ≤ b

lends : (s : List ℕ) (b w : ℕ) → blocks s ≡ lent b w → Lends s b w
unfolding blocks
lends s b w h =
    let border = 8 + field 0 s in
    let whole = border + field indiv_at s in
    let p = lent_on (ltb (length s) 8) _ _ h in
    let q = lent_on (ltb most_bytes whole) _ _ p.1 in
    let r = lent_on (ltb (length s) whole) _ _ q.1 in
    let u = lent_on (ltb border id_at) _ _ r.1 in
    let e = same_lent border whole b w u.1 in
    let x = ltb-false most_bytes whole q.0 in
    let y = ltb-false (length s) whole r.0 in
    let z = ltb-false border id_at u.0 in
    record { border = e.0; whole = e.1; there = rw e.1 at y; most = rw e.1 at x; site = rw e.0 at z }

blocks_lends : (s : List ℕ) (b w : ℕ) → Lends s b w → blocks s ≡ lent b w
unfolding blocks
blocks_lends s b w l =
    let a = l.border in
    let e = l.whole in
    let d = l.there in
    let m = l.most in
    let i = l.site in
    let y : b + field indiv_at s ≡ w = omega arith in
    rw (a, y, le-ltb (length s) 8 (omega arith), le-ltb most_bytes w m, le-ltb (length s) w d, le-ltb b id_at i)

-- no field's place is told where each keeps its rule
record Right (f : Facts) (s : List ℕ) : Type 0 where
  chrom : outside f.contigs (field chrom_at s) ≡ false
  pos : pos_wrong (field pos_at s) ≡ false
  rlen : rlen_wrong (field rlen_at s) ≡ false
  qual : qual_wrong (field qual_at s) ≡ false
  counts : counts_wrong (alleles_in (field counts_at s)) ≡ false
  people : people_wrong f.people (formats_in (field people_at s)) (people_in (field people_at s)) ≡ false

none_wrong : (f : Facts) (s : List ℕ) → wrong_at f s ≡ 0 → Right f s
unfolding wrong_at
none_wrong f s h =
    let e1 = pick_zero (outside f.contigs (field chrom_at s)) chrom_at _ (omega arith) h in
    let e2 = pick_zero (pos_wrong (field pos_at s)) pos_at _ (omega arith) e1.1 in
    let e3 = pick_zero (rlen_wrong (field rlen_at s)) rlen_at _ (omega arith) e2.1 in
    let e4 = pick_zero (qual_wrong (field qual_at s)) qual_at _ (omega arith) e3.1 in
    let e5 = pick_zero (counts_wrong (alleles_in (field counts_at s))) counts_at _ (omega arith) e4.1 in
    let e6 = pick_zero (people_wrong f.people (formats_in (field people_at s)) (people_in (field people_at s))) people_at 0 (omega arith) e5.1 in
    record { chrom = e1.0; pos = e2.0; rlen = e3.0; qual = e4.0; counts = e5.0; people = e6.0 }

wrong_none : (f : Facts) (s : List ℕ) → Right f s → wrong_at f s ≡ 0
unfolding wrong_at
wrong_none f s r = rw (r.chrom, r.pos, r.rlen, r.qual, r.counts, r.people)

front_on : (at : ℕ) (x : Site) {t : Site} → pick (eqb at 0) (Ok x) (no_site 5 at) ≡ Ok t → (at ≡ 0) × (x ≡ t)
front_on at x {t} h = by-test (eqb at 0) refl h
  where
    by-test : (c : Bool) → eqb at 0 ≡ c → pick c (Ok x) (no_site 5 at) ≡ Ok t → (at ≡ 0) × (x ≡ t)
    by-test true e k = (eqb-true at 0 e, cc)
    by-test false e k = let z : ◌≡◌ {A = ℕ} 0 1 = cc in absurd (omega arith)

-- what the site of a front says is what its fields say
pub fixed_fits : (f : Facts) (s : List ℕ) (t : Site) → fixed f s ≡ Ok t → Fits f s t
unfolding fixed site_at
fixed_fits f s t h = by_blocks (blocks s) refl h
  where
    by_blocks : (x : Answer Blocks) → blocks s ≡ x → fields f s x ≡ Ok t → Fits f s t
    by_blocks (Err r) p e = let z : ◌≡◌ {A = ℕ} 0 1 = cc in absurd (omega arith)
    by_blocks (Ok b') p e =
        let l = lends s b'.border b'.length p in
        let k = front_on (wrong_at f s) (site_at b'.border b'.length s) e in
        let r = none_wrong f s k.0 in
        let fits : Fits f s (site_at b'.border b'.length s) = record {
          border = l.border;
          whole = l.whole;
          there = l.there;
          most = l.most;
          site = l.site;
          chrom = refl;
          pos = refl;
          rlen = refl;
          qual = refl;
          alleles = refl;
          infos = refl;
          formats = refl;
          people = refl;
          chrom_right = r.chrom;
          pos_right = r.pos;
          rlen_right = r.rlen;
          qual_right = r.qual;
          counts_right = r.counts;
          people_right = r.people;
        } in
        rw k.1 at fits

pub fits_blocks : (f : Facts) (s : List ℕ) (t : Site) → Fits f s t → blocks s ≡ lent t.border t.length
fits_blocks f s t x =
    blocks_lends s t.border t.length
    (record { border = x.border; whole = x.whole; there = x.there; most = x.most; site = x.site })

fits_right : (f : Facts) (s : List ℕ) (t : Site) → Fits f s t → Right f s
fits_right f s t x =
    record {
      chrom = rw x.chrom x.chrom_right;
      pos = x.pos_right;
      rlen = rw x.rlen x.rlen_right;
      qual = rw x.qual x.qual_right;
      counts = rw x.alleles x.counts_right;
      people = rw (x.formats, x.people) x.people_right;
    }

pub fits_fixed : (f : Facts) (s : List ℕ) (t : Site) → Fits f s t → fixed f s ≡ Ok t
unfolding fixed site_at
fits_fixed f s t x =
    rw (
      fits_blocks f s t x,
      wrong_none f s (fits_right f s t x),
      x.chrom,
      x.pos,
      x.rlen,
      x.qual,
      x.alleles,
      x.infos,
      x.formats,
      x.people,
    )

-- the people are as many as are given, and of nobody there are no FORMAT fields
pub people_given : (given formats people : ℕ) → people_wrong given formats people ≡ false → (people ≡ given) × (people ≡ 0 → formats ≡ 0)
unfolding people_wrong
people_given given formats people h = by-test (eqb people given) refl h
  where
    by-test : (b : Bool) → eqb people given ≡ b → pick b (pick (eqb people 0) (ltb 0 formats) false) true ≡ false
        → (people ≡ given) × (people ≡ 0 → formats ≡ 0)
    by-test true e k = (eqb-true people given e, λ z. let o = ltb-false 0 formats (rw (eq-eqb people 0 z) at k) in omega arith)
    by-test false e k = let z : ◌≡◌ {A = ℕ} 0 1 = cc in absurd (omega arith)
