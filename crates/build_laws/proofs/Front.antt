-- The front of a record as it is written: each fixed field is read as it was given, and keeps its rule. Rests on build's front and on the facts
-- that a site fits.
use mathlib.Core.Path.{◌≡◌, refl, ap}
use mathlib.Core.List.{List, ◌++◌, append_assoc}
use mathlib.Core.Bool.{false}
use Prim.Native.Nat.{ℕ, zero, suc, ◌+◌, ◌-◌, ◌<◌, ◌≤◌}
use native.Mathlib.Omega.{arith}
use lib.Dec.{ltb}
use lib.ListN.{length, take, drop, length-append}
use lib.Seq.{take_at, drop_at}
use borrow.Author.Tests.{ltb-false, eq-eqb, ne_eqb}
use Rattle.words.proofs.Pick.{pick_zero}
use Rattle.words.specs.Words.{bytes, outside}
use Rattle.words.proofs.Words.{number_bytes}
use Rattle.positions.specs.Positions.{pos_of}
use Rattle.fixed.specs.Layout.{indiv_at, chrom_at, pos_at, rlen_at, counts_at, people_at, qual_at, id_at, counts_of, members_of, field, pos_wrong, rlen_wrong, people_wrong, qual_wrong}
use Rattle.facts.specs.declared.Facts.{Facts}
use Rattle.fixed.specs.declared.Site.{Site}
use Rattle.shown.specs.Shown.{Shown}
use Rattle.build_front.specs.Front.{fields_number}
use Rattle.shown.specs.Front.{front_bytes, fields_filled}
use Rattle.fixed.proofs.Fits.{Fits}
use Rattle.build_laws.specs.Records.{Keeps}
use Rattle.shown.specs.Records.{site_bytes, genotype_bytes, filled_front, record_bytes}

-- the site that a record is written with
unfoldable pub site_for : ℕ → Shown → Site
site_for people r =
    record {
      length = length (record_bytes people r);
      border = id_at + length (site_bytes r);
      chrom = r.chrom;
      pos = pos_of r.pos;
      rlen = r.rlen;
      qual = r.qual;
      alleles = length r.alleles;
      infos = length r.infos;
      formats = length r.formats;
      people = people;
    }

-- the front has 32 bytes, the record those of its blocks more
length_filled_front : (people : ℕ) (r : Shown) → length (filled_front people r) ≡ id_at
unfolding filled_front front_bytes fields_filled bytes
length_filled_front people r = refl

pub length_record_bytes : (people : ℕ) (r : Shown) → length (record_bytes people r) ≡ id_at + length (site_bytes r) + length (genotype_bytes r)
unfolding record_bytes
length_record_bytes people r =
    rw (length-append (filled_front people r), length_filled_front people r, length-append (site_bytes r) (genotype_bytes r)) (omega arith)

-- where the record's genotype block begins and ends
abbrev border_for : Shown → ℕ
border_for r = id_at + length (site_bytes r)

abbrev end_for : Shown → ℕ
end_for r = border_for r + length (genotype_bytes r)

-- its fields, whatever follows them
record Fields (people : ℕ) (r : Shown) (s : List ℕ) : Type 0 where
  site : field 0 s ≡ border_for r - 8
  indiv : field indiv_at s ≡ end_for r - border_for r
  chrom : field chrom_at s ≡ r.chrom
  pos : field pos_at s ≡ r.pos
  rlen : field rlen_at s ≡ r.rlen
  qual : field qual_at s ≡ r.qual
  counts : field counts_at s ≡ counts_of (length r.alleles) (length r.infos)
  members : field people_at s ≡ members_of (length r.formats) people

fields_front : (people : ℕ) (r : Shown) (m : List ℕ) → (r.chrom < 4294967296) × (r.pos < 4294967296) × (r.rlen < 4294967296) × (r.qual < 4294967296)
    → border_for r - 8 < 4294967296 → end_for r - border_for r < 4294967296
    → counts_of (length r.alleles) (length r.infos) < 4294967296 → members_of (length r.formats) people < 4294967296
    → Fields people r (filled_front people r ++ m)
unfolding filled_front front_bytes fields_filled field bytes
fields_front people r m b h i c p =
    let s = filled_front people r ++ m in
    record {
      site = number_bytes 4 (border_for r - 8) (drop 4 s) h;
      indiv = number_bytes 4 (end_for r - border_for r) (drop (indiv_at + 4) s) i;
      chrom = number_bytes 4 r.chrom (drop (chrom_at + 4) s) b.0;
      pos = number_bytes 4 r.pos (drop (pos_at + 4) s) b.1;
      rlen = number_bytes 4 r.rlen (drop (rlen_at + 4) s) b.2;
      qual = number_bytes 4 r.qual (drop (qual_at + 4) s) b.3;
      counts = number_bytes 4 (counts_of (length r.alleles) (length r.infos)) (drop (counts_at + 4) s) c;
      members = number_bytes 4 (members_of (length r.formats) people) (drop (people_at + 4) s) p;
    }

-- the rules of the fixed fields: none gives 5
record Right (f : Facts) (r : Shown) : Type 0 where
  chrom : outside f.contigs r.chrom ≡ false
  pos : pos_wrong r.pos ≡ false
  rlen : rlen_wrong r.rlen ≡ false
  qual : qual_wrong r.qual ≡ false
  people : f.people ≤ 16777215

fields_right : (f : Facts) (r : Shown) → fields_number f r.chrom r.pos r.rlen r.qual ≡ 0 → Right f r
unfolding fields_number
fields_right f r h =
    let a = pick_zero (outside f.contigs r.chrom) 5 _ (omega arith) h in
    let b = pick_zero (pos_wrong r.pos) 5 _ (omega arith) a.1 in
    let c = pick_zero (rlen_wrong r.rlen) 5 _ (omega arith) b.1 in
    let d = pick_zero (qual_wrong r.qual) 5 _ (omega arith) c.1 in
    let e = pick_zero (ltb 16777215 f.people) 5 0 (omega arith) d.1 in
    record { chrom = a.0; pos = b.0; rlen = c.0; qual = d.0; people = ltb-false 16777215 f.people e.0 }

-- there are FORMAT fields for people only
people_right_lem : (people formats : ℕ) → (0 < formats → 0 < people) → people_wrong people formats people ≡ false
unfolding people_wrong
people_right_lem zero zero h = refl
people_right_lem zero (suc formats) h = let e = h (omega arith) in absurd (omega arith)
people_right_lem (suc people) formats h = rw (eq-eqb (suc people) (suc people) refl, ne_eqb (suc people) 0 (λ e. omega arith))

-- the law: what is written begins with the front of its site
pub fits_record : (f : Facts) (r : Shown) (rest : List ℕ) → Keeps f r → Fits f (record_bytes f.people r ++ rest) (site_for f.people r)
unfolding site_for record_bytes
fits_record f r rest k =
    let people = f.people in
    let blocks = site_bytes r ++ genotype_bytes r in
    let s = filled_front people r ++ (blocks ++ rest) in
    let same : filled_front people r ++ blocks ++ rest ≡ s = append_assoc (filled_front people r) blocks rest in
    let there : length (filled_front people r ++ blocks) ≤ length (filled_front people r ++ blocks ++ rest) =
    rw (length-append (filled_front people r ++ blocks) rest) (omega arith) in
    let n = length_record_bytes people r in
    let most = k.most in
    let some = k.some in
    let a = k.alleles_most in
    let i = k.infos_most in
    let o = k.formats_most in
    let right = fields_right f r k.fields in
    let p = right.people in
    let x = fields_front people r (blocks ++ rest) k.bits (omega arith) (omega arith) (omega arith) (omega arith) in
    let site = x.site in
    let indiv = x.indiv in
    let counts = x.counts in
    let members = x.members in
    rw same (record {
      border = omega arith;
      whole = omega arith;
      there = rw same at there;
      most = most;
      site = omega arith;
      chrom = x.chrom;
      pos = ap pos_of x.pos;
      rlen = x.rlen;
      qual = x.qual;
      alleles = rw counts (omega arith);
      infos = rw counts (omega arith);
      formats = rw members (omega arith);
      people = rw members (omega arith);
      chrom_right = right.chrom;
      pos_right = rw x.pos right.pos;
      rlen_right = right.rlen;
      counts_right = ne_eqb (length r.alleles) 0 (λ e. omega arith);
      people_right = people_right_lem people (length r.formats) k.people;
      qual_right = right.qual;
    })

-- the two blocks of a record
pub site_block : (people : ℕ) (r : Shown) (rest : List ℕ) → drop id_at (take (id_at + length (site_bytes r)) (record_bytes people r ++ rest)) ≡ site_bytes r
unfolding record_bytes
site_block people r rest =
    let a = filled_front people r in
    let b = site_bytes r in
    let c = genotype_bytes r in
    let n = length_filled_front people r in
    let m : length (a ++ b) ≡ id_at + length b = rw (length-append a b, n) in
    let e : a ++ (b ++ c) ++ rest ≡ a ++ b ++ (c ++ rest) = rw (← append_assoc a b c, append_assoc (a ++ b) c rest) in
    rw (e, take_at (a ++ b) (c ++ rest) (id_at + length b) m) (drop_at a b id_at n)

pub genotype_block : (people : ℕ) (r : Shown) (rest : List ℕ)
    → drop (id_at + length (site_bytes r)) (take (length (record_bytes people r)) (record_bytes people r ++ rest)) ≡ genotype_bytes r
unfolding record_bytes
genotype_block people r rest =
    let a = filled_front people r in
    let b = site_bytes r in
    let c = genotype_bytes r in
    let m : length (a ++ b) ≡ id_at + length b = rw (length-append a b, length_filled_front people r) in
    rw (take_at (a ++ (b ++ c)) rest (length (a ++ (b ++ c))) refl, ← append_assoc a b c) (drop_at (a ++ b) c (id_at + length b) m)
