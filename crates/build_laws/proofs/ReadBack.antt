-- What is written reads back: a record of what keeps the rules is accepted, whole, and shows what it was written from. Rests on proofs/Front for
-- its fixed fields, on proofs/Blocks for its blocks, and on proofs/Shows.
use mathlib.Core.Path.{◌≡◌, refl}
use mathlib.Core.List.{List, [], ◌++◌}
use Prim.Native.Nat.{ℕ, ◌+◌, ◌≤◌}
use native.Mathlib.Omega.{arith}
use lib.ListN.{length}
use Rattle.fixed.specs.Layout.{id_at, most_bytes}
use Rattle.facts.specs.declared.Facts.{Facts}
use Rattle.fixed.specs.declared.Site.{Site}
use Rattle.genotypes.specs.Formats.{no_gt}
use Rattle.genotypes.specs.declared.Gt.{Gt}
use Rattle.record.specs.Reading.{reading, site_of, genotypes_of, accepted_as}
use Rattle.shown.specs.Shown.{Shown}
use Rattle.fixed.proofs.Fits.{fits_fixed}
use Rattle.contents.specs.Contents.{shown_of}
use Rattle.build_laws.specs.Records.{Keeps}
use Rattle.shown.specs.Records.{site_bytes, genotype_bytes, record_bytes}
use Rattle.build_laws.proofs.Front.{site_for, length_record_bytes, fits_record, site_block, genotype_block}
use Rattle.build_laws.proofs.Blocks.{Genotyped, site_bytes_lem, formats_bytes}
use Rattle.std.specs.Prelude.{Ok}
use Rattle.build_laws.proofs.Shows.{shown_of_record}

-- its two blocks
site_of_record : (f : Facts) (r : Shown) (rest : List ℕ) → Keeps f r → length (site_bytes r) ≤ most_bytes
    → site_of f (site_for f.people r) (record_bytes f.people r ++ rest) ≡ Ok (id_at + length (site_bytes r))
unfolding site_of site_for
site_of_record f r rest k h = rw (site_block f.people r rest) (site_bytes_lem f r id_at k h)

genotypes_of_record : (f : Facts) (r : Shown) (rest : List ℕ)
    → (g : Genotyped f (length r.alleles) [] no_gt (id_at + length (site_bytes r)) r.formats)
    → genotypes_of f (site_for f.people r) (record_bytes f.people r ++ rest) ≡ Ok g.gt
unfolding genotypes_of site_for genotype_bytes
genotypes_of_record f r rest g = rw (genotype_block f.people r rest) g.read

-- a record that was written, at the front of any list: it is accepted, ends where it was written to, is of as many people as are given, and
-- shows what it was written from
pub record Reads (f : Facts) (r : Shown) (rest : List ℕ) : Type 0 where
  pub site : Site
  pub gt : Gt
  pub read : reading f (record_bytes f.people r ++ rest) ≡ accepted_as site gt
  pub whole : site.length ≡ length (record_bytes f.people r)
  pub people : site.people ≡ f.people
  pub shows : shown_of site (record_bytes f.people r ++ rest) ≡ r

pub reads : (f : Facts) (r : Shown) (rest : List ℕ) → Keeps f r → Reads f r rest
unfolding reading site_for genotype_bytes
reads f r rest k =
    let n = length_record_bytes f.people r in
    let m = k.most in
    let t = site_for f.people r in
    let s = record_bytes f.people r ++ rest in
    let g = formats_bytes f (length r.alleles) [] no_gt (id_at + length (site_bytes r)) r.formats k.people k.formats (omega arith) in
    record {
      site = t;
      gt = g.gt;
      read = rw (fits_fixed f s t (fits_record f r rest k), site_of_record f r rest k (omega arith), genotypes_of_record f r rest g);
      whole = refl;
      people = refl;
      shows = shown_of_record f r rest k (omega arith) (omega arith);
    }
