-- What is claimed of a bare 00, proved: each law cites the file of `bare` that did the work. Rests on specs/Bare.
use mathlib.Core.Path.{◌≡◌, refl, ◌∙◌, ap}
use mathlib.Core.List.{List}
use mathlib.Core.Bool.{false}
use Prim.Native.Nat.{ℕ, zero, suc, ◌<◌, ◌≤◌}
use native.Mathlib.Omega.{arith}
use lib.Dec.{eqb}
use lib.ListN.{length}
use borrow.Author.Tests.{le-ltb}
use Rattle.types.specs.Rows.{row_of}
use Rattle.types.specs.declared.Use.TheVariants.{Id, Allele, Filter, Info, Format, Gt as GtUse}
use Rattle.facts.specs.declared.Facts.{Facts}
use Rattle.fixed.specs.declared.Site.{Site}
use Rattle.genotypes.specs.declared.Gt.{Gt}
use Rattle.record.specs.Reading.{reading, accepted_as}
use Rattle.record.proofs.Accepted.{accepted_fits}
use Rattle.fetch.specs.Fetch.{found}
use Rattle.fetch.specs.declared.Kind.{Kind}
use Rattle.contents.specs.Contents.{shown_of}
use Rattle.tally.specs.Tally.{nobody, calls_of, tallied}
use Rattle.build_laws.specs.Builds.{Tight, Builds}
use Rattle.build_laws.proofs.Builds.{tight_reads, tight_again}
use Rattle.bare_laws.specs.Ones.{with_ones}
use Rattle.bare_laws.proofs.Stand.{described_bare, refused_bare, refused_length, refused_key, refused_true_length}
use Rattle.bare_laws.proofs.Found.{found_empty, pair_empty, gt_empty}
use Rattle.bare_laws.proofs.Kept.{with_ones_kept}
use Rattle.bare_laws.proofs.Account.{TypeOther, found_left}
use Rattle.bare_laws.proofs.Account.{shown_of_ones}
use Rattle.bare_laws.proofs.Records.{lies, reads_ones}
use Rattle.bare_laws.proofs.Tight.{tight_ones}
use Rattle.std.specs.Prelude.{Err, Ok}
use Rattle.fetch.specs.Fields.{found_field}
use Rattle.fetch.specs.declared.Found.{Found}
use Rattle.values.specs.Answers.{Answer}
use Rattle.laws.specs.Bare.{Bare}
use Rattle.fetch.proofs.Held.{same_field}

nobody_called : (f : Facts) (s : List ℕ) (t : Site) (g : Gt) → reading f s ≡ accepted_as t g → g.code ≡ 0 → t.alleles ≤ 64
    → tallied f s ≡ record { answer = Ok t; calls = nobody t.people }
unfolding tallied calls_of
nobody_called f s t g h e few = rw (h, le-ltb 64 t.alleles few, gt_empty f s t g h e)

as_long : (f : Facts) (s : List ℕ) (t : Site) (g : Gt) → reading f s ≡ accepted_as t g → length (with_ones t s) ≡ length s
as_long f s t g h = (lies f s t (accepted_fits f s t g h)).length_same

-- a type that is not 0
other_type : (r : Answer Found) (key code n place stop : ℕ) → TypeOther r → r ≡ found_field key code n place stop → 0 < code
other_type (Err x) key code n place stop h e = let z : ◌≡◌ {A = ℕ} 0 1 = cc in absurd (omega arith)
other_type (Ok x) key code n place stop h e =
    above code (rw (same_field e).1 at h)
  where
    above : (c : ℕ) → eqb c 0 ≡ false → 0 < c
    above zero h = let z : ◌≡◌ {A = ℕ} 0 1 = cc in absurd (omega arith)
    above (suc c) h = omega arith

none_left : (f : Facts) (s : List ℕ) (t : Site) (g : Gt) → reading f s ≡ accepted_as t g
    → (kind : Kind) (number key code n place stop : ℕ) → found f kind number (with_ones t s) ≡ found_field key code n place stop → 0 < code
none_left f s t g h kind number key code n place stop e =
    other_type (found f kind number (with_ones t s)) key code n place stop (found_left f kind number s t g h) e

tight_none : (f : Facts) (s : List ℕ) → Tight f s
    → (kind : Kind) (number key code n place stop : ℕ) → found f kind number s ≡ found_field key code n place stop → 0 < code
tight_none f s x kind number key code n place stop e =
    let r = tight_reads f s x in
    none_left f s r.site r.gt r.read kind number key code n place stop
    (ap (found f kind number) (tight_ones f s r.site r.gt x r.read) ∙ e)

again : (f : Facts) (s buf : List ℕ) (t : Site) (g : Gt) → reading f s ≡ accepted_as t g → Tight f (with_ones t s) → length s ≤ length buf
    → Builds f (shown_of t s) buf (with_ones t s)
again f s buf t g h x room =
    let r = reads_ones f s t g h in
    rw (shown_of_ones f s t g h) at (tight_again f (with_ones t s) buf t r.gt x r.read (rw (as_long f s t g h) room))

pub bare : Bare
unfolding row_of
bare =
    record {
      filter = λ at rest. described_bare Filter at rest refl;
      info = λ at rest. described_bare Info at rest refl;
      format = λ at rest. described_bare Format at rest refl;
      gt = λ at rest. described_bare GtUse at rest refl;
      id = λ at rest. refused_bare Id at rest refl;
      allele = λ at rest. refused_bare Allele at rest refl;
      lengths = refused_length;
      key = refused_key;
      true_length_lem = refused_true_length;
      fetches = found_empty;
      walks = pair_empty;
      without = nobody_called;
      bytes = λ f s t g h. with_ones_kept f s t (accepted_fits f s t g h);
      none_left = none_left;
      accepted = reads_ones;
      as_long = as_long;
      shows = shown_of_ones;
      again = again;
      tight_none = tight_none;
      tight = tight_ones;
    }
