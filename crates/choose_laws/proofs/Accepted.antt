-- The chosen record is accepted, for the number of the chosen people, and its GT is that of the record, of those people. Rests on
-- proofs/Sites for the front and the site block, and on proofs/Blocks for the genotype block.
use mathlib.Core.Path.{◌≡◌, refl}
use mathlib.Core.List.{List, [], ◌∷◌}
use mathlib.Core.Bool.{true}
use Prim.Native.Nat.{ℕ, ◌-◌, ◌*◌, ◌≤◌}
use native.Mathlib.Omega.{arith}
use lib.ListN.{length, take, drop, length-take, length-drop}
use lib.Seq.{take-length, length-take-le}
use Rattle.words.specs.Words.{Bytes}
use Rattle.types.specs.Rows.{width_of}
use Rattle.facts.specs.declared.Facts.{Facts}
use Rattle.fixed.specs.declared.Site.{Site}
use Rattle.genotypes.specs.Formats.{formats, no_gt}
use Rattle.genotypes.specs.declared.Gt.{Gt}
use Rattle.record.specs.Reading.{reading, site_of, genotypes_of, accepted_as}
use Rattle.record.proofs.Accepted.{accepted, accepted_fits}
use Rattle.fetch_laws.proofs.Bytes.{part_of_lem}
use Rattle.choice.specs.Choice.{ascending}
use Rattle.choose.specs.Chosen.{chosen_fields, kept_formats, chosen_block, chosen_record}
use Rattle.choice.proofs.Choice.{length_ascending}
use Rattle.choice.proofs.Sizes.{size_inside}
use Rattle.fixed.proofs.Fits.{Fits, fits_fixed, people_given}
use Rattle.choose.proofs.Written.{length_chosen_record, size_block}
use Rattle.choose_laws.specs.Releases.{for_people, released_site}
use Rattle.choose_laws.proofs.Blocks.{SameGt, no_gt_lem, formats_none, formats_chosen_fields}
use Rattle.std.specs.Prelude.{Ok}
use Rattle.choose_laws.proofs.Sites.{drop_chosen_site, take_chosen_record, drop_chosen_record, fits_chosen_record}

-- an accepted record's genotype block, for its own people
own_genotypes : (f : Facts) (s : List ℕ) (t : Site) (g : Gt) → t.people ≡ f.people → genotypes_of f t s ≡ Ok g
    → formats f.strings t.people f.gt t.alleles t.formats [] no_gt t.border (drop t.border (take t.length s)) ≡ Ok g
unfolding genotypes_of
own_genotypes f s t g e h = rw e h

-- the chosen block is no longer than the block
length_chosen_block : (s : List ℕ) (t : Site) (cs : List ℕ) → ascending t.people cs ≡ true → length (chosen_block t cs s) ≤ t.length - t.border
length_chosen_block s t cs c =
    let l = drop t.border (take t.length s) in
    let m = length_ascending 0 t.people cs c in
    let r = size_inside t.people (length cs) (kept_formats cs t.formats) t.border l (omega arith) in
    let e = rw (length-take t.length s) at (length-drop t.border (take t.length s)) in
    rw (size_block t cs s c) (omega arith)

-- GT stands in the record wherever it stands in a front of it
same_whole : (people n : ℕ) (cs s s' : List ℕ) (g g' : Gt) → SameGt people cs (take n s) s' g g' → SameGt people cs s s' g g'
same_whole people n cs s s' g g' x =
    let i = rw (length-take n s) at x.inside in
    record {
      code = x.code;
      len = x.len;
      inside = omega arith;
      inside' = x.inside';
      elements = rw (part_of_lem s g.first (people * g.len * width_of g.code) n (omega arith)) at x.elements;
    }

-- GT of the chosen record: of nobody there is none, else it is the record's, of the chosen people
abbrev pub ReleasedGt : Site → List ℕ → List ℕ → Gt → Gt → Type 0
ReleasedGt t [] s g g' = g' ≡ no_gt
ReleasedGt t (c ∷ cs) s g g' = SameGt t.people (c ∷ cs) s (chosen_record t (c ∷ cs) s) g g'

-- the chosen record's genotype block is read
record Genotyped (f : Facts) (s : List ℕ) (t : Site) (g : Gt) (cs : List ℕ) : Type 0 where
  gt : Gt
  read : genotypes_of (for_people (length cs) f) (released_site cs s t) (chosen_record t cs s) ≡ Ok gt
  same : ReleasedGt t cs s g gt

genotyped : (f : Facts) (s : List ℕ) (t : Site) (g : Gt) (cs : List ℕ) → ascending t.people cs ≡ true → Fits f s t
    → formats f.strings t.people f.gt t.alleles t.formats [] no_gt t.border (drop t.border (take t.length s)) ≡ Ok g
    → t.border ≤ t.length → Genotyped f s t g cs
unfolding genotypes_of chosen_block chosen_fields
genotyped f s t g [] c x h k =
    let i = x.there in
    let r = chosen_record t [] s in
    let e : drop t.border r ≡ [] = drop_chosen_record t [] s (omega arith) in
    record { gt = no_gt; read = rw (take-length r, e) (formats_none f.strings 0 f.gt t.alleles [] no_gt t.border); same = refl }
genotyped f s t g (d ∷ cs) c x h k =
    let i = x.there in
    let ds = d ∷ cs in
    let r = chosen_record t ds s in
    let e = drop_chosen_record t ds s (omega arith) in
    let n = length-take-le t.length s i in
    let m = length_chosen_record t ds s (omega arith) in
    let b = formats_chosen_fields f.strings t.people f.gt t.alleles t.formats [] no_gt no_gt t.border t.border ds (take t.length s) r
    c (omega arith) (omega arith) (no_gt_lem t.people ds (take t.length s) r) e h in
    record { gt = b.known; read = rw (take-length r) b.read; same = same_whole t.people t.length ds s r g b.known b.same }

-- its site block is read as it was
site_released : (f : Facts) (s : List ℕ) (t : Site) (cs : List ℕ) → t.border ≤ length s
    → site_of (for_people (length cs) f) (released_site cs s t) (chosen_record t cs s) ≡ site_of f t s
unfolding site_of
site_released f s t cs h = rw (take_chosen_record t cs s h, drop_chosen_site t cs (length (chosen_block t cs s)) s)

-- the law: of a record whose elements are bytes and that is accepted, the chosen record is accepted, with its site and its GT
pub record Release (f : Facts) (s : List ℕ) (t : Site) (g : Gt) (cs : List ℕ) : Type 0 where
  pub gt : Gt
  pub read : reading (for_people (length cs) f) (chosen_record t cs s) ≡ accepted_as (released_site cs s t) gt
  pub same : ReleasedGt t cs s g gt

pub release : (f : Facts) (s : List ℕ) (t : Site) (g : Gt) (cs : List ℕ) → Bytes s → reading f s ≡ accepted_as t g → ascending t.people cs ≡ true
    → Release f s t g cs
unfolding reading
release f s t g cs bytes h c =
    let a = accepted f s t g h in
    let x = accepted_fits f s t g h in
    let p = people_given f.people t.formats t.people x.people_right in
    let y = own_genotypes f s t g p.0 a.genotypes in
    let n = length_chosen_block s t cs c in
    let m = length_ascending 0 t.people cs c in
    let i = x.border in
    let j = x.whole in
    let k = x.there in
    let z = fits_chosen_record f s t cs bytes x (omega arith) n in
    let b = genotyped f s t g cs c x y (omega arith) in
    record {
      gt = b.gt;
      read = rw (fits_fixed (for_people (length cs) f) (chosen_record t cs s) (released_site cs s t) z, site_released f s t cs (omega arith), a.block, b.read);
      same = b.same;
    }
