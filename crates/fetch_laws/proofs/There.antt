-- Of an accepted record, each field below its kind's count stands where reading judged it. Rests on proofs/Agree, proofs/FormatFields
-- and on what reading went through.
use mathlib.Core.Path.{◌≡◌, refl}
use mathlib.Core.List.{List, [], ◌∷◌}
use Prim.Native.Nat.{ℕ, zero, suc, ◌-◌, ◌<◌, ◌≤◌}
use native.Mathlib.Nat.{sub_self}
use native.Mathlib.Omega.{arith}
use lib.ListN.{drop}
use borrow.Author.Tests.{le-leb, lt-leb}
use Rattle.values.specs.Answers.{refusal, Answer}
use Rattle.fixed.specs.Layout.{id_at}
use Rattle.facts.specs.declared.Facts.{Facts}
use Rattle.fixed.specs.declared.Site.{Site}
use Rattle.fixed.proofs.Fits.{people_given}
use Rattle.genotypes.specs.Formats.{no_gt}
use Rattle.genotypes.specs.declared.Gt.{Gt}
use Rattle.site.specs.Steps.{ended, times}
use Rattle.site.specs.Alleles.{allele}
use Rattle.site.specs.Filters.{filter}
use Rattle.site.specs.Site.{info, site}
use Rattle.record.specs.Reading.{reading, site_of, genotypes_of, accepted_as}
use Rattle.record.proofs.Accepted.{Read, accepted, accepted_fits}
use Rattle.fetch.specs.Fields.{field_at}
use Rattle.fetch.specs.Engine.{field_step, passing, past, to_filter, to_info, to_first, to_field, field_in, block_from, block_of, or_none}
use Rattle.fetch.specs.Account.{count_of}
use Rattle.fetch.specs.Fetch.{found}
use Rattle.fetch.specs.declared.Kind.{Kind}
use Rattle.fetch.specs.declared.Kind.TheVariants.{Id, Allele, Filter, Info, Format}
use Rattle.fetch.proofs.Account.{field_number}
use Rattle.fetch.proofs.Inside.{passing_later, past_later, drop_past}
use Rattle.fetch_laws.specs.InTurn.{judging}
use Rattle.fetch_laws.proofs.Agree.{id_passed, allele_passed, filter_passed, info_passed, went, times_passed}
use Rattle.fetch.specs.declared.Found.{Found}
use Rattle.std.specs.Prelude.{Ok, Err}
use Rattle.fetch_laws.proofs.FormatFields.{format_passed, formats_judged}

-- what reading judged is passed to the same place
pub judged_passed : (f : Facts) (t : Site) (kind : Kind) (at : ℕ) (l : List ℕ) (q : ℕ) → judging f t kind at l ≡ Ok q
    → passing kind f.people at l ≡ Ok q
judged_passed f t Id at l q h = id_passed f.people at l q h
judged_passed f t Allele at l q h = allele_passed f.people at l q h
judged_passed f t Filter at l q h = filter_passed f.strings f.people at l q h
judged_passed f t Info at l q h = info_passed f.strings f.people at l q h
judged_passed f t Format at l q h = format_passed f.strings f.people f.gt t.alleles at l q h

-- of so many fields that were judged, each: where it stands, and where it ends
pub record Nth (step : ℕ → List ℕ → Answer ℕ) (m at : ℕ) (l : List ℕ) : Type 0 where
  pub place : ℕ
  pub stop : ℕ
  pub reached : times step m at l ≡ Ok place
  pub later : at ≤ place
  pub judged : step place (drop (place - at) l) ≡ Ok stop

one_more : (step : ℕ → List ℕ → Answer ℕ) (m at : ℕ) (l : List ℕ) (p x : ℕ) → step at l ≡ Ok p → times step m p (drop (p - at) l) ≡ Ok x
    → times step (suc m) at l ≡ Ok x
unfolding times
one_more step m at l p x h k = rw h k

nth : (step : ℕ → List ℕ → Answer ℕ) → ((at : ℕ) (l : List ℕ) (q : ℕ) → step at l ≡ Ok q → at ≤ q)
    → (m n at : ℕ) (l : List ℕ) {e : ℕ} → times step n at l ≡ Ok e → m < n → Nth step m at l
unfolding times
nth step f m zero at l h q = absurd (omega arith)
nth step f zero (suc n) at l h q =
    let w = went at l (step at l) (times step n) h in
    record { place = at; stop = w.place; reached = refl; later = omega arith; judged = rw (sub_self at) w.here }
nth step f (suc m) (suc n) at l h q =
    let w = went at l (step at l) (times step n) h in
    let k = f at l w.place w.here in
    let r = nth step f m n w.place (drop (w.place - at) l) w.on (omega arith) in
    record {
      place = r.place;
      stop = r.stop;
      reached = one_more step m at l w.place r.place w.here r.reached;
      later = omega arith;
      judged = rw (drop_past l at w.place r.place k r.later) at r.judged;
    }

-- the field of a kind and a number in its block is one that reading judged
pub record Stands (f : Facts) (t : Site) (kind : Kind) (m at : ℕ) (l : List ℕ) : Type 0 where
  pub place : ℕ
  pub stop : ℕ
  pub later : at ≤ place
  pub reached : to_field kind f.people t.alleles m at l ≡ Ok place
  pub field : field_in kind f.people t.alleles m at l ≡ field_at kind f.people place (drop (place - at) l)
  pub judged : judging f t kind place (drop (place - at) l) ≡ Ok stop

pub judged_later : (f : Facts) (t : Site) (kind : Kind) (at : ℕ) (l : List ℕ) (q : ℕ) → judging f t kind at l ≡ Ok q → at ≤ q
judged_later f t kind at l q h =
    rw (judged_passed f t kind at l q h) at (passing_later kind f.people at l)

-- from the first field of a kind on
from_first : (f : Facts) (t : Site) (kind : Kind) (m n at : ℕ) (l : List ℕ) (p : ℕ) {e : ℕ} → to_first kind t.alleles at l ≡ Ok p → at ≤ p
    → times (judging f t kind) n p (drop (p - at) l) ≡ Ok e → m < n → Stands f t kind m at l
unfolding field_in to_field past
from_first f t kind m n at l p i k h q =
    let r = nth (judging f t kind) (judged_later f t kind) m n p (drop (p - at) l) h q in
    let w = times_passed (judging f t kind) (passing kind f.people) (judged_passed f t kind) m p (drop (p - at) l) r.reached in
    record {
      place = r.place;
      stop = r.stop;
      later = omega arith;
      reached = rw i w;
      field = rw (i, w);
      judged = rw (drop_past l at p r.place k r.later) at r.judged;
    }

one_passed : (kind : Kind) (people at : ℕ) (l : List ℕ) (q : ℕ) → passing kind people at l ≡ Ok q → past kind people 1 at l ≡ Ok q
unfolding past times
one_passed kind people at l q h = rw h

-- the site block: where each kind begins, and that its fields were judged
pub record Walk (f : Facts) (t : Site) (at : ℕ) (l : List ℕ) : Type 0 where
  pub alleles : ℕ
  pub filters : ℕ
  pub infos : ℕ
  pub last : ℕ
  pub id_judged : judging f t Id at l ≡ Ok alleles
  pub to_alleles : past Id 1 1 at l ≡ Ok alleles
  pub alleles_later : at ≤ alleles
  pub alleles_judged : times (judging f t Allele) t.alleles alleles (drop (alleles - at) l) ≡ Ok filters
  pub to_filters : to_filter t.alleles at l ≡ Ok filters
  pub filters_later : at ≤ filters
  pub filter_judged : judging f t Filter filters (drop (filters - at) l) ≡ Ok infos
  pub to_infos : to_info t.alleles at l ≡ Ok infos
  pub infos_later : at ≤ infos
  pub infos_judged : times (judging f t Info) t.infos infos (drop (infos - at) l) ≡ Ok last
  pub none_over : drop (last - infos) (drop (infos - at) l) ≡ []

-- a block that is read to its last byte has no byte over
pub ended_none : (at : ℕ) (l : List ℕ) {e : ℕ} → ended at l ≡ Ok e → l ≡ []
ended_none at [] h = refl
ended_none at (b ∷ rest) h = cc

walk_of : (f : Facts) (t : Site) (at : ℕ) (l : List ℕ) (p q r x e : ℕ) → judging f t Id at l ≡ Ok p
    → times (judging f t Allele) t.alleles p (drop (p - at) l) ≡ Ok q → judging f t Filter q (drop (q - p) (drop (p - at) l)) ≡ Ok r
    → times (judging f t Info) t.infos r (drop (r - q) (drop (q - p) (drop (p - at) l))) ≡ Ok x
    → ended x (drop (x - r) (drop (r - q) (drop (q - p) (drop (p - at) l)))) ≡ Ok e → Walk f t at l
unfolding to_filter to_info past
walk_of f t at l p q r x e i1 i2 i3 i4 i5 =
    let id : past Id 1 1 at l ≡ Ok p = one_passed Id 1 at l p (id_passed 1 at l p i1) in
    let alleles : past Allele 1 t.alleles p (drop (p - at) l) ≡ Ok q = times_passed allele (passing Allele 1) (allele_passed 1) t.alleles p (drop (p - at) l) i2 in
    let h1 : at ≤ p = rw id at (past_later Id 1 1 at l) in
    let h2 : p ≤ q = rw alleles at (past_later Allele 1 t.alleles p (drop (p - at) l)) in
    let h3 : at ≤ q = omega arith in
    let e2 = drop_past l at p q h1 h2 in
    let j3 : judging f t Filter q (drop (q - at) l) ≡ Ok r = rw e2 at i3 in
    let h4 : q ≤ r = judged_later f t Filter q (drop (q - at) l) r j3 in
    record {
      alleles = p;
      filters = q;
      infos = r;
      last = x;
      id_judged = i1;
      to_alleles = id;
      alleles_later = h1;
      alleles_judged = i2;
      to_filters = rw id alleles;
      filters_later = h3;
      filter_judged = j3;
      to_infos = rw (id, alleles) (one_passed Filter 1 q (drop (q - at) l) r (filter_passed f.strings 1 q (drop (q - at) l) r j3));
      infos_later = omega arith;
      infos_judged = rw (e2, drop_past l at q r h3 h4) at i4;
      none_over = ended_none x _ (rw (e2, drop_past l at q r h3 h4) at i5);
    }

pub site_walk : (f : Facts) (t : Site) (at : ℕ) (l : List ℕ) {e : ℕ} → site f.strings t.alleles t.infos at l ≡ Ok e → Walk f t at l
unfolding site
site_walk f t at l {e} h =
    let w1 = went at l (judging f t Id at l) _ h in
    let l1 = drop (w1.place - at) l in
    let w2 = went w1.place l1 (times allele t.alleles w1.place l1) _ w1.on in
    let l2 = drop (w2.place - w1.place) l1 in
    let w3 = went w2.place l2 (filter f.strings w2.place l2) _ w2.on in
    let l3 = drop (w3.place - w2.place) l2 in
    let w4 = went w3.place l3 (times (info f.strings) t.infos w3.place l3) _ w3.on in
    walk_of f t at l w1.place w2.place w3.place w4.place e w1.here w2.here w3.here w4.here w4.on

once : (step : ℕ → List ℕ → Answer ℕ) (at : ℕ) (l : List ℕ) {q : ℕ} → step at l ≡ Ok q → times step 1 at l ≡ Ok q
unfolding times
once step at l h = rw h

-- of an accepted record, the field of a kind and a number below its count is one that reading judged
pub stands : (f : Facts) (kind : Kind) (number : ℕ) (t : Site) (g : Gt) (s : List ℕ) → Read f t g s → number < count_of kind t
    → Stands f t kind number (block_from kind t) (block_of kind t s)
unfolding site_of genotypes_of
stands f Id number t g s r q =
    let l = block_of Id t s in
    let w = site_walk f t id_at l r.block in
    from_first f t Id number 1 id_at l id_at refl (omega arith) (once (judging f t Id) id_at l w.id_judged) q
stands f Allele number t g s r q =
    let l = block_of Allele t s in
    let w = site_walk f t id_at l r.block in
    from_first f t Allele number t.alleles id_at l w.alleles w.to_alleles w.alleles_later w.alleles_judged q
stands f Filter number t g s r q =
    let l = block_of Filter t s in
    let w = site_walk f t id_at l r.block in
    from_first f t Filter number 1 id_at l w.filters w.to_filters w.filters_later (once (judging f t Filter) w.filters (drop (w.filters - id_at) l) w.filter_judged) q
stands f Info number t g s r q =
    let l = block_of Info t s in
    let w = site_walk f t id_at l r.block in
    from_first f t Info number t.infos id_at l w.infos w.to_infos w.infos_later w.infos_judged q
stands f Format number t g s r q =
    let l = block_of Format t s in
    let w = formats_judged f.strings f.people f.gt t.alleles t.formats [] no_gt t.border l r.genotypes in
    let e : times (judging f t Format) t.formats t.border (drop (t.border - t.border) l) ≡ Ok w.end = rw (sub_self t.border) w.walked in
    from_first f t Format number t.formats t.border l t.border refl (omega arith) e q

-- what is found is the field of its block, and it stands there whole
passed_whole : (r : Answer Found) {q : ℕ} → field_step r ≡ Ok q → or_none r ≡ r
passed_whole (Err r) h = cc
passed_whole (Ok x) h = refl

pub accepted_people : (f : Facts) (s : List ℕ) (t : Site) (g : Gt) → reading f s ≡ accepted_as t g → t.people ≡ f.people
accepted_people f s t g h = (people_given f.people t.formats t.people (accepted_fits f s t g h).people_right).0

pub found_in_lem : (f : Facts) (kind : Kind) (number : ℕ) (s : List ℕ) (t : Site) (g : Gt) → reading f s ≡ accepted_as t g → number < count_of kind t
    → found f kind number s ≡ field_in kind f.people t.alleles number (block_from kind t) (block_of kind t s)
unfolding found passing
found_in_lem f kind number s t g h q =
    let x = stands f kind number t g s (accepted f s t g h) q in
    let l = drop (x.place - block_from kind t) (block_of kind t s) in
    let passed = judged_passed f t kind x.place l x.stop x.judged in
    rw (h, field_number kind number t s, lt-leb _ _ q, accepted_people f s t g h, x.field) (passed_whole (field_at kind f.people x.place l) passed)

-- a number that is no field's is refused with 16
pub found_none : (f : Facts) (kind : Kind) (number : ℕ) (s : List ℕ) (t : Site) (g : Gt) → reading f s ≡ accepted_as t g → count_of kind t ≤ number
    → found f kind number s ≡ Err (refusal 16 0)
unfolding found
found_none f kind number s t g h q = rw (h, field_number kind number t s, le-leb _ _ q)
