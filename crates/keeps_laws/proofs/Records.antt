-- What an accepted record shows keeps the rules of a record, and is written in no more bytes than the record has; so it builds again, to a tight
-- record that is accepted, shows the same and is no longer. Rests on proofs/Steps and Genotypes, on what an accepted record's reading went through, on
-- contents' Blocks and on build_laws' laws.
use mathlib.Core.Path.{◌≡◌, refl, ◌∙◌, sym, ap}
use mathlib.Core.List.{List, [], ◌++◌, append-nil, flatten}
use Prim.Native.Nat.{ℕ, zero, suc, ◌+◌, ◌-◌, ◌<◌, ◌≤◌}
use native.Mathlib.Omega.{arith}
use native.Mathlib.Nat.{sub_self}
use lib.ListN.{length, take, drop, length-append, length-drop}
use lib.Seq.{length-take-le}
use borrow.Author.Tests.{eqb-false, le-ltb}
use Rattle.words.specs.Words.{Bytes}
use Rattle.positions.specs.Positions.{pos_bits}
use Rattle.positions.proofs.Convert.{pos_bits_pos_of}
use Rattle.fixed.specs.Layout.{chrom_at, pos_at, rlen_at, qual_at, counts_at, people_at, id_at, field}
use Rattle.facts.specs.declared.Facts.{Facts}
use Rattle.fixed.specs.declared.Site.{Site}
use Rattle.fixed.proofs.Fits.{Fits, people_given}
use Rattle.build_front.specs.Front.{fields_number}
use Rattle.site.specs.Site.{site}
use Rattle.genotypes.specs.Formats.{no_gt}
use Rattle.genotypes.specs.declared.Gt.{Gt}
use Rattle.record.specs.Reading.{reading, site_of, genotypes_of, accepted_as}
use Rattle.shown.specs.Shown.{integers, text, Pair}
use Rattle.record.proofs.Accepted.{accepted, accepted_fits}
use Rattle.build_given.specs.Given.{filters_number}
use Rattle.shown.specs.Values.{given_bytes}
use Rattle.build_rules.specs.Values.{any, given_number}
use Rattle.fetch.specs.Fields.{alone}
use Rattle.fetch.proofs.Inside.{drop_past}
use Rattle.fetch_laws.proofs.There.{site_walk}
use Rattle.contents.specs.Contents.{shown_of}
use Rattle.contents.proofs.Blocks.{items_of, each_in, blocks_shown, shown_blocks}
use Rattle.build_laws.specs.Records.{All, Fit, KeepsAllele, KeepsInfo, Keeps}
use Rattle.shown.specs.Records.{joined, text_bytes, info_bytes, site_bytes, genotype_bytes, record_bytes}
use Rattle.build_laws.specs.Runs.{shown_as}
use Rattle.build_laws.specs.Builds.{Tight, Builds}
use Rattle.build_laws.proofs.Front.{length_record_bytes}
use Rattle.build_laws.proofs.ReadBack.{reads}
use Rattle.build_laws.proofs.Builds.{keeps_builds, keeps_tight, tight_reads, tight_record}
use Rattle.choose_laws.proofs.Stored.{Bytes_drop, Bytes_take, field_bound}
use Rattle.keeps_laws.specs.Tightened.{Tightened}
use Rattle.keeps_laws.proofs.Values.{elements_from}
use Rattle.keeps_laws.proofs.Steps.{id_keeps, alleles_at, alleles_keep, filter_keeps, pairs_at, pairs_keep}
use Rattle.std.specs.Prelude.{Ok}
use Rattle.keeps_laws.proofs.Genotypes.{fields_at, Fields, fields_keep}
use Rattle.record.proofs.Accepted.{same_reading}

-- the site block of a record that is read to its last byte: what is shown of it, which keeps the rules
record Block (strings : ℕ) (t : Site) (l : List ℕ) : Type 0 where
  id : List ℕ
  alleles : List (List ℕ)
  filters : List ℕ
  infos : List Pair
  shows : (m : List ℕ) → blocks_shown t l m
      ≡ shown_as t.chrom (pos_bits t.pos) t.rlen t.qual id alleles filters infos (fields_at t.people t.formats t.border m)
  id_fit : Fit text id
  id_rules : given_number any text (length id) id ≡ 0
  alleles_count : length alleles ≡ t.alleles
  alleles_keep : All KeepsAllele alleles
  filters_fit : Fit integers filters
  filters_rules : filters_number strings filters ≡ 0
  infos_count : length infos ≡ t.infos
  infos_keep : All (KeepsInfo strings) infos
  long : length (text_bytes id ++ (joined text_bytes alleles ++ (given_bytes integers (length filters) filters ++ joined info_bytes infos))) ≤ length l

block : (f : Facts) (t : Site) (l : List ℕ) (e : ℕ) → site f.strings t.alleles t.infos id_at l ≡ Ok e → Bytes l → Block f.strings t l
unfolding blocks_shown each_in items_of alone flatten
block f t l e h b =
    let w = site_walk f t id_at l h in
    let p = w.alleles in
    let q = w.filters in
    let r = w.infos in
    let l1 = drop (p - id_at) l in
    let l2 = drop (q - id_at) l in
    let l3 = drop (r - id_at) l in
    let x = id_keeps id_at l p w.id_judged b in
    let y = alleles_keep t.alleles p l1 q w.alleles_judged (Bytes_drop (p - id_at) l b) in
    let z = filter_keeps f.strings q l2 r w.filter_judged (Bytes_drop (q - id_at) l b) in
    let u = pairs_keep f.strings t.infos r l3 w.last w.infos_judged (Bytes_drop (r - id_at) l b) in
    let id = elements_from id_at l x.code x.first p in
    let alleles = alleles_at t.alleles p l1 in
    let filters = elements_from q l2 z.code z.first r in
    let infos = pairs_at t.infos r l3 in
    let a = text_bytes id in
    let c = joined text_bytes alleles in
    let d = given_bytes integers (length filters) filters in
    let v = joined info_bytes infos in
    let i = length-append a (c ++ (d ++ v)) in
    let j = length-append c (d ++ v) in
    let k = length-append d v in
    let behind = rw (drop_past l id_at p q w.alleles_later y.later) at y.long in
    let after = rw (drop_past l id_at q r w.filters_later z.later) at z.long in
    record {
      id = id;
      alleles = alleles;
      filters = filters;
      infos = infos;
      shows = λ m. rw (sub_self id_at, x.there, w.to_alleles, w.to_filters, z.there, w.to_infos, append-nil id, append-nil filters);
      id_fit = x.fit;
      id_rules = x.rules;
      alleles_count = y.count;
      alleles_keep = y.keep;
      filters_fit = z.fit;
      filters_rules = z.rules;
      infos_count = u.count;
      infos_keep = u.keep;
      long = omega (arith, x.long, u.long);
    }

-- the fixed fields of a front that fits its site
record Front (f : Facts) (t : Site) : Type 0 where
  bits : (t.chrom < 4294967296) × (pos_bits t.pos < 4294967296) × (t.rlen < 4294967296) × (t.qual < 4294967296)
  fields : fields_number f t.chrom (pos_bits t.pos) t.rlen t.qual ≡ 0
  some : 0 < t.alleles
  alleles_most : t.alleles ≤ 65535
  infos_most : t.infos ≤ 65535
  formats_most : t.formats ≤ 255
  people : t.people ≡ f.people
  nobody : 0 < t.formats → 0 < f.people

front : (f : Facts) (s : List ℕ) (t : Site) → Bytes s → Fits f s t → Front f t
unfolding fields_number
front f s t b x =
    let size : id_at ≤ length s = omega (arith, x.border, x.whole, x.there, x.site) in
    let bound : (p : ℕ) → p + 4 ≤ id_at → field p s < 4294967296 = λ p h. field_bound p s b (omega arith) in
    let pos : pos_bits t.pos ≡ field pos_at s = ap pos_bits (sym x.pos) ∙ pos_bits_pos_of (field pos_at s) (bound pos_at (omega arith)) in
    let counts = bound counts_at (omega arith) in
    let members = bound people_at (omega arith) in
    let g = people_given f.people t.formats t.people x.people_right in
    let people : f.people ≤ 16777215 = omega (arith, g.0, x.people) in
    record {
      bits = (
        rw x.chrom at (bound chrom_at (omega arith)),
        rw pos (bound pos_at (omega arith)),
        rw x.rlen at (bound rlen_at (omega arith)),
        rw x.qual at (bound qual_at (omega arith)),
      );
      fields = rw (x.chrom_right, pos, x.pos_right, x.rlen_right, x.qual_right, le-ltb 16777215 f.people people);
      some = let e = eqb-false t.alleles 0 x.counts_right in omega arith;
      alleles_most = omega (arith, x.alleles);
      infos_most = omega (arith, x.infos);
      formats_most = omega (arith, x.formats);
      people = g.0;
      nobody = λ h. some_people t.formats t.people f.people h g.0 g.1;
    }
  where
    some_people : (formats people given : ℕ) → 0 < formats → people ≡ given → (people ≡ 0 → formats ≡ 0) → 0 < given
    some_people formats zero given h e k = absurd (omega (arith, k refl))
    some_people formats (suc people) given h e k = omega arith

-- what an accepted record shows keeps the rules, and is no longer
record Kept (f : Facts) (s : List ℕ) (t : Site) : Type 0 where
  keeps : Keeps f (shown_of t s)
  long : length (record_bytes f.people (shown_of t s)) ≤ t.length

together : (f : Facts) (s : List ℕ) (t : Site) → Fits f s t → Front f t
    → Fields f t.alleles t.formats [] t.border (drop t.border (take t.length s))
    → Block f.strings t (drop id_at (take t.border s)) → Kept f s t
unfolding site_bytes genotype_bytes
together f s t x o g k =
    let calls = drop t.border (take t.length s) in
    let fields = fields_at f.people t.formats t.border calls in
    let r = shown_as t.chrom (pos_bits t.pos) t.rlen t.qual k.id k.alleles k.filters k.infos fields in
    let inner : length (drop id_at (take t.border s)) ≡ t.border - id_at =
    rw (length-drop, length-take-le t.border s (omega (arith, x.border, x.whole, x.there))) in
    let outer : length calls ≡ t.length - t.border = rw (length-drop, length-take-le t.length s x.there) in
    let n = length_record_bytes f.people r in
    let long : length (record_bytes f.people r) ≤ t.length = omega (arith, k.long, g.long, x.border, x.whole, x.site) in
    let same : shown_of t s ≡ r = rw (shown_blocks t s, k.shows calls, o.people) in
    record {
      keeps = rw same record {
        bits = o.bits;
        fields = o.fields;
        id_fit = k.id_fit;
        id = k.id_rules;
        some = rw k.alleles_count o.some;
        alleles_most = rw k.alleles_count o.alleles_most;
        alleles = k.alleles_keep;
        filters_fit = k.filters_fit;
        filters = k.filters_rules;
        infos_most = rw k.infos_count o.infos_most;
        infos = k.infos_keep;
        formats_most = rw g.count o.formats_most;
        people = λ h. o.nobody (rw g.count at h);
        formats = rw k.alleles_count g.keep;
        most = omega (arith, x.most);
      };
      long = rw same long;
    }

kept : (f : Facts) (s : List ℕ) (t : Site) (g : Gt) → Bytes s → reading f s ≡ accepted_as t g → Kept f s t
unfolding site_of genotypes_of
kept f s t g b h =
    let r = accepted f s t g h in
    let x = accepted_fits f s t g h in
    let inside = Bytes_drop id_at (take t.border s) (Bytes_take t.border s b) in
    let calls = Bytes_drop t.border (take t.length s) (Bytes_take t.length s b) in
    together f s t x (front f s t b x) (fields_keep f t.alleles t.formats [] no_gt t.border _ r.genotypes calls)
    (block f t _ r.end r.block inside)

-- the laws: what an accepted record shows keeps the rules
pub accepted_keeps : (f : Facts) (s : List ℕ) (t : Site) (g : Gt) → Bytes s → reading f s ≡ accepted_as t g → Keeps f (shown_of t s)
accepted_keeps f s t g b h = (kept f s t g b h).keeps

-- and is written in no more bytes than the record has
pub no_longer : (f : Facts) (s : List ℕ) (t : Site) (g : Gt) → Bytes s → reading f s ≡ accepted_as t g
    → length (record_bytes f.people (shown_of t s)) ≤ t.length
no_longer f s t g b h = (kept f s t g b h).long

-- so it builds again, over any buffer that has room for the record
pub accepted_builds : (f : Facts) (s buf : List ℕ) (t : Site) (g : Gt) → Bytes s → reading f s ≡ accepted_as t g → t.length ≤ length buf
    → Builds f (shown_of t s) buf (record_bytes f.people (shown_of t s))
accepted_builds f s buf t g b h room =
    let n = no_longer f s t g b h in
    keeps_builds f (shown_of t s) buf (accepted_keeps f s t g b h) (omega arith)

-- to a tight record, which is accepted to its last byte under the same facts, and shows the same
pub tightened : (f : Facts) (s : List ℕ) (t : Site) (g : Gt) → Bytes s → reading f s ≡ accepted_as t g → Tight f (record_bytes f.people (shown_of t s))
tightened f s t g b h = keeps_tight f (shown_of t s) (accepted_keeps f s t g b h)

pub tightened_reads : (f : Facts) (s : List ℕ) (t : Site) (g : Gt) → Bytes s → reading f s ≡ accepted_as t g → Tightened f (shown_of t s)
tightened_reads f s t g b h =
    let r = shown_of t s in
    let x = reads f r [] (accepted_keeps f s t g b h) in
    let e = append-nil (record_bytes f.people r) in
    record { site = x.site; gt = x.gt; read = rw e at x.read; whole = x.whole; people = x.people; shows = rw e at x.shows }

-- a tight record is that already
pub tight_same : (f : Facts) (s : List ℕ) (t : Site) (g : Gt) → Tight f s → reading f s ≡ accepted_as t g → record_bytes f.people (shown_of t s) ≡ s
tight_same f s t g x h =
    let r = tight_reads f s x in
    let a = sym h ∙ r.read in
    let e = (same_reading a).0 in
    ap (λ (u : Site). record_bytes f.people (shown_of u s)) e ∙ ap (record_bytes f.people) r.shows ∙ sym (tight_record f s x)

-- and no accepted record of bytes that shows the same is shorter
pub shortest : (f : Facts) (s s' : List ℕ) (t t' : Site) (g g' : Gt) → Bytes s → reading f s ≡ accepted_as t g → Tight f s' → reading f s' ≡ accepted_as t' g'
    → shown_of t s ≡ shown_of t' s' → length s' ≤ t.length
shortest f s s' t t' g g' b h x h' same =
    let n = no_longer f s t g b h in
    let e = ap length (ap (record_bytes f.people) same ∙ tight_same f s' t' g' x h') in
    omega arith
