-- A whole record whose bare 00 become 01: as long as it was, and accepted with the same site. Rests on proofs/Steps and Genotypes, and on what an
-- accepted record's reading went through.
use mathlib.Core.Path.{◌≡◌, refl, sym, ◌∙◌, ap}
use mathlib.Core.List.{List, [], ◌∷◌, ◌++◌, append_assoc}
use Prim.Native.Nat.{ℕ, zero, suc, ◌+◌, ◌-◌, ◌≤◌}
use native.Mathlib.Omega.{arith}
use lib.ListN.{length, take, drop, replicate, length-append, length-drop, take-append-drop}
use lib.Seq.{length-take-le, take_at, drop_at, take-nil, drop-nil}
use Rattle.types.specs.declared.Use.{Use}
use Rattle.types.specs.declared.Use.TheVariants.{Id, Allele, Filter, Info, Format}
use Rattle.values.specs.Values.{integer, present}
use Rattle.positions.specs.Positions.{pos_of}
use Rattle.fixed.specs.Layout.{indiv_at, chrom_at, pos_at, rlen_at, qual_at, counts_at, people_at, id_at, field}
use Rattle.facts.specs.declared.Facts.{Facts}
use Rattle.fixed.specs.declared.Site.{Site}
use Rattle.fixed.specs.Fixed.{fixed}
use Rattle.fixed.proofs.Fits.{Fits, fits_fixed, people_given}
use Rattle.genotypes.specs.Formats.{formats, no_gt}
use Rattle.genotypes.specs.declared.Gt.{Gt}
use Rattle.record.specs.Reading.{site_of, genotypes_of, reading, accepted_as}
use Rattle.record.proofs.Accepted.{accepted, accepted_fits}
use Rattle.fetch.specs.Account.{site_kinds}
use Rattle.fetch.specs.declared.Kind.{Kind}
use Rattle.fetch.specs.declared.Kind.TheVariants.{Id as IdKind, Allele as AlleleKind, Filter as FilterKind, Info as InfoKind, Format as FormatKind}
use Rattle.fetch_laws.specs.InTurn.{Accepts}
use Rattle.fetch_laws.proofs.Fronts.{field_take, field_append}
use Rattle.bare_laws.specs.Ones.{Onward, past_value, value_one, past_key, pair_one, one_of, ones_of, with_ones}
use Rattle.bare_laws.proofs.Values.{length_one_for}
use Rattle.bare_laws.proofs.Steps.{site_ones}
use Rattle.values.specs.declared.Value.{Value}
use Rattle.std.specs.Prelude.{Err, Ok}
use Rattle.values.specs.declared.Integer.{Integer}
use Rattle.values.specs.Answers.{Answer}
use Rattle.bare_laws.proofs.Genotypes.{Genotyped, genotypes_ones}

-- what becomes of a block is as long as it was
abbrev pub Even : Onward → Type 0
Even rest = (at : ℕ) (l : List ℕ) → length (rest at l) ≡ length l

length_parts : (k : ℕ) (l : List ℕ) → length (take k l) + length (drop k l) ≡ length l
length_parts k l = sym (length-append (take k l) (drop k l)) ∙ ap length (take-append-drop k l)

even_value : (vectors : ℕ) (role : Use) (rest : Onward) → Even rest → Even (value_one vectors role rest)
unfolding value_one
even_value vectors role rest e at l = by_value (present vectors role at l)
  where
    by_value : (v : Answer Value) → length (past_value rest at l v) ≡ length l
    by_value (Err r) = refl
    by_value (Ok v) =
        rw (length-append, length_one_for (take (v.stop - at) l), e v.stop (drop (v.stop - at) l)) (length_parts (v.stop - at) l)

even_pair : (vectors : ℕ) (role : Use) (rest : Onward) → Even rest → Even (pair_one vectors role rest)
unfolding pair_one
even_pair vectors role rest e at l = by_key (integer at l)
  where
    by_key : (i : Answer Integer) → length (past_key (value_one vectors role rest) at l i) ≡ length l
    by_key (Err r) = refl
    by_key (Ok i) =
        rw (length-append, even_value vectors role rest e i.next (drop (i.next - at) l)) (length_parts (i.next - at) l)

even_one : (kind : Kind) (people : ℕ) (rest : Onward) → Even rest → Even (one_of kind people rest)
even_one IdKind people = even_value 1 Id
even_one AlleleKind people = even_value 1 Allele
even_one FilterKind people = even_value 1 Filter
even_one InfoKind people = even_pair 1 Info
even_one FormatKind people = even_pair people Format

pub even_ones : (people : ℕ) (kinds : List Kind) → Even (ones_of people kinds)
unfolding ones_of
even_ones people [] = λ at l. refl
even_ones people (kind ∷ kinds) = even_one kind people (ones_of people kinds) (even_ones people kinds)

-- the parts of a list, put together again
pub part_rest : (s : List ℕ) (a b : ℕ) → a ≤ b → drop a (take b s) ++ drop b s ≡ drop a s
part_rest s zero b h = take-append-drop b s
part_rest [] (suc a) b h = rw (take-nil {A = ℕ} b, drop-nil {A = ℕ} b)
part_rest (x ∷ s) (suc a) zero h = absurd (omega arith)
part_rest (x ∷ s) (suc a) (suc b) h = part_rest s a b (omega arith)

-- a record whose front fits its site, cut into its parts
record Parts (t : Site) (s : List ℕ) : Type 0 where
  front : length (take id_at s) ≡ id_at
  site : length (ones_of t.people (site_kinds t.alleles t.infos) id_at (drop id_at (take t.border s))) ≡ t.border - id_at
  genotypes : length (ones_of t.people (replicate t.formats FormatKind) t.border (drop t.border (take t.length s))) ≡ t.length - t.border

parts : (f : Facts) (s : List ℕ) (t : Site) → Fits f s t → Parts t s
parts f s t x =
    let a = x.site in
    let b = x.there in
    let c = x.border in
    let d = x.whole in
    record {
      front = length-take-le id_at s (omega arith);
      site = even_ones t.people (site_kinds t.alleles t.infos) id_at (drop id_at (take t.border s))
          ∙ rw (length-drop, length-take-le t.border s (omega arith));
      genotypes = even_ones t.people (replicate t.formats FormatKind) t.border (drop t.border (take t.length s))
          ∙ rw (length-drop, length-take-le t.length s b);
    }

-- and where the parts lie in the record that it becomes
pub record Lies (t : Site) (s : List ℕ) : Type 0 where
  pub length_same : length (with_ones t s) ≡ length s
  pub site : drop id_at (take t.border (with_ones t s)) ≡ ones_of t.people (site_kinds t.alleles t.infos) id_at (drop id_at (take t.border s))
  pub genotypes : drop t.border (take t.length (with_ones t s))
      ≡ ones_of t.people (replicate t.formats FormatKind) t.border (drop t.border (take t.length s))

pub lies : (f : Facts) (s : List ℕ) (t : Site) → Fits f s t → Lies t s
unfolding with_ones
lies f s t x =
    let a = x.site in
    let b = x.there in
    let c = x.border in
    let d = x.whole in
    let p = parts f s t x in
    let u = take id_at s in
    let v = ones_of t.people (site_kinds t.alleles t.infos) id_at (drop id_at (take t.border s)) in
    let w = ones_of t.people (replicate t.formats FormatKind) t.border (drop t.border (take t.length s)) in
    let z = drop t.length s in
    let uv : length (u ++ v) ≡ t.border = rw (length-append, p.front, p.site) (omega arith) in
    let uvw : length (u ++ v ++ w) ≡ t.length = rw (length-append, uv, p.genotypes) (omega arith) in
    let two : u ++ (v ++ (w ++ z)) ≡ (u ++ v) ++ (w ++ z) = sym (append_assoc u v (w ++ z)) in
    let three : u ++ (v ++ (w ++ z)) ≡ (u ++ v ++ w) ++ z = two ∙ sym (append_assoc (u ++ v) w z) in
    record {
      length_same = rw (three, length-append, uvw, length-drop) (omega arith);
      site = rw (two, take_at (u ++ v) (w ++ z) t.border uv) (drop_at u v id_at p.front);
      genotypes = rw (three, take_at (u ++ v ++ w) z t.length uvw) (drop_at (u ++ v) w t.border uv);
    }

-- its fixed fields are the record's
field_ones : (f : Facts) (s : List ℕ) (t : Site) (p : ℕ) → Fits f s t → p + 4 ≤ id_at → field p (with_ones t s) ≡ field p s
unfolding with_ones
field_ones f s t p x h =
    let front = (parts f s t x).front in
    field_append p (take id_at s) _ (omega arith) ∙ field_take p id_at s h

fits_ones : (f : Facts) (s : List ℕ) (t : Site) → Fits f s t → Fits f (with_ones t s) t
fits_ones f s t x =
    let same : (p : ℕ) → p + 4 ≤ id_at → field p (with_ones t s) ≡ field p s = λ p h. field_ones f s t p x h in
    let counts = same counts_at (omega arith) in
    let people = same people_at (omega arith) in
    record {
      border = rw (same 0 (omega arith)) x.border;
      whole = rw (same 0 (omega arith), same indiv_at (omega arith)) x.whole;
      there = rw (lies f s t x).length_same x.there;
      most = x.most;
      site = x.site;
      chrom = same chrom_at (omega arith) ∙ x.chrom;
      pos = ap pos_of (same pos_at (omega arith)) ∙ x.pos;
      rlen = same rlen_at (omega arith) ∙ x.rlen;
      qual = same qual_at (omega arith) ∙ x.qual;
      alleles = rw counts x.alleles;
      infos = rw counts x.infos;
      formats = rw people x.formats;
      people = rw people x.people;
      chrom_right = x.chrom_right;
      pos_right = rw (same pos_at (omega arith)) x.pos_right;
      rlen_right = x.rlen_right;
      qual_right = x.qual_right;
      counts_right = x.counts_right;
      people_right = x.people_right;
    }

-- a front, a site block and a genotype block that are sound are a record
whole : (f : Facts) (t : Site) (g : Gt) (s : List ℕ) (e : ℕ) → fixed f s ≡ Ok t → site_of f t s ≡ Ok e → genotypes_of f t s ≡ Ok g
    → reading f s ≡ accepted_as t g
unfolding reading
whole f t g s e a b c = rw (a, b, c)

site_of_ones : (f : Facts) (s : List ℕ) (t : Site) (e : ℕ) → Fits f s t → site_of f t s ≡ Ok e → site_of f t (with_ones t s) ≡ Ok e
unfolding site_of
site_of_ones f s t e x h =
    rw (lies f s t x).site (site_ones f.strings t.people t.alleles t.infos id_at (drop id_at (take t.border s)) e h)

genotypes_of_ones : (f : Facts) (s : List ℕ) (t : Site) (g : Gt) → genotypes_of f t s ≡ Ok g
    → Genotyped f.strings f.people f.gt t.alleles t.formats [] no_gt t.border (drop t.border (take t.length s))
unfolding genotypes_of
genotypes_of_ones f s t g h =
    genotypes_ones f.strings f.people f.gt t.alleles t.formats t.border no_gt (drop t.border (take t.length s)) h

genotypes_there : (f : Facts) (s : List ℕ) (t : Site) (g : Gt) → Fits f s t
    → formats f.strings f.people f.gt t.alleles t.formats [] no_gt t.border
    (ones_of f.people (replicate t.formats FormatKind) t.border (drop t.border (take t.length s)))
    ≡ Ok g
    → genotypes_of f t (with_ones t s) ≡ Ok g
unfolding genotypes_of
genotypes_there f s t g x h =
    rw ((lies f s t x).genotypes, (people_given f.people t.formats t.people x.people_right).0) h

-- the law: an accepted record is accepted with 01 in place of each bare 00, and its site is the same
pub reads_ones : (f : Facts) (s : List ℕ) (t : Site) (g : Gt) → reading f s ≡ accepted_as t g → Accepts f (with_ones t s) t
reads_ones f s t g h =
    let r = accepted f s t g h in
    let x = accepted_fits f s t g h in
    let n = genotypes_of_ones f s t g r.genotypes in
    record {
      gt = n.found;
      read = whole f t n.found (with_ones t s) r.end (fits_fixed f (with_ones t s) t (fits_ones f s t x)) (site_of_ones f s t r.end x r.block)
          (genotypes_there f s t n.found x n.read);
    }
