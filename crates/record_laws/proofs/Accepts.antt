-- Nothing else than 01's rules is asked: what keeps them, and is not too long as it is written, keeps a builder's, and is accepted as it is written.
-- Rests on specs/Rules, on proofs/Kept and on build_laws.
use mathlib.Core.Path.{◌≡◌, refl, sym}
use mathlib.Core.Logic.{◌⊎◌, inl, inr}
use mathlib.Core.List.{List, [], ◌∷◌, ◌++◌, append-nil, map}
use mathlib.Core.Bool.{Bool, true, false}
use Prim.Native.Nat.{ℕ, zero, suc, ◌+◌, ◌*◌, ◌<◌, ◌≤◌}
use native.Mathlib.Omega.{arith}
use native.Mathlib.Nat.{zero-mul}
use lib.Dec.{ltb, leb, eqb}
use lib.ListN.{length, get_or}
use lib.Seq.{take-length}
use borrow.Author.Tests.{ltb-false, leb-true, eqb-true, ne_eqb, le-leb, lt-leb, le-ltb}
use Rattle.words.specs.Lists.{among}
use Rattle.words.specs.Pick.{pick}
use Rattle.words.specs.Words.{outside}
use Rattle.vectors.specs.Sound.{most_of, code_most}
use Rattle.fixed.specs.Layout.{pos_wrong, qual_wrong, most_bytes}
use Rattle.facts.specs.declared.Facts.{Facts}
use Rattle.site.specs.Alleles.{allele_bytes}
use Rattle.site.specs.Filters.{filters}
use Rattle.genotypes.specs.Formats.{role_of}
use Rattle.fetch_laws.proofs.Once.{among_more}
use Rattle.types.specs.declared.Use.TheVariants.{Format as FormatUse, Gt as GtUse}
use Rattle.shown.specs.Shown.{Shown, Kind, integers, floats, text, Pair, Field}
use Rattle.shown.specs.Records.{record_bytes}
use Rattle.build_front.specs.Front.{fields_number}
use Rattle.build_given.specs.Given.{number_of, filters_number, allele_number}
use Rattle.build_rules.specs.Rules.{key_number}
use Rattle.build_rules.specs.Values.{any, given_as, given_number}
use Rattle.build_laws.specs.Records.{All, Fit, most_element, KeepsAllele, KeepsInfo, KeepsField, KeepsFields, Keeps}
use Rattle.build_laws.proofs.ReadBack.{reads}
use Rattle.keeps_laws.specs.Tightened.{Tightened}
use Rattle.record_laws.specs.Rules.{Between, Below, NoneTwice, Reserved, Vector, GtElement, AlleleRules, InfoRules, FormatRules, Rules, vector_of}
use Rattle.record_laws.proofs.Vectors.{Passes, all_each, all_people}
use Rattle.record_laws.proofs.Kept.{passes_unless, gt_passes, vectors_given_lem}

-- the fixed fields
below_outside : (size x : ℕ) → Below size x → outside size x ≡ false
unfolding outside
below_outside size x h = rw (lt-leb 0x80000000 x h.0, lt-leb size x h.1)

pos_wrong_lem : (x : ℕ) → (x ≤ 2147483646) ⊎ (x ≡ 0xFFFFFFFF) → (x < 4294967296) × (pos_wrong x ≡ false)
unfolding pos_wrong
pos_wrong_lem x (inl l) = (omega arith, rw (le-leb x 2147483646 l))
pos_wrong_lem x (inr e) = (omega arith, rw e)

qual_wrong_lem : (x : ℕ) → (Between 0x7F800002 0x7F800007 x → ⊥) → qual_wrong x ≡ false
unfolding qual_wrong
qual_wrong_lem x h = by_tests (ltb x 0x7F800002) (leb x 0x7F800007) refl refl
  where
    by_tests : (a b : Bool) → ltb x 0x7F800002 ≡ a → leb x 0x7F800007 ≡ b → pick a false b ≡ false
    by_tests true b p q = refl
    by_tests false true p q = absurd (h (ltb-false x 0x7F800002 p, leb-true x 0x7F800007 q))
    by_tests false false p q = refl

-- alleles
between_bytes : (at : ℕ) (xs : List ℕ) → All (Between 0x21 0x7E) xs → number_of (allele_bytes at xs) ≡ 0
unfolding allele_bytes
between_bytes at [] h = refl
between_bytes at (b ∷ bs) h = rw (le-ltb b 0x21 h.0.0, le-ltb 0x7E b h.0.1) (between_bytes (at + 1) bs h.1)

keeps_allele : (xs : List ℕ) → AlleleRules xs → KeepsAllele xs
unfolding allele_number
keeps_allele xs r =
    record {
      fit = all_each (Between 0x21 0x7E) (λ x. x < 256) (λ x h. omega arith) xs r.bytes;
      some = ne_eqb (length xs) 0 (λ e. omega (arith, r.some));
      rules = between_bytes 0 xs r.bytes;
    }

-- FILTER
filters_none : (strings w at : ℕ) (earlier xs : List ℕ) → All (Below strings) xs → ((i : ℕ) → i < length xs → among (get_or xs i 0) earlier ≡ false)
    → NoneTwice xs → number_of (filters strings w at earlier xs) ≡ 0
unfolding filters among
filters_none strings w at earlier [] b o t = refl
filters_none strings w at earlier (x ∷ xs) b o t =
    rw (below_outside strings x b.0, o 0 (omega arith))
    (filters_none strings w (at + w) (x ∷ earlier) xs b.1
    (λ i q. rw (ne_eqb x (get_or xs i 0) (t 0 (suc i) (omega arith) (omega arith)), o (suc i) (omega arith)))
    (λ i j p q. t (suc i) (suc j) (omega arith) (omega arith)))

-- elements of a kind that are not reserved are not refused
fit_most : (k : Kind) (x : ℕ) → x < most_element k → x ≤ any
fit_most integers x h = omega arith
fit_most floats x h = omega arith
fit_most text x h = omega arith

all_pass : (k : Kind) (xs : List ℕ) → Fit k xs → All (λ x. Reserved k x → ⊥) xs → All (Passes any (given_as k)) xs
all_pass k [] f r = tt
all_pass k (x ∷ xs) f r = (passes_unless k any x r.0 (fit_most k x f.0), all_pass k xs f.1 r.1)

one_given : (k : Kind) (xs : List ℕ) → Fit k xs → Vector k xs → given_number any k (length xs) xs ≡ 0
one_given k xs f v = vectors_given_lem any k (length xs) 1 xs (omega arith) (all_pass k xs f v.reserved) first
  where
    first : (i : ℕ) → i < 1 → Vector k (vector_of (length xs) i xs)
    first zero q = rw (zero-mul (length xs), take-length xs) v
    first (suc i) q = absurd (omega arith)

key_number_lem : (strings key : ℕ) → Below strings key → key_number strings key ≡ 0
unfolding key_number
key_number_lem strings key h = rw (below_outside strings key h)

keeps_info : (strings : ℕ) (p : Pair) → InfoRules strings p → KeepsInfo strings p
keeps_info strings p r =
    record {
      fit = r.fit;
      key = omega (arith, r.key.0);
      inside = key_number_lem strings p.key r.key;
      rules = one_given p.value.kind p.value.elements r.fit r.vector;
    }

-- FORMAT: GT's elements by their rule, others by theirs
format_number : (alleles people key gt len : ℕ) (k : Kind) (xs : List ℕ) → length xs ≡ people * len → Fit k xs
    → ((i : ℕ) → i < people → Vector k (vector_of len i xs)) → (key ≡ gt → (k ≡ integers) × All (GtElement alleles) xs)
    → given_number (most_of (role_of key gt) alleles (given_as k)) k len xs ≡ 0
unfolding role_of
format_number alleles people key gt len k xs e f v h = by-test (eqb key gt) refl
  where
    gt-number : (k : Kind) → ((i : ℕ) → i < people → Vector k (vector_of len i xs)) → k ≡ integers → All (GtElement alleles) xs
        → given_number (code_most alleles (given_as k)) k len xs ≡ 0
    gt-number integers v s g =
        let most = code_most alleles 3 in
        vectors_given_lem most integers len people xs e (all_each (GtElement alleles) (Passes most 3) (gt_passes alleles) xs g) v
    gt-number floats v s g = let z : ◌≡◌ {A = ℕ} 0 1 = cc in absurd (omega arith)
    gt-number text v s g = let z : ◌≡◌ {A = ℕ} 0 1 = cc in absurd (omega arith)

    by-test : (b : Bool) → eqb key gt ≡ b → given_number (most_of (pick b GtUse FormatUse) alleles (given_as k)) k len xs ≡ 0
    by-test true p = let g = h (eqb-true key gt p) in gt-number k v g.0 g.1
    by-test false p =
        vectors_given_lem any k len people xs e (all_pass k xs f (all_people (λ x. Reserved k x → ⊥) len people xs e (λ i q. (v i q).reserved))) v

keeps_field : (f : Facts) (alleles : ℕ) (earlier : List ℕ) (x : Field) → among x.key earlier ≡ false → FormatRules f alleles x
    → KeepsField f alleles earlier x
keeps_field f alleles earlier x o r =
    record {
      fit = r.fit;
      key = omega (arith, r.key.0);
      inside = key_number_lem f.strings x.key r.key;
      once = o;
      whole = λ e. rw (r.gt (eqb-true x.key f.gt e)).0;
      count = sym r.count;
      rules =
          format_number alleles f.people x.key f.gt x.len x.value.kind x.value.elements r.count r.fit r.vectors r.gt;
    }

keeps_fields : (f : Facts) (alleles : ℕ) (earlier : List ℕ) (xs : List Field) → All (FormatRules f alleles) xs
    → ((i : ℕ) → i < length (map (λ x. x.key) xs) → among (get_or (map (λ x. x.key) xs) i 0) earlier ≡ false) → NoneTwice (map (λ x. x.key) xs)
    → KeepsFields f alleles earlier xs
keeps_fields f alleles earlier [] r o t = tt
keeps_fields f alleles earlier (x ∷ xs) r o t =
    let keys = map (λ (y : Field). y.key) xs in (
      keeps_field f alleles earlier x (o 0 (omega arith)) r.0,
      keeps_fields f alleles (earlier ++ (x.key ∷ [])) xs r.1
          (λ i q.
          rw (among_more (get_or keys i 0) x.key earlier, o (suc i) (omega arith))
          (ne_eqb x.key (get_or keys i 0) (t 0 (suc i) (omega arith) (omega arith))))
          (λ i j p q. t (suc i) (suc j) (omega arith) (omega arith)),
    )

some_people : (people formats : ℕ) → (people ≡ 0 → formats ≡ 0) → 0 < formats → 0 < people
some_people zero formats h q = let e = h refl in absurd (omega arith)
some_people (suc people) formats h q = omega arith

-- the laws: 01's rules are those of a builder
pub rules_keeps : (f : Facts) (r : Shown) → Rules f r → length (record_bytes f.people r) ≤ most_bytes → Keeps f r
unfolding fields_number filters_number among
rules_keeps f r k m =
    let p = pos_wrong_lem r.pos k.pos in
    record {
      bits = (omega (arith, k.chrom.0), p.0, omega (arith, k.rlen), k.qual_fit);
      fields =
          rw (
            below_outside f.contigs r.chrom k.chrom,
            p.1,
            lt-leb 0x80000000 r.rlen k.rlen,
            qual_wrong_lem r.qual k.qual,
            le-ltb 16777215 f.people k.people_count,
          );
      id_fit = k.id_fit;
      id = one_given text r.id k.id_fit k.id;
      some = omega (arith, k.alleles_count.0);
      alleles_most = k.alleles_count.1;
      alleles = all_each AlleleRules KeepsAllele keeps_allele r.alleles k.alleles;
      filters_fit = all_each (Below f.strings) (λ x. x < 4294967296) (λ x h. omega (arith, h.0)) r.filters k.filters;
      filters = filters_none f.strings 0 0 [] r.filters k.filters (λ i q. refl) k.filters_once;
      infos_most = k.infos_count;
      infos = all_each (InfoRules f.strings) (KeepsInfo f.strings) (keeps_info f.strings) r.infos k.infos;
      formats_most = k.formats_count;
      people = some_people f.people (length r.formats) k.nobody;
      formats = keeps_fields f (length r.alleles) [] r.formats k.formats (λ i q. refl) k.formats_once;
      most = m;
    }

-- so the record that is written from it is accepted to its last byte, and shows just that
pub rules_reads : (f : Facts) (r : Shown) → Rules f r → length (record_bytes f.people r) ≤ most_bytes → Tightened f r
rules_reads f r k m =
    let x = reads f r [] (rules_keeps f r k m) in
    let e = append-nil (record_bytes f.people r) in
    record { site = x.site; gt = x.gt; read = rw e at x.read; whole = x.whole; people = x.people; shows = rw e at x.shows }
