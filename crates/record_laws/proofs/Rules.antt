-- What an accepted record shows keeps 01's rules: each number that is 0 is unfolded into the rule that it stands for. Rests on specs/Rules, on
-- proofs/Vectors and on keeps_laws.
use mathlib.Core.Path.{◌≡◌, refl, sym}
use mathlib.Core.Logic.{◌≢◌, ◌⊎◌, inl, inr}
use mathlib.Core.List.{List, [], ◌∷◌, ◌++◌, map}
use mathlib.Core.Bool.{Bool, true, false}
use Prim.Native.Nat.{ℕ, zero, suc, ◌+◌, ◌*◌, ◌<◌, ◌≤◌}
use native.Mathlib.Omega.{arith}
use lib.Dec.{ltb, leb, eqb}
use lib.ListN.{length, get_or}
use borrow.Author.Tests.{ltb-false, leb-true, leb-false, eqb-false, eq-eqb, le-leb, le-ltb}
use Rattle.words.specs.Lists.{among}
use Rattle.words.specs.Pick.{pick}
use Rattle.words.specs.Words.{outside, Bytes}
use Rattle.words.proofs.Pick.{pick_zero}
use Rattle.vectors.specs.Sound.{most_of}
use Rattle.vectors.specs.Vectors.{unsound}
use Rattle.fixed.specs.Layout.{pos_wrong, rlen_wrong, qual_wrong}
use Rattle.facts.specs.declared.Facts.{Facts}
use Rattle.fixed.specs.declared.Site.{Site}
use Rattle.site.specs.Alleles.{allele_bytes}
use Rattle.site.specs.Filters.{filters}
use Rattle.genotypes.specs.Formats.{role_of}
use Rattle.genotypes.specs.declared.Gt.{Gt}
use Rattle.record.specs.Reading.{reading, accepted_as}
use Rattle.fetch_laws.proofs.Once.{among_more}
use Rattle.shown.specs.Shown.{Shown, Kind, integers, floats, text, Pair, Field, is_integers}
use Rattle.contents.specs.Contents.{shown_of}
use Rattle.build_front.specs.Front.{fields_number}
use Rattle.build_given.specs.Given.{number_of, filters_number, allele_number}
use Rattle.build_rules.specs.Rules.{key_number}
use Rattle.build_rules.specs.Values.{any, given_as, given_number}
use Rattle.build_laws.specs.Records.{All, KeepsAllele, KeepsInfo, KeepsField, KeepsFields, Keeps}
use Rattle.keeps_laws.proofs.Records.{accepted_keeps}
use Rattle.record_laws.specs.Rules.{Between, Below, NoneTwice, GtElement, AlleleRules, InfoRules, FormatRules, Rules}
use Rattle.values.specs.Answers.{Answer}
use Rattle.record_laws.proofs.Vectors.{all_each, given_vectors, given_vector, given_gt}

-- an offset
outside_below : (size x : ℕ) → outside size x ≡ false → Below size x
unfolding outside
outside_below size x h = by-test (leb 0x80000000 x) refl h
  where
    by-test : (b : Bool) → leb 0x80000000 x ≡ b → pick b true (leb size x) ≡ false → Below size x
    by-test true e k = let z : ◌≡◌ {A = ℕ} 0 1 = cc in absurd (omega arith)
    by-test false e k = (leb-false 0x80000000 x e, leb-false size x k)

key_below : (strings key : ℕ) → key_number strings key ≡ 0 → Below strings key
unfolding key_number
key_below strings key h = outside_below strings key (pick_zero (outside strings key) 8 0 (omega arith) h).0

-- the fixed fields
pos_right_lem : (x : ℕ) → x < 4294967296 → pos_wrong x ≡ false → (x ≤ 2147483646) ⊎ (x ≡ 0xFFFFFFFF)
unfolding pos_wrong
pos_right_lem x b h = by-test (leb x 2147483646) refl h
  where
    by-test : (c : Bool) → leb x 2147483646 ≡ c → pick c false (ltb x 0xFFFFFFFF) ≡ false → (x ≤ 2147483646) ⊎ (x ≡ 0xFFFFFFFF)
    by-test true e k = inl (leb-true x 2147483646 e)
    by-test false e k = let q = ltb-false x 0xFFFFFFFF k in inr (omega arith)

qual_right_lem : (x : ℕ) → qual_wrong x ≡ false → Between 0x7F800002 0x7F800007 x → ⊥
unfolding qual_wrong
qual_right_lem x h k =
    let e = rw (le-ltb x 0x7F800002 k.0, le-leb x 0x7F800007 k.1) at h in
    let z : ◌≡◌ {A = ℕ} 0 1 = cc in
    omega arith

record FixedRules (f : Facts) (chrom pos rlen qual : ℕ) : Type 0 where
  chrom_right_lem : outside f.contigs chrom ≡ false
  pos_wrong_lem : pos_wrong pos ≡ false
  rlen_wrong_lem : rlen_wrong rlen ≡ false
  qual_wrong_lem : qual_wrong qual ≡ false
  people_most : f.people ≤ 16777215

fields_right : (f : Facts) (chrom pos rlen qual : ℕ) → fields_number f chrom pos rlen qual ≡ 0 → FixedRules f chrom pos rlen qual
unfolding fields_number
fields_right f chrom pos rlen qual h =
    let a = pick_zero (outside f.contigs chrom) 5 _ (omega arith) h in
    let b = pick_zero (pos_wrong pos) 5 _ (omega arith) a.1 in
    let c = pick_zero (rlen_wrong rlen) 5 _ (omega arith) b.1 in
    let d = pick_zero (qual_wrong qual) 5 _ (omega arith) c.1 in
    let e = pick_zero (ltb 16777215 f.people) 5 0 (omega arith) d.1 in
    record { chrom_right_lem = a.0; pos_wrong_lem = b.0; rlen_wrong_lem = c.0; qual_wrong_lem = d.0; people_most = ltb-false 16777215 f.people e.0 }

-- an allele's bytes
bytes_between : (at : ℕ) (xs : List ℕ) → number_of (allele_bytes at xs) ≡ 0 → All (Between 0x21 0x7E) xs
unfolding allele_bytes
bytes_between at [] h = tt
bytes_between at (b ∷ bs) h = by_tests (ltb b 0x21) (ltb 0x7E b) refl refl h (bytes_between (at + 1) bs)
  where
    by_tests : (x y : Bool) → ltb b 0x21 ≡ x → ltb 0x7E b ≡ y → number_of (pick x (unsound 9 at) (pick y (unsound 9 at) (allele_bytes (at + 1) bs))) ≡ 0
        → (number_of (allele_bytes (at + 1) bs) ≡ 0 → All (Between 0x21 0x7E) bs) → All (Between 0x21 0x7E) (b ∷ bs)
    by_tests true y p q s on = absurd (omega arith)
    by_tests false true p q s on = absurd (omega arith)
    by_tests false false p q s on = ((ltb-false b 0x21 p, ltb-false 0x7E b q), on s)

allele_rules_lem : (xs : List ℕ) → KeepsAllele xs → AlleleRules xs
unfolding allele_number
allele_rules_lem xs k = record { some = let e = eqb-false (length xs) 0 k.some in omega arith; bytes = bytes_between 0 xs k.rules }

-- a number that is not among some is none of them
among_none : (x y : ℕ) (ys : List ℕ) → among x (y ∷ ys) ≡ false → (y ≢ x) × (among x ys ≡ false)
unfolding among
among_none x y ys h = by-test (eqb y x) refl h
  where
    by-test : (b : Bool) → eqb y x ≡ b → pick b true (among x ys) ≡ false → (y ≢ x) × (among x ys ≡ false)
    by-test true e k = let z : ◌≡◌ {A = ℕ} 0 1 = cc in absurd (omega arith)
    by-test false e k = (eqb-false y x e, k)

-- numbers none of which is among earlier ones, and none of which stands twice
record Fresh (earlier xs : List ℕ) : Type 0 where
  others : (i : ℕ) → i < length xs → among (get_or xs i 0) earlier ≡ false
  once : NoneTwice xs

fresh_none : (earlier : List ℕ) → Fresh earlier []
fresh_none earlier = record { others = λ i q. absurd (omega arith); once = λ i j p q. absurd (omega arith) }

-- one more at the front, after which each of the others is neither it nor an earlier one
fresh_more : (earlier : List ℕ) (x : ℕ) (xs : List ℕ) → among x earlier ≡ false
    → ((i : ℕ) → i < length xs → (x ≢ get_or xs i 0) × (among (get_or xs i 0) earlier ≡ false)) → NoneTwice xs → Fresh earlier (x ∷ xs)
fresh_more earlier x xs h on once = record { others = others; once = twice }
  where
    others : (i : ℕ) → i < suc (length xs) → among (get_or (x ∷ xs) i 0) earlier ≡ false
    others zero q = h
    others (suc i) q = (on i (omega arith)).1

    twice : (i j : ℕ) → i < j → j < suc (length xs) → get_or (x ∷ xs) i 0 ≢ get_or (x ∷ xs) j 0
    twice zero zero p q = absurd (omega arith)
    twice zero (suc j) p q = (on j (omega arith)).0
    twice (suc i) zero p q = absurd (omega arith)
    twice (suc i) (suc j) p q = once i j (omega arith) (omega arith)

-- FILTER
record FilterRules (strings : ℕ) (earlier xs : List ℕ) : Type 0 where
  below : All (Below strings) xs
  fresh : Fresh earlier xs

filters_right : (strings w at : ℕ) (earlier xs : List ℕ) → number_of (filters strings w at earlier xs) ≡ 0 → FilterRules strings earlier xs
unfolding filters
filters_right strings w at earlier [] h = record { below = tt; fresh = fresh_none earlier }
filters_right strings w at earlier (x ∷ xs) h =
    by_tests (outside strings x) (among x earlier) refl refl h (filters_right strings w (at + w) (x ∷ earlier) xs)
  where
    rest : Answer (Unit {0})
    rest = filters strings w (at + w) (x ∷ earlier) xs

    by_tests : (a b : Bool) → outside strings x ≡ a → among x earlier ≡ b → number_of (pick a (unsound 8 at) (pick b (unsound 11 at) rest)) ≡ 0
        → (number_of rest ≡ 0 → FilterRules strings (x ∷ earlier) xs) → FilterRules strings earlier (x ∷ xs)
    by_tests true b p q s on = absurd (omega arith)
    by_tests false true p q s on = absurd (omega arith)
    by_tests false false p q s on =
        let r = on s in
        record {
          below = (outside_below strings x p, r.below);
          fresh = fresh_more earlier x xs q (λ i k. among_none (get_or xs i 0) x earlier (r.fresh.others i k)) r.fresh.once;
        }

-- INFO
info_rules_lem : (strings : ℕ) (p : Pair) → KeepsInfo strings p → InfoRules strings p
info_rules_lem strings p k =
    record {
      key = key_below strings p.key k.inside;
      fit = k.fit;
      vector = given_vector any p.value.kind p.value.elements k.rules;
    }

-- FORMAT: GT's elements, in integers
gt_rules : (alleles people key gt len : ℕ) (k : Kind) (xs : List ℕ) → key ≡ gt → is_integers k ≡ true → length xs ≡ people * len
    → given_number (most_of (role_of key gt) alleles (given_as k)) k len xs ≡ 0 → (k ≡ integers) × All (GtElement alleles) xs
unfolding role_of
gt_rules alleles people key gt len integers xs e w n h = (refl, given_gt alleles len people xs n (rw (eq-eqb key gt e) at h))
gt_rules alleles people key gt len floats xs e w n h = let z : ◌≡◌ {A = ℕ} 0 1 = cc in absurd (omega arith)
gt_rules alleles people key gt len text xs e w n h = let z : ◌≡◌ {A = ℕ} 0 1 = cc in absurd (omega arith)

format_rules_lem : (f : Facts) (alleles : ℕ) (earlier : List ℕ) (x : Field) → KeepsField f alleles earlier x → FormatRules f alleles x
format_rules_lem f alleles earlier x k =
    let e = sym k.count in
    let v = x.value in
    let most = most_of (role_of x.key f.gt) alleles (given_as v.kind) in
    record {
      key = key_below f.strings x.key k.inside;
      fit = k.fit;
      count = e;
      vectors = given_vectors most v.kind x.len f.people v.elements e k.rules;
      gt = λ s. gt_rules alleles f.people x.key f.gt x.len v.kind v.elements s (k.whole (eq-eqb x.key f.gt s)) e k.rules;
    }

among_other : (x key : ℕ) (earlier : List ℕ) → among x (earlier ++ (key ∷ [])) ≡ false → (key ≢ x) × (among x earlier ≡ false)
among_other x key earlier h = by_tests (among x earlier) refl (rw (among_more x key earlier) at h)
  where
    by_tests : (a : Bool) → among x earlier ≡ a → pick a true (eqb key x) ≡ false → (key ≢ x) × (among x earlier ≡ false)
    by_tests true e k = let z : ◌≡◌ {A = ℕ} 0 1 = cc in absurd (omega arith)
    by_tests false e k = (eqb-false key x k, e)

record FormatsRules (f : Facts) (alleles : ℕ) (earlier : List ℕ) (xs : List Field) : Type 0 where
  each : All (FormatRules f alleles) xs
  fresh : Fresh earlier (map (λ x. x.key) xs)

formats_rules : (f : Facts) (alleles : ℕ) (earlier : List ℕ) (xs : List Field) → KeepsFields f alleles earlier xs → FormatsRules f alleles earlier xs
formats_rules f alleles earlier [] k = record { each = tt; fresh = fresh_none earlier }
formats_rules f alleles earlier (x ∷ xs) k =
    let r = formats_rules f alleles (earlier ++ (x.key ∷ [])) xs k.1 in
    let keys = map (λ (y : Field). y.key) xs in
    record {
      each = (format_rules_lem f alleles earlier x k.0, r.each);
      fresh =
          fresh_more earlier x.key keys k.0.once (λ i q. among_other (get_or keys i 0) x.key earlier (r.fresh.others i q)) r.fresh.once;
    }

no_fields : (people formats : ℕ) → (0 < formats → 0 < people) → people ≡ 0 → formats ≡ 0
no_fields people zero h e = refl
no_fields people (suc formats) h e = let q = h (omega arith) in absurd (omega arith)

-- the law: whatever keeps the rules of a builder keeps 01's
pub keeps_rules : (f : Facts) (r : Shown) → Keeps f r → Rules f r
unfolding filters_number
keeps_rules f r k =
    let x = fields_right f r.chrom r.pos r.rlen r.qual k.fields in
    let y = filters_right f.strings 0 0 [] r.filters k.filters in
    let z = formats_rules f (length r.alleles) [] r.formats k.formats in
    record {
      chrom = outside_below f.contigs r.chrom x.chrom_right_lem;
      pos = pos_right_lem r.pos k.bits.1 x.pos_wrong_lem;
      rlen = leb-false 0x80000000 r.rlen x.rlen_wrong_lem;
      qual_fit = k.bits.3;
      qual = qual_right_lem r.qual x.qual_wrong_lem;
      alleles_count = (omega (arith, k.some), k.alleles_most);
      infos_count = k.infos_most;
      formats_count = k.formats_most;
      people_count = x.people_most;
      nobody = no_fields f.people (length r.formats) k.people;
      id_fit = k.id_fit;
      id = given_vector any text r.id k.id;
      alleles = all_each KeepsAllele AlleleRules allele_rules_lem r.alleles k.alleles;
      filters = y.below;
      filters_once = y.fresh.once;
      infos = all_each (KeepsInfo f.strings) (InfoRules f.strings) (info_rules_lem f.strings) r.infos k.infos;
      formats = z.each;
      formats_once = z.fresh.once;
    }

pub accepted_rules : (f : Facts) (s : List ℕ) (t : Site) (g : Gt) → Bytes s → reading f s ≡ accepted_as t g → Rules f (shown_of t s)
accepted_rules f s t g b h = keeps_rules f (shown_of t s) (accepted_keeps f s t g b h)
