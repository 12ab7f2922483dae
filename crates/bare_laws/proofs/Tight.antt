-- A tight record has no bare 00: with 01 in place of each it is the same bytes. Rests on proofs/Values and on build_laws' laws of what is written.
use mathlib.Core.Path.{◌≡◌, refl, sym, ◌∙◌, ap}
use mathlib.Core.List.{List, [], ◌∷◌, ◌++◌, append_assoc, append-nil}
use mathlib.Core.Bool.{Bool, true, false}
use Prim.Native.Nat.{ℕ, ◌+◌, ◌-◌, ◌*◌, ◌%◌, ◌<◌, ◌≤◌}
use native.Mathlib.Omega.{arith}
use lib.Dec.{ltb}
use lib.ListN.{length, take, drop, length-append, take-append-drop, replicate}
use lib.Seq.{take_at}
use Rattle.words.specs.Pick.{pick}
use Rattle.types.specs.Rows.{row_of, allowed}
use Rattle.types.specs.declared.Use.{Use}
use Rattle.types.specs.declared.Use.TheVariants.{Id, Allele, Filter, Info, Format}
use Rattle.fixed.specs.Layout.{id_at, most_bytes}
use Rattle.facts.specs.declared.Facts.{Facts}
use Rattle.fixed.specs.declared.Site.{Site}
use Rattle.fixed.specs.Fixed.{fixed}
use Rattle.fixed.proofs.Fits.{fits_fixed}
use Rattle.genotypes.specs.declared.Gt.{Gt}
use Rattle.record.specs.Reading.{reading, accepted_as}
use Rattle.shown.specs.Shown.{Shown, Kind, integers, text, Pair, Field}
use Rattle.record.proofs.Accepted.{accepted}
use Rattle.encode.specs.Encode.{integer_bytes, descriptor_bytes, value_bytes, elements_bytes}
use Rattle.shown.specs.Values.{written_as, given_bytes, pair_bytes}
use Rattle.build_rules.specs.Values.{given_as}
use Rattle.build_laws.specs.Records.{All, KeepsAllele, KeepsInfo, KeepsFields, Keeps}
use Rattle.shown.specs.Records.{joined, text_bytes, info_bytes, format_bytes, site_bytes, genotype_bytes, record_bytes}
use Rattle.build_laws.specs.Runs.{gives}
use Rattle.build_laws.specs.Builds.{Tight}
use Rattle.build_laws.proofs.Values.{written_type, one_vector, present_given, drop_front, integer_bytes_lem, allowed_info}
use Rattle.build_laws.proofs.Blocks.{allowed_format, length_person}
use Rattle.build_laws.proofs.Front.{site_for, length_record_bytes, fits_record, site_block, genotype_block}
use Rattle.build_laws.proofs.Builds.{wrote_record}
use Rattle.build_laws.proofs.Kept.{turns_keep}
use Rattle.fetch.specs.Account.{site_kinds}
use Rattle.fetch.specs.declared.Kind.TheVariants.{Format as FormatKind}
use Rattle.contents.proofs.Bare.{wide_type}
use Rattle.bare_laws.specs.Ones.{Onward, as_it_is, one_for, value_one, pair_one, ones_of, with_ones}
use Rattle.bare_laws.proofs.Values.{one_for_same}
use Rattle.bare_laws.proofs.Steps.{repeated, site_form, formats_form}
use Rattle.std.specs.Prelude.{Ok}
use Rattle.bare_laws.proofs.Records.{part_rest}
use Rattle.values.specs.Answers.{Answer}

-- no value is written with a descriptor 00
one_for_given : (k : Kind) (n : ℕ) (xs : List ℕ) → one_for (given_bytes k n xs) ≡ given_bytes k n xs
unfolding given_bytes value_bytes descriptor_bytes
one_for_given k n xs = by-test (ltb n 15)
  where
    t : ℕ
    t = written_as k xs

    by-test : (b : Bool) → one_for (pick b ((n * 16 + t % 16) ∷ []) ((0xF0 + t % 16) ∷ integer_bytes n) ++ elements_bytes t xs)
        ≡ pick b ((n * 16 + t % 16) ∷ []) ((0xF0 + t % 16) ∷ integer_bytes n) ++ elements_bytes t xs
    by-test true =
        let w = written_type k xs in
        let p = wide_type t w.1 in
        one_for_same (n * 16 + t % 16) (elements_bytes t xs) (λ e. omega (arith, w.0))
    by-test false = one_for_same (0xF0 + t % 16) (integer_bytes n ++ elements_bytes t xs) (λ e. omega arith)

-- so a value that was given stays, and what follows it becomes what it becomes
value_given : (vectors : ℕ) (role : Use) (rest : Onward) (at : ℕ) (k : Kind) (n : ℕ) (xs m : List ℕ) → allowed (row_of (given_as k)) role ≡ true
    → n < 2147483648 → length xs ≡ vectors * n
    → value_one vectors role rest at (given_bytes k n xs ++ m) ≡ given_bytes k n xs ++ rest (at + length (given_bytes k n xs)) m
unfolding value_one
value_given vectors role rest at k n xs m a h c =
    let b = given_bytes k n xs in
    rw (
      present_given vectors role at k n xs m a h c,
      take_at b m (at + length b - at) (omega arith),
      drop_front at b m,
      one_for_given k n xs,
    )

-- a key and its value
pair_given : (vectors : ℕ) (role : Use) (rest : Onward) (at key : ℕ) (k : Kind) (n : ℕ) (xs m : List ℕ) → allowed (row_of (given_as k)) role ≡ true
    → key < 4294967296 → n < 2147483648 → length xs ≡ vectors * n
    → pair_one vectors role rest at (pair_bytes key k n xs ++ m) ≡ pair_bytes key k n xs ++ rest (at + length (pair_bytes key k n xs)) m
unfolding pair_one pair_bytes row_of
pair_given vectors role rest at key k n xs m a i h c =
    let b = integer_bytes key in
    let v = given_bytes k n xs in
    let e : at + length b + length v ≡ at + length (b ++ v) = rw length-append (omega arith) in
    rw (
      append_assoc b v m,
      integer_bytes_lem at key (v ++ m) i,
      take_at b (v ++ m) (at + length b - at) (omega arith),
      drop_front at b (v ++ m),
      value_given vectors role rest (at + length b) k n xs m a h c,
      e,
      append_assoc b v,
    )

-- so many of them
repeated_joined : {A : Type 0} (step : Onward → Onward) (f : A → List ℕ) (P : A → Type 0)
    → ((rest : Onward) (at : ℕ) (x : A) (m : List ℕ) → P x → length (f x) ≤ most_bytes → step rest at (f x ++ m) ≡ f x ++ rest (at + length (f x)) m)
    → (rest : Onward) (at : ℕ) (xs : List A) (m : List ℕ) → All P xs → length (joined f xs) ≤ most_bytes
    → repeated step (length xs) rest at (joined f xs ++ m) ≡ joined f xs ++ rest (at + length (joined f xs)) m
unfolding repeated joined
repeated_joined step f P on rest at [] m h k = ap (λ (q : ℕ). rest q m) (omega arith)
repeated_joined step f P on rest at (x ∷ xs) m h k =
    let b = f x in
    let more = joined f xs in
    let n = length-append b more in
    let e : at + length b + length more ≡ at + length (b ++ more) = omega arith in
    rw (
      append_assoc b more m,
      on (repeated step (length xs) rest) at x (more ++ m) h.0 (omega arith),
      repeated_joined step f P on rest (at + length b) xs m h.1 (omega arith),
      e,
      append_assoc b more,
    )

-- an allele, an INFO pair, a FORMAT field
text_given : (role : Use) (rest : Onward) (at : ℕ) (xs m : List ℕ) → allowed (row_of 7) role ≡ true → length (text_bytes xs) ≤ most_bytes
    → value_one 1 role rest at (text_bytes xs ++ m) ≡ text_bytes xs ++ rest (at + length (text_bytes xs)) m
text_given role rest at xs m a h = value_given 1 role rest at text (length xs) xs m a (one_vector text xs h) (omega arith)

allele_given_lem : (rest : Onward) (at : ℕ) (xs m : List ℕ) → KeepsAllele xs → length (text_bytes xs) ≤ most_bytes
    → value_one 1 Allele rest at (text_bytes xs ++ m) ≡ text_bytes xs ++ rest (at + length (text_bytes xs)) m
unfolding row_of
allele_given_lem rest at xs m k h = text_given Allele rest at xs m refl h

info_given_lem : (strings : ℕ) (rest : Onward) (at : ℕ) (p : Pair) (m : List ℕ) → KeepsInfo strings p → length (info_bytes p) ≤ most_bytes
    → pair_one 1 Info rest at (info_bytes p ++ m) ≡ info_bytes p ++ rest (at + length (info_bytes p)) m
unfolding pair_bytes
info_given_lem strings rest at p m k h =
    let xs = p.value.elements in
    let e = length-append (integer_bytes p.key) (given_bytes p.value.kind (length xs) xs) in
    pair_given 1 Info rest at p.key p.value.kind (length xs) xs m (allowed_info p.value.kind) k.key
    (one_vector p.value.kind xs (omega arith)) (omega arith)

record FieldFits (people : ℕ) (x : Field) : Type 0 where
  key : x.key < 4294967296
  len : x.len < 2147483648
  count : length x.value.elements ≡ people * x.len

field_given : (people : ℕ) (rest : Onward) (at : ℕ) (x : Field) (m : List ℕ) → FieldFits people x → length (format_bytes x) ≤ most_bytes
    → pair_one people Format rest at (format_bytes x ++ m) ≡ format_bytes x ++ rest (at + length (format_bytes x)) m
field_given people rest at x m k h =
    pair_given people Format rest at x.key x.value.kind x.len x.value.elements m (allowed_format x.value.kind) k.key k.len k.count

all_fit : (f : Facts) (alleles : ℕ) (earlier : List ℕ) (xs : List Field) → (0 < length xs → 0 < f.people) → KeepsFields f alleles earlier xs
    → length (joined format_bytes xs) ≤ most_bytes → All (FieldFits f.people) xs
unfolding joined
all_fit f alleles earlier [] p k h = tt
all_fit f alleles earlier (x ∷ xs) p k h =
    let people : 0 < f.people = p (omega arith) in
    let n = length-append (format_bytes x) (joined format_bytes xs) in (
      record { key = k.0.key; len = length_person f alleles earlier x people k.0 (omega arith); count = sym k.0.count },
      all_fit f alleles (earlier ++ (x.key ∷ [])) xs (λ e. people) k.1 (omega arith),
    )

-- the two blocks of what keeps the rules
site_given : (f : Facts) (r : Shown) (at : ℕ) → Keeps f r → length (site_bytes r) ≤ most_bytes
    → ones_of f.people (site_kinds (length r.alleles) (length r.infos)) at (site_bytes r) ≡ site_bytes r
unfolding site_bytes row_of
site_given f r at k h =
    let a = text_bytes r.id in
    let b = joined text_bytes r.alleles in
    let c = given_bytes integers (length r.filters) r.filters in
    let d = joined info_bytes r.infos in
    let x = length-append a (b ++ (c ++ d)) in
    let y = length-append b (c ++ d) in
    let z = length-append c d in
    let q = at + length a + length b + length c in
    let infos : repeated (pair_one 1 Info) (length r.infos) as_it_is q d ≡ d =
    rw (append-nil d) at
    (repeated_joined (pair_one 1 Info) info_bytes (KeepsInfo f.strings) (info_given_lem f.strings) as_it_is q r.infos [] k.infos (omega arith)) in
    ap (λ (w : Onward). w at (site_bytes r)) (site_form f.people (length r.alleles) (length r.infos))
    ∙ rw (
      text_given Id _ at r.id (b ++ (c ++ d)) refl (omega arith),
      repeated_joined (value_one 1 Allele) text_bytes KeepsAllele allele_given_lem _ (at + length a) r.alleles (c ++ d) k.alleles (omega arith),
      value_given 1 Filter _ (at + length a + length b) integers (length r.filters) r.filters d refl
          (one_vector integers r.filters (omega arith)) (omega arith),
      infos,
    )

genotypes_given : (f : Facts) (r : Shown) (at : ℕ) → Keeps f r → length (genotype_bytes r) ≤ most_bytes
    → ones_of f.people (replicate (length r.formats) FormatKind) at (genotype_bytes r) ≡ genotype_bytes r
unfolding genotype_bytes
genotypes_given f r at k h =
    let d = joined format_bytes r.formats in
    ap (λ (w : Onward). w at d) (formats_form f.people (length r.formats))
    ∙ rw (append-nil d) at
    (repeated_joined (pair_one f.people Format) format_bytes (FieldFits f.people) (field_given f.people) as_it_is at r.formats []
    (all_fit f (length r.alleles) [] r.formats k.people k.formats h) h)

with_ones_same : (t : Site) (s : List ℕ) → id_at ≤ t.border → t.border ≤ t.length
    → ones_of t.people (site_kinds t.alleles t.infos) id_at (drop id_at (take t.border s)) ≡ drop id_at (take t.border s)
    → ones_of t.people (replicate t.formats FormatKind) t.border (drop t.border (take t.length s)) ≡ drop t.border (take t.length s)
    → with_ones t s ≡ s
unfolding with_ones
with_ones_same t s h k a b =
    rw (a, b, part_rest s t.border t.length k, part_rest s id_at t.border h) (take-append-drop id_at s)

-- the bytes of what keeps the rules
written_ones : (f : Facts) (r : Shown) → Keeps f r → with_ones (site_for f.people r) (record_bytes f.people r) ≡ record_bytes f.people r
unfolding site_for
written_ones f r k =
    let s = record_bytes f.people r in
    let n = length_record_bytes f.people r in
    let m = k.most in
    let a : drop id_at (take (id_at + length (site_bytes r)) s) ≡ site_bytes r = rw (append-nil s) at (site_block f.people r []) in
    let b : drop (id_at + length (site_bytes r)) (take (length s) s) ≡ genotype_bytes r = rw (append-nil s) at (genotype_block f.people r []) in
    with_ones_same (site_for f.people r) s (omega arith) (omega arith) (rw a (site_given f r id_at k (omega arith)))
    (rw b (genotypes_given f r (id_at + length (site_bytes r)) k (omega arith)))

-- the law
pub tight_ones : (f : Facts) (s : List ℕ) (t : Site) (g : Gt) → Tight f s → reading f s ≡ accepted_as t g → with_ones t s ≡ s
tight_ones f s t g x h =
    let r = gives x.turns in
    let k = turns_keep f x.turns x.buf x.finished x.fit in
    let b : s ≡ record_bytes f.people r = x.bytes ∙ wrote_record f x.turns x.buf x.finished x.fit in
    let front : fixed f (record_bytes f.people r) ≡ Ok (site_for f.people r) =
    rw (append-nil (record_bytes f.people r)) at (fits_fixed f (record_bytes f.people r ++ []) (site_for f.people r) (fits_record f r [] k)) in
    let same : ◌≡◌ {A = Answer Site} (Ok t) (Ok (site_for f.people r)) = sym (accepted f s t g h).front ∙ ap (fixed f) b ∙ front in
    let e : t ≡ site_for f.people r = cc in
    ap (λ (u : Site). with_ones u s) e ∙ ap (with_ones (site_for f.people r)) b ∙ written_ones f r k ∙ sym b
