-- The two blocks of a record as they are written, read to their last byte. Rests on proofs/Values and on the definitions of site and genotypes.
use mathlib.Core.Path.{◌≡◌, refl, ◌∙◌, ap, sym}
use mathlib.Core.List.{List, [], ◌∷◌, ◌++◌, append_assoc, append-nil}
use mathlib.Core.Bool.{Bool, true, false}
use Prim.Native.Nat.{ℕ, suc, ◌+◌, ◌-◌, ◌<◌, ◌≤◌}
use native.Mathlib.Omega.{arith}
use native.Mathlib.Nat.{le-mul_of_pos_right, mul_comm}
use lib.Dec.{eqb}
use lib.ListN.{length, drop, length-append}
use Rattle.words.specs.Pick.{pick}
use Rattle.types.specs.Rows.{row_of, allowed}
use Rattle.types.specs.declared.Use.TheVariants.{Format, Gt as GtUse}
use Rattle.fixed.specs.Layout.{most_bytes}
use Rattle.facts.specs.declared.Facts.{Facts}
use Rattle.site.specs.Alleles.{allele}
use Rattle.site.specs.Site.{info, site}
use Rattle.site.specs.Steps.{times}
use Rattle.genotypes.specs.Formats.{format_field, so_many, formats, role_of, gt_now, gt_at}
use Rattle.genotypes.specs.declared.Gt.{Gt}
use Rattle.fetch.proofs.Inside.{drop_past}
use Rattle.encode.specs.Encode.{integer_bytes, descriptor_bytes}
use Rattle.shown.specs.Shown.{Shown, Kind, integers, floats, text, Field, is_integers}
use Rattle.shown.specs.Values.{written_as, given_bytes, pair_bytes}
use Rattle.build_rules.specs.Values.{given_as}
use Rattle.build_laws.specs.Records.{All, KeepsAllele, KeepsInfo, KeepsField, KeepsFields, Keeps}
use Rattle.shown.specs.Records.{joined, text_bytes, info_bytes, format_bytes, site_bytes}
use Rattle.std.specs.Prelude.{Ok}
use Rattle.values.specs.Answers.{Answer}
use Rattle.build_laws.proofs.Values.{length_given, drop_front, sound_given, id_given_lem, allele_given_lem, filter_given_lem, keyed_bytes, info_given_lem}

-- a step past each of a list is so many steps past all
times_joined : {A : Type 0} (step : ℕ → List ℕ → Answer ℕ) (f : A → List ℕ) (P : A → Type 0)
    → ((at : ℕ) (x : A) (m : List ℕ) → P x → length (f x) ≤ most_bytes → step at (f x ++ m) ≡ Ok (at + length (f x)))
    → (at : ℕ) (xs : List A) (m : List ℕ) → All P xs → length (joined f xs) ≤ most_bytes
    → times step (length xs) at (joined f xs ++ m) ≡ Ok (at + length (joined f xs))
unfolding times joined
times_joined step f P on at [] m h k = ap Ok (omega arith)
times_joined step f P on at (x ∷ xs) m h k =
    let b = f x in
    let rest = joined f xs in
    let n = length-append b rest in
    let e : at + length b + length rest ≡ at + length (b ++ rest) = omega arith in
    rw (append_assoc b rest m, on at x (rest ++ m) h.0 (omega arith), drop_front at b (rest ++ m))
    (times_joined step f P on (at + length b) xs m h.1 (omega arith) ∙ ap Ok e)

-- the site block
pub site_bytes_lem : (f : Facts) (r : Shown) (at : ℕ) → Keeps f r → length (site_bytes r) ≤ most_bytes
    → site f.strings (length r.alleles) (length r.infos) at (site_bytes r) ≡ Ok (at + length (site_bytes r))
unfolding site site_bytes
site_bytes_lem f r at k h =
    let a = text_bytes r.id in
    let b = joined text_bytes r.alleles in
    let c = given_bytes integers (length r.filters) r.filters in
    let d = joined info_bytes r.infos in
    let x = length-append a (b ++ (c ++ d)) in
    let y = length-append b (c ++ d) in
    let z = length-append c d in
    let e : at + length a + length b + length c + length d ≡ at + length (a ++ (b ++ (c ++ d))) = omega arith in
    let q = at + length a + length b + length c in
    let i : times (info f.strings) (length r.infos) q d ≡ Ok (q + length d) =
    rw (append-nil d) at
    (times_joined (info f.strings) info_bytes (KeepsInfo f.strings) (info_given_lem f.strings) q r.infos [] k.infos (omega arith)) in
    let none : drop (q + length d - q) d ≡ [] = rw (append-nil d) at (drop_front q d []) in
    rw (
      id_given_lem at r.id (b ++ (c ++ d)) k.id_fit k.id (omega arith),
      drop_front at a (b ++ (c ++ d)),
      times_joined allele text_bytes KeepsAllele allele_given_lem (at + length a) r.alleles (c ++ d) k.alleles (omega arith),
      drop_front (at + length a) b (c ++ d),
      filter_given_lem f.strings (at + length a + length b) r.filters d k.filters_fit k.filters (omega arith),
      drop_front (at + length a + length b) c d,
      i,
      none,
    ) (ap Ok e)

-- a FORMAT field's value may have its use: GT is integers
pub allowed_format : (k : Kind) → allowed (row_of (given_as k)) Format ≡ true
unfolding row_of
allowed_format integers = refl
allowed_format floats = refl
allowed_format text = refl

allowed_gt : (k : Kind) → is_integers k ≡ true → allowed (row_of (given_as k)) GtUse ≡ true
unfolding row_of
allowed_gt integers h = refl
allowed_gt floats h = cc
allowed_gt text h = cc

allowed_role : (key gt : ℕ) (k : Kind) → (eqb key gt ≡ true → is_integers k ≡ true) → allowed (row_of (given_as k)) (role_of key gt) ≡ true
unfolding role_of
allowed_role key gt k h = by_key (eqb key gt) refl
  where
    by_key : (b : Bool) → eqb key gt ≡ b → allowed (row_of (given_as k)) (pick b GtUse Format) ≡ true
    by_key true e = allowed_gt k (h e)
    by_key false e = allowed_format k

-- the length for each person is no more than the elements of all
pub length_person : (f : Facts) (alleles : ℕ) (earlier : List ℕ) (x : Field) → 0 < f.people → KeepsField f alleles earlier x
    → length (format_bytes x) ≤ most_bytes → x.len < 2147483648
unfolding pair_bytes
length_person f alleles earlier x p k h =
    let xs = x.value.elements in
    let a = le-mul_of_pos_right x.len p in
    let b = mul_comm x.len f.people in
    let c = k.count in
    let d = length_given x.value.kind x.len xs in
    let e = length-append (integer_bytes x.key) (given_bytes x.value.kind x.len xs) in
    omega arith

-- where a FORMAT field's value begins and ends, and where GT stands after it
abbrev value_from : ℕ → Field → ℕ
value_from at x = at + length (integer_bytes x.key)

abbrev value_end : ℕ → Field → ℕ
value_end at x = value_from at x + length (given_bytes x.value.kind x.len x.value.elements)

abbrev gt_after : Facts → Gt → ℕ → Field → Gt
gt_after f known at x =
    let t = written_as x.value.kind x.value.elements in
    gt_now x.key f.gt (gt_at t x.len (value_from at x + length (descriptor_bytes t x.len))) known

-- one FORMAT field, before whatever follows it
formats_field : (f : Facts) (alleles n : ℕ) (earlier : List ℕ) (known : Gt) (at : ℕ) (x : Field) (rest : List ℕ) → 0 < f.people
    → KeepsField f alleles earlier x → length (format_bytes x) ≤ most_bytes
    → formats f.strings f.people f.gt alleles (suc n) earlier known at (format_bytes x ++ rest)
    ≡ formats f.strings f.people f.gt alleles n (earlier ++ (x.key ∷ [])) (gt_after f known at x) (value_end at x) rest
unfolding format_field so_many formats pair_bytes
formats_field f alleles n earlier known at x rest p k h =
    let els = x.value.elements in
    let b = integer_bytes x.key in
    let v = given_bytes x.value.kind x.len els in
    let behind : drop (value_end at x - at) (b ++ (v ++ rest)) ≡ rest =
    sym (drop_past (b ++ (v ++ rest)) at (value_from at x) (value_end at x) (omega arith) (omega arith))
    ∙ ap (drop (value_end at x - value_from at x)) (drop_front at b (v ++ rest)) ∙ drop_front (value_from at x) v rest in
    rw (
      append_assoc b v rest,
      keyed_bytes f.strings at x.key (v ++ rest) k.inside,
      k.once,
      drop_front at b (v ++ rest),
      sound_given f.people alleles (role_of x.key f.gt) (value_from at x) x.value.kind x.len els rest
          (allowed_role x.key f.gt x.value.kind k.whole) (length_person f alleles earlier x p k h) (sym k.count) k.fit k.rules,
      behind,
    )

-- the genotype block, with where GT stands
pub record Genotyped (f : Facts) (alleles : ℕ) (earlier : List ℕ) (known : Gt) (at : ℕ) (xs : List Field) : Type 0 where
  pub gt : Gt
  pub read : formats f.strings f.people f.gt alleles (length xs) earlier known at (joined format_bytes xs) ≡ Ok gt

pub formats_bytes : (f : Facts) (alleles : ℕ) (earlier : List ℕ) (known : Gt) (at : ℕ) (xs : List Field) → (0 < length xs → 0 < f.people)
    → KeepsFields f alleles earlier xs → length (joined format_bytes xs) ≤ most_bytes → Genotyped f alleles earlier known at xs
unfolding joined format_field so_many formats
formats_bytes f alleles earlier known at [] p k h = record { gt = known; read = refl }
formats_bytes f alleles earlier known at (x ∷ xs) p k h =
    let people : 0 < f.people = p (omega arith) in
    let n = length-append (format_bytes x) (joined format_bytes xs) in
    let on = formats_bytes f alleles (earlier ++ (x.key ∷ [])) (gt_after f known at x) (value_end at x) xs (λ e. people) k.1 (omega arith) in
    record {
      gt = on.gt;
      read = formats_field f alleles (length xs) earlier known at x (joined format_bytes xs) people k.0 (omega arith) ∙ on.read;
    }
