-- REF and ALT: the bytes of the alleles one after the other are the alleles that a record shows. Rests on specs/Line and vcf_site's columns, and on the laws
-- of the account and of what a record shows.
use mathlib.Core.Path.{◌≡◌, refl, sym, ◌∙◌, ap}
use mathlib.Core.List.{List, ◌∷◌, ◌++◌, map}
use Prim.Native.Nat.{ℕ, zero, suc, ◌+◌, ◌-◌, ◌<◌, ◌≤◌}
use native.Mathlib.Numerals.{sub-one}
use native.Mathlib.Omega.{arith}
use lib.ListN.{length, take, drop, replicate, length-take, length-drop}
use borrow.Author.Tests.{eqb-false}
use Rattle.words.proofs.Places.{drop_on}
use Rattle.types.specs.declared.Use.TheVariants.{Allele as AlleleUse}
use Rattle.values.specs.Answers.{ValueInside, Answer, whole}
use Rattle.values.specs.Values.{present}
use Rattle.vectors.specs.Vectors.{elements_of}
use Rattle.facts.specs.declared.Facts.{Facts}
use Rattle.fixed.specs.Layout.{id_at}
use Rattle.fixed.specs.declared.Site.{Site}
use Rattle.genotypes.specs.declared.Gt.{Gt}
use Rattle.record.specs.Reading.{reading, accepted_as}
use Rattle.record.proofs.Accepted.{accepted_fits}
use Rattle.fetch.specs.Fields.{value_field, alone}
use Rattle.fetch.specs.Account.{Entry, entered, fields_of, account, of_kind, numbered}
use Rattle.fetch.specs.Engine.{to_first}
use Rattle.fetch.specs.Fetch.{field_of}
use Rattle.fetch.specs.declared.Kind.TheVariants.{Allele}
use Rattle.fetch.proofs.Account.{then_fields, of_kind_lem, to_first_later}
use Rattle.fetch.proofs.Inside.{StepLater, present_inside}
use Rattle.fetch_laws.proofs.Bytes.{part_of_lem}
use Rattle.contents.specs.Contents.{elements_at, shown_of}
use Rattle.contents.proofs.Counts.{present_allele}
use Rattle.contents.proofs.Elements.{elements_of_text}
use Rattle.contents.proofs.Fetched.{count_there}
use Rattle.vcf_site.specs.Columns.{part_at, allele_parts, alleles_from, alleles_text}
use Rattle.std.specs.Prelude.{Err, Ok}
use Rattle.values.specs.declared.Value.{Value}
use Rattle.vcf_line.specs.Line.{ref_text, alt_text}

-- the elements of an allele that is there are its bytes, and they stand in its block
record Text (s : List ℕ) (end code place stop : ℕ) : Type 0 where
  bytes : elements_of code (stop - place) (drop place s) ≡ take (stop - place) (drop place s)
  part : take (stop - place) (drop place s) ≡ take (stop - place) (drop place (take end s))

allele_text : (s : List ℕ) (at end code len place stop : ℕ) → present 1 AlleleUse at (drop at (take end s)) ≡ whole code len place stop
    → ValueInside at (at + length (drop at (take end s))) (whole code len place stop) → Text s end code place stop
allele_text s at end code len place stop h i =
    let j = rw (length-drop at (take end s), length-take end s) at i.2 in
    let r : stop - place ≤ length (drop place s) = rw (length-drop place s) (omega arith) in
    record {
      bytes = rw (present_allele at (drop at (take end s)) code len place stop h) (elements_of_text (stop - place) (drop place s) r);
      part = sym (part_of_lem s place (stop - place) end (omega arith));
    }

-- so of all alleles from a place of the block on
abbrev SameTexts : List ℕ → ℕ → List Entry → Type 0
SameTexts s end es = map (elements_at s) es ≡ map (part_at (take end s)) es

texts : (people n at end : ℕ) (s : List ℕ) → SameTexts s end (fields_of people (replicate n Allele) at (drop at (take end s)))
unfolding fields_of alone elements_at
texts people zero at end s = refl
texts people (suc n) at end s = by_value (λ q. texts people n q end s) (present 1 AlleleUse at l) refl (present_inside 1 AlleleUse at l)
  where
    l : List ℕ
    l = drop at (take end s)

    rest : ℕ → List ℕ → List Entry
    rest = fields_of people (replicate n Allele)

    by_value : ((q : ℕ) → SameTexts s end (rest q (drop q (take end s)))) → (v : Answer Value) → present 1 AlleleUse at l ≡ v
        → ValueInside at (at + length l) v → SameTexts s end (entered Allele at l rest (value_field 0 v))
    by_value on (Err r) e i = refl
    by_value on (Ok v) e i =
        let x = allele_text s at end v.code v.len v.first v.stop e i in
        rw (x.bytes, x.part, drop_on (take end s) at v.stop (omega arith), on v.stop)

-- the columns of alleles that stand in the account
abbrev Shows : Site → List ℕ → List Entry → Type 0
Shows t s es =
    alleles_from t s (numbered 0 es) ≡ 0x09 ∷ (ref_text (map (elements_at s) es) ++ (0x09 ∷ alt_text (map (elements_at s) es)))

-- from the place of the first on
from_first : (t : Site) (s : List ℕ) (n q : ℕ) → t.alleles ≡ suc n
    → 0 < length (fields_of t.people (replicate (suc n) Allele) q (drop q (take t.border s)))
    → Shows t s (fields_of t.people (replicate (suc n) Allele) q (drop q (take t.border s)))
unfolding fields_of alone elements_at numbered ref_text alt_text allele_parts
from_first t s n q h k = by_value (present 1 AlleleUse q l) refl (present_inside 1 AlleleUse q l) k
  where
    l : List ℕ
    l = drop q (take t.border s)

    rest : ℕ → List ℕ → List Entry
    rest = fields_of t.people (replicate n Allele)

    by_value : (v : Answer Value) → present 1 AlleleUse q l ≡ v → ValueInside q (q + length l) v
        → 0 < length (entered Allele q l rest (value_field 0 v)) → Shows t s (entered Allele q l rest (value_field 0 v))
    by_value (Err r) e i k = absurd (omega arith)
    by_value (Ok v) e i k =
        let x = allele_text s q t.border v.code v.len v.first v.stop e i in
        rw (h, sub-one, x.bytes, drop_on (take t.border s) q v.stop (omega arith), texts t.people n v.stop t.border s)

-- by the steps to the first
from_steps : (t : Site) (s : List ℕ) (n : ℕ) (p : Answer ℕ) → t.alleles ≡ suc n → StepLater id_at p
    → 0 < length (then_fields id_at (drop id_at (take t.border s)) p (fields_of t.people (replicate (suc n) Allele)))
    → Shows t s (then_fields id_at (drop id_at (take t.border s)) p (fields_of t.people (replicate (suc n) Allele)))
from_steps t s n (Err r) h i k = absurd (omega arith)
from_steps t s n (Ok q) h i k = let e = drop_on (take t.border s) id_at q i in rw e (from_first t s n q h (rw e at k))

-- the law
pub alleles_shown : (f : Facts) (s : List ℕ) (t : Site) (g : Gt) → reading f s ≡ accepted_as t g
    → alleles_text t s ≡ 0x09 ∷ (ref_text (shown_of t s).alleles ++ (0x09 ∷ alt_text (shown_of t s).alleles))
unfolding alleles_text field_of shown_of
alleles_shown f s t g h = by_count t.alleles refl
  where
    es : List Entry
    es = of_kind Allele (account t s)

    by_count : (n : ℕ) → t.alleles ≡ n → Shows t s es
    by_count zero e = let o = eqb-false t.alleles 0 (accepted_fits f s t g h).counts_right in absurd (o e)
    by_count (suc n) e =
        let l = drop id_at (take t.border s) in
        let p = to_first Allele t.alleles id_at l in
        let c = count_there f s t g Allele h in
        let k : 0 < length es = omega arith in
        let r = of_kind_lem Allele t s ∙ ap (λ (m : ℕ). then_fields id_at l p (fields_of t.people (replicate m Allele))) e in
        rw r (from_steps t s n p e (to_first_later Allele t.alleles id_at l) (rw r at k))
