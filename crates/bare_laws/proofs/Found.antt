-- What is found and walked over as type 0 is a bare 00: no elements, just after a byte 00. And where GT is of type 0, nobody has a genotype.
-- Rests on proofs/Values and on fetch_laws' laws of what is found.
use mathlib.Core.Path.{◌≡◌, refl, sym, ◌∙◌}
use mathlib.Core.List.{List, [], ◌∷◌, ◌++◌}
use mathlib.Core.Bool.{Bool, true, false}
use Prim.Native.Nat.{ℕ, zero, suc, ◌+◌, ◌-◌}
use native.Mathlib.Omega.{arith}
use native.Mathlib.Nat.{sub_self}
use lib.Dec.{leb, ltb, eqb}
use lib.ListN.{length, take, drop}
use borrow.Author.Tests.{leb-true, leb-false}
use Rattle.words.specs.Pick.{pick}
use Rattle.words.specs.Words.{number}
use Rattle.words.proofs.Places.{drop_on}
use Rattle.types.specs.declared.Use.{Use}
use Rattle.types.specs.declared.Use.TheVariants.{Id as IdUse, Allele as AlleleUse, Filter as FilterUse, Info as InfoUse, Format as FormatUse}
use Rattle.values.specs.Values.{present}
use Rattle.facts.specs.declared.Facts.{Facts}
use Rattle.fixed.specs.declared.Site.{Site}
use Rattle.genotypes.specs.Formats.{format_field, so_many, formats, gt_now, gt_at, no_gt}
use Rattle.genotypes.specs.declared.Gt.{Gt}
use Rattle.record.specs.Reading.{genotypes_of, reading, accepted_as}
use Rattle.record.proofs.Accepted.{accepted}
use Rattle.fetch.specs.Fields.{value_field, alone, paired, field_at, found_field}
use Rattle.fetch.specs.Engine.{block_end}
use Rattle.fetch.specs.Account.{count_of}
use Rattle.fetch.specs.Fetch.{found_in, found, fetched}
use Rattle.fetch.specs.declared.Kind.{Kind}
use Rattle.fetch.specs.declared.Kind.TheVariants.{Id, Allele, Filter, Info, Format}
use Rattle.fetch_laws.proofs.Bytes.{fetches}
use Rattle.fetch_laws.proofs.FormatFields.{format_there, formats_field}
use Rattle.fetch_laws.proofs.Present.{paired_keyed}
use Rattle.fetch_laws.proofs.There.{found_none}
use Rattle.walker.specs.Walk.{pair_in, pair_at, as_pair, found_pair}
use Rattle.walker.proofs.Walks.{pair_field_lem}
use Rattle.bare_laws.specs.Empty.{Empty}
use Rattle.fetch.specs.declared.Found.{Found}
use Rattle.record.specs.declared.Reading.{Reading}
use Rattle.std.specs.Prelude.{Err, Ok, None}
use Rattle.values.specs.declared.Value.{Value}
use Rattle.values.specs.Answers.{Answer, whole}
use Rattle.contents.proofs.Bare.{present_zero}
use Rattle.fetch.proofs.Held.{same_field}
use Rattle.walker.proofs.Held.{same_pair}

-- the byte at the front of a part of a list
front_byte : (q end : ℕ) (s : List ℕ) (d : ℕ) (rest : List ℕ) → drop q (take end s) ≡ d ∷ rest → take 1 (drop q s) ≡ d ∷ []
front_byte zero zero s d rest h = cc
front_byte zero (suc end) [] d rest h = cc
front_byte zero (suc end) (x ∷ s) d rest h = let e : x ≡ d = cc in rw e
front_byte (suc q) zero s d rest h = cc
front_byte (suc q) (suc end) [] d rest h = cc
front_byte (suc q) (suc end) (x ∷ s) d rest h = front_byte q end s d rest h

-- a value of type 0 at a place
value_empty : (vectors : ℕ) (role : Use) (q end : ℕ) (s : List ℕ) (n place stop : ℕ)
    → present vectors role q (drop q (take end s)) ≡ whole 0 n place stop → Empty s n place stop
value_empty vectors role q end s n place stop h =
    let b = present_zero vectors role q (drop q (take end s)) n place stop h in
    let next = b.0.next in
    let before : place - 1 ≡ q = omega arith in
    record { none = b.0.none; ends = b.1; later = omega arith; byte = rw before (front_byte q end s 0 b.0.rest b.0.zero) }

alone_empty : (role : Use) (q end : ℕ) (s : List ℕ) (key n place stop : ℕ) → alone role q (drop q (take end s)) ≡ found_field key 0 n place stop
    → Empty s n place stop
unfolding alone
alone_empty role q end s key n place stop h = by_value (present 1 role q (drop q (take end s))) refl h
  where
    by_value : (v : Answer Value) → present 1 role q (drop q (take end s)) ≡ v → value_field 0 v ≡ found_field key 0 n place stop → Empty s n place stop
    by_value (Err r) p e = let z : ◌≡◌ {A = ℕ} 0 1 = cc in absurd (omega arith)
    by_value (Ok v) p e =
        let k = same_field e in
        let there : present 1 role q (drop q (take end s)) ≡ whole 0 n place stop = rw (p, k.1, k.2, k.3, k.4) in
        value_empty 1 role q end s n place stop there

paired_empty : (vectors : ℕ) (role : Use) (q end : ℕ) (s : List ℕ) (key n place stop : ℕ)
    → paired vectors role q (drop q (take end s)) ≡ found_field key 0 n place stop → Empty s n place stop
paired_empty vectors role q end s key n place stop h =
    let k = paired_keyed vectors role q (drop q (take end s)) key 0 n place stop h in
    value_empty vectors role k.next end s n place stop (rw (drop_on (take end s) q k.next k.later) at k.value)

field_empty : (kind : Kind) (people q end : ℕ) (s : List ℕ) (key n place stop : ℕ)
    → field_at kind people q (drop q (take end s)) ≡ found_field key 0 n place stop → Empty s n place stop
field_empty Id people q end s key n place stop h = alone_empty IdUse q end s key n place stop h
field_empty Allele people q end s key n place stop h = alone_empty AlleleUse q end s key n place stop h
field_empty Filter people q end s key n place stop h = alone_empty FilterUse q end s key n place stop h
field_empty Info people q end s key n place stop h = paired_empty 1 InfoUse q end s key n place stop h
field_empty Format people q end s key n place stop h = paired_empty people FormatUse q end s key n place stop h

-- the law: what is fetched with type 0
pub found_empty : (f : Facts) (kind : Kind) (number : ℕ) (s : List ℕ) (key n place stop : ℕ) → found f kind number s ≡ found_field key 0 n place stop
    → Empty s n place stop × (fetched f kind number s ≡ [])
unfolding found fetched
found_empty f kind number s key n place stop h =
    let e = by-reading (reading f s) refl h in
    let none : stop - place ≡ 0 = rw e.ends (sub_self place) in
    (e, rw (h, none))
  where
    by_count : (t : Site) (g : Gt) (b : Bool) → reading f s ≡ accepted_as t g → leb (count_of kind t) number ≡ b → Empty s n place stop
    by_count t g true p q =
        let none = sym (found_none f kind number s t g p (leb-true (count_of kind t) number q)) ∙ h in
        let z : ◌≡◌ {A = ℕ} 0 1 = cc in
        absurd (omega arith)
    by_count t g false p q =
        let r = fetches f kind number s t g p (leb-false (count_of kind t) number q) in
        field_empty kind f.people r.place (block_end kind t) s key n place stop (sym r.field ∙ h)

    by-reading : (r : Answer Reading) → reading f s ≡ r → found_in kind number s r ≡ found_field key 0 n place stop → Empty s n place stop
    by-reading (Err r) p e = let z : ◌≡◌ {A = ℕ} 0 1 = cc in absurd (omega arith)
    by-reading (Ok a) p e = by_count a.site a.gt (leb (count_of kind a.site) number) p refl

-- the law: what the walker yields with type 0
pair_found : (r : Answer Found) (key n place next : ℕ) → as_pair r ≡ found_pair key 0 n place next → r ≡ found_field key 0 n place next
pair_found (Err r) key n place next h = cc
pair_found (Ok x) key n place next h = let k = same_pair h in rw (k.0, k.1, k.2, k.3, k.4)

pub pair_empty : (s : List ℕ) (at key n place next : ℕ) → pair_at s at ≡ found_pair key 0 n place next → Empty s n place next
unfolding pair_at
pair_empty s at key n place next h = by_tests (ltb (length s) 8) (ltb (length s) end) h
  where
    end : ℕ
    end = 8 + number 4 s

    by_tests : (a b : Bool) → pick a None (pick b None (pair_in at (drop at (take end s)))) ≡ found_pair key 0 n place next → Empty s n place next
    by_tests true b e = let z : ◌≡◌ {A = ℕ} 0 1 = cc in absurd (omega arith)
    by_tests false true e = let z : ◌≡◌ {A = ℕ} 0 1 = cc in absurd (omega arith)
    by_tests false false e =
        let there = pair_found (paired 1 InfoUse at (drop at (take end s))) key n place next (sym (pair_field_lem at (drop at (take end s))) ∙ e) in
        paired_empty 1 InfoUse at end s key n place next there

-- GT of type 0, a bare 00 or none at all, has length 0
gt_after_lem : (key gt : ℕ) (x known : Gt) → (x.code ≡ 0 → x.len ≡ 0) → (known.code ≡ 0 → known.len ≡ 0)
    → (gt_now key gt x known).code ≡ 0 → (gt_now key gt x known).len ≡ 0
unfolding gt_now
gt_after_lem key gt x known a b = by_key (eqb key gt)
  where
    by_key : (c : Bool) → (pick c x known).code ≡ 0 → (pick c x known).len ≡ 0
    by_key true e = a e
    by_key false e = b e

formats_empty : (strings people gt alleles n : ℕ) (earlier : List ℕ) (known : Gt) (at : ℕ) (l : List ℕ) (g : Gt) → (known.code ≡ 0 → known.len ≡ 0)
    → formats strings people gt alleles n earlier known at l ≡ Ok g → g.code ≡ 0 → g.len ≡ 0
unfolding format_field so_many formats
formats_empty strings people gt alleles zero earlier known at [] g k h e = let same : known ≡ g = cc in rw same at (k (rw same e))
formats_empty strings people gt alleles zero earlier known at (b ∷ rest) g k h e = cc
formats_empty strings people gt alleles (suc n) earlier known at l g k h e =
    let j = formats_field strings people gt alleles n earlier known at l h in
    let there = format_there people alleles j.key gt j.next (drop (j.next - at) l) j.code j.len j.first j.stop j.value in
    let field : j.code ≡ 0 → j.len ≡ 0 = λ z. (present_zero people FormatUse j.next (drop (j.next - at) l) j.len j.first j.stop (rw z at there)).0.none in
    formats_empty strings people gt alleles n (earlier ++ (j.key ∷ [])) _ j.stop (drop (j.stop - at) l) g
    (gt_after_lem j.key gt (gt_at j.code j.len j.first) known field k) j.on e

pub gt_empty : (f : Facts) (s : List ℕ) (t : Site) (g : Gt) → reading f s ≡ accepted_as t g → g.code ≡ 0 → g.len ≡ 0
unfolding genotypes_of
gt_empty f s t g h e =
    formats_empty f.strings f.people f.gt t.alleles t.formats [] no_gt t.border (drop t.border (take t.length s)) g (λ z. refl)
    (accepted f s t g h).genotypes e
