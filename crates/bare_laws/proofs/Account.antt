-- The account of a record whose bare 00 become 01: the same fields at the same places, of which those of type 0 are of type 1. So it shows the same,
-- since both are no integers, and no field of it is found with type 0. Rests on proofs/Steps and Records, and on the laws of what a record shows.
use mathlib.Core.Path.{◌≡◌, refl, sym, ◌∙◌, ap}
use mathlib.Core.List.{List, [], ◌∷◌, ◌++◌, map, map-append}
use mathlib.Core.Bool.{Bool, true, false}
use Prim.Native.Nat.{ℕ, zero, suc, ◌+◌, ◌-◌, ◌≤◌}
use native.Mathlib.Omega.{arith}
use lib.Dec.{eqb}
use lib.ListN.{length, take, drop, replicate}
use lib.Seq.{length-take-le, drop_at}
use borrow.Author.Tests.{eqb-true}
use Rattle.words.specs.Pick.{pick}
use Rattle.types.specs.declared.Use.{Use}
use Rattle.types.specs.declared.Use.TheVariants.{Id as IdUse, Allele as AlleleUse, Filter as FilterUse, Info as InfoUse, Format as FormatUse}
use Rattle.values.specs.Answers.{IntegerInside, Answer, one, whole}
use Rattle.values.specs.Values.{integer, present}
use Rattle.fixed.specs.Layout.{id_at}
use Rattle.facts.specs.declared.Facts.{Facts}
use Rattle.fixed.specs.declared.Site.{Site}
use Rattle.fixed.proofs.Fits.{Fits}
use Rattle.genotypes.specs.declared.Gt.{Gt}
use Rattle.record.specs.Reading.{reading, accepted_as}
use Rattle.shown.specs.Shown.{kind_of}
use Rattle.vectors.specs.Vectors.{elements_of}
use Rattle.record.proofs.Accepted.{accepted_fits}
use Rattle.fetch.specs.Fields.{value_field, pair_field, alone, paired, field_at, found_field}
use Rattle.fetch.specs.Account.{Entry, entered, fields_of, site_kinds, site_fields, genotype_fields, account, is_kind, of_kind, numbered}
use Rattle.fetch.specs.Fetch.{field_of, found}
use Rattle.fetch.specs.declared.Kind.{Kind}
use Rattle.fetch.specs.declared.Kind.TheVariants.{Id, Allele, Filter, Info, Format}
use Rattle.fetch.proofs.Inside.{integer_inside, present_inside, drop_past}
use Rattle.fetch_laws.proofs.Fronts.{integer_front}
use Rattle.fetch_laws.proofs.Present.{paired_keyed}
use Rattle.contents.specs.Contents.{shown_of}
use Rattle.contents.proofs.Blocks.{item_then, items_of, shown_items}
use Rattle.bare_laws.specs.Ones.{Onward, past_value, value_one, past_key, pair_one, one_of, ones_of, with_ones}
use Rattle.bare_laws.proofs.Values.{code_for, present_ones, elements_ones}
use Rattle.bare_laws.proofs.Steps.{value_one_there, drop_value_one, pair_one_there}
use Rattle.fetch.specs.declared.Found.{Found}
use Rattle.values.specs.declared.Value.{Value}
use Rattle.std.specs.Prelude.{Err, Ok}
use Rattle.values.specs.declared.Integer.{Integer}
use Rattle.bare_laws.proofs.Records.{lies, reads_ones}
use Rattle.fetch.proofs.Held.{same_field}

-- what is found of a field, as it becomes
abbrev as_one : Answer Found → Answer Found
as_one (Err r) = Err r
as_one (Ok x) = found_field x.key (code_for x.code) x.len x.place x.stop

value_one_lem : (vectors : ℕ) (role : Use) (rest : Onward) (at : ℕ) (l : List ℕ) (key : ℕ)
    → value_field key (present vectors role at (value_one vectors role rest at l)) ≡ as_one (value_field key (present vectors role at l))
unfolding value_one
value_one_lem vectors role rest at l key = by_value (present vectors role at l) refl
  where
    by_value : (v : Answer Value) → present vectors role at l ≡ v
        → value_field key (present vectors role at (past_value rest at l v)) ≡ as_one (value_field key v)
    by_value (Err r) p = rw p
    by_value (Ok v) p = rw (present_ones vectors role at l (rest v.stop (drop (v.stop - at) l)) v.code v.len v.first v.stop p)

-- behind a key stands what becomes of its value
drop_pair_one : (vectors : ℕ) (role : Use) (rest : Onward) (at : ℕ) (l : List ℕ) (key next : ℕ) → integer at l ≡ one key next
    → at ≤ next → next ≤ at + length l
    → drop (next - at) (pair_one vectors role rest at l) ≡ value_one vectors role rest next (drop (next - at) l)
drop_pair_one vectors role rest at l key next h a b =
    ap (drop (next - at)) (pair_one_there vectors role rest at l key next h)
    ∙ drop_at (take (next - at) l) _ (next - at) (length-take-le (next - at) l (omega arith))

pair_one_lem : (vectors : ℕ) (role : Use) (rest : Onward) (at : ℕ) (l : List ℕ)
    → paired vectors role at (pair_one vectors role rest at l) ≡ as_one (paired vectors role at l)
unfolding paired pair_one
pair_one_lem vectors role rest at l = by_key (integer at l) refl (integer_inside at l)
  where
    by_key : (i : Answer Integer) → integer at l ≡ i → IntegerInside at (at + length l) i
        → pair_field vectors role at (past_key (value_one vectors role rest) at l i) (integer at (past_key (value_one vectors role rest) at l i))
        ≡ as_one (pair_field vectors role at l i)
    by_key (Err r) p k = rw p
    by_key (Ok i) p k =
        let m = value_one vectors role rest i.next (drop (i.next - at) l) in
        let here : at + (i.next - at) ≡ i.next = omega (arith, k.0) in
        let value : drop (i.next - at) (take (i.next - at) l ++ m) ≡ m =
        drop_at (take (i.next - at) l) m (i.next - at) (length-take-le (i.next - at) l (omega (arith, k.0, k.1))) in
        rw (integer_front at at l m i.bits i.next p, here, value) (value_one_lem vectors role rest i.next (drop (i.next - at) l) i.bits)

field_one : (kind : Kind) (people : ℕ) (rest : Onward) (at : ℕ) (l : List ℕ)
    → field_at kind people at (one_of kind people rest at l) ≡ as_one (field_at kind people at l)
unfolding alone
field_one Id people rest at l = value_one_lem 1 IdUse rest at l 0
field_one Allele people rest at l = value_one_lem 1 AlleleUse rest at l 0
field_one Filter people rest at l = value_one_lem 1 FilterUse rest at l 0
field_one Info people rest at l = pair_one_lem 1 InfoUse rest at l
field_one Format people rest at l = pair_one_lem people FormatUse rest at l

-- the bytes of a field that is there: its elements are shown as they were, and behind it stands what becomes of the rest
record Becomes (new l : List ℕ) (rest : Onward) (at t place stop : ℕ) : Type 0 where
  elements : elements_of (code_for t) (stop - place) (drop (place - at) new) ≡ elements_of t (stop - place) (drop (place - at) l)
  behind : drop (stop - at) new ≡ rest stop (drop (stop - at) l)

value_becomes : (vectors : ℕ) (role : Use) (rest : Onward) (at : ℕ) (l : List ℕ) (t n first stop : ℕ)
    → present vectors role at l ≡ whole t n first stop → Becomes (value_one vectors role rest at l) l rest at t first stop
value_becomes vectors role rest at l t n first stop h =
    record {
      elements = rw (value_one_there vectors role rest at l t n first stop h)
          (elements_ones vectors role at l (rest stop (drop (stop - at) l)) t n first stop h);
      behind = drop_value_one vectors role rest at l t n first stop h;
    }

alone_becomes : (role : Use) (rest : Onward) (at : ℕ) (l : List ℕ) (key t n first stop : ℕ) → alone role at l ≡ found_field key t n first stop
    → Becomes (value_one 1 role rest at l) l rest at t first stop
unfolding alone
alone_becomes role rest at l key t n first stop h = value_becomes 1 role rest at l t n first stop (by_value (present 1 role at l) h)
  where
    by_value : (v : Answer Value) → value_field 0 v ≡ found_field key t n first stop → v ≡ whole t n first stop
    by_value (Err r) e = cc
    by_value (Ok v) e = let k = same_field e in rw (k.1, k.2, k.3, k.4)

pair_becomes : (vectors : ℕ) (role : Use) (rest : Onward) (at : ℕ) (l : List ℕ) (key t n first stop : ℕ)
    → paired vectors role at l ≡ found_field key t n first stop → Becomes (pair_one vectors role rest at l) l rest at t first stop
pair_becomes vectors role rest at l key t n first stop h =
    let k = paired_keyed vectors role at l key t n first stop h in
    let next = k.next in
    let a = k.later in
    let new = pair_one vectors role rest at l in
    let i = rw k.value at (present_inside vectors role next (drop (next - at) l)) in
    let b = value_becomes vectors role rest next (drop (next - at) l) t n first stop k.value in
    let value = drop_pair_one vectors role rest at l key next k.number a k.inside in
    let to-first : drop (first - at) new ≡ drop (first - next) (value_one vectors role rest next (drop (next - at) l)) =
    sym (drop_past new at next first a (omega (arith, i.0))) ∙ ap (drop (first - next)) value in
    let to-stop : drop (stop - at) new ≡ drop (stop - next) (value_one vectors role rest next (drop (next - at) l)) =
    sym (drop_past new at next stop a (omega (arith, i.0, i.1))) ∙ ap (drop (stop - next)) value in
    record {
      elements = rw to-first (b.elements ∙ ap (elements_of t (stop - first)) (drop_past l at next first a (omega (arith, i.0))));
      behind = to-stop ∙ b.behind ∙ ap (rest stop) (drop_past l at next stop a (omega (arith, i.0, i.1)));
    }

field_becomes : (kind : Kind) (people : ℕ) (rest : Onward) (at : ℕ) (l : List ℕ) (key t n place stop : ℕ)
    → field_at kind people at l ≡ found_field key t n place stop → Becomes (one_of kind people rest at l) l rest at t place stop
field_becomes Id people rest at l key t n place stop h = alone_becomes IdUse rest at l key t n place stop h
field_becomes Allele people rest at l key t n place stop h = alone_becomes AlleleUse rest at l key t n place stop h
field_becomes Filter people rest at l key t n place stop h = alone_becomes FilterUse rest at l key t n place stop h
field_becomes Info people rest at l key t n place stop h = pair_becomes 1 InfoUse rest at l key t n place stop h
field_becomes Format people rest at l key t n place stop h = pair_becomes people FormatUse rest at l key t n place stop h

-- 01 is integers, as a bare 00 is
kind_of_code_for : (t : ℕ) → kind_of (code_for t) ≡ kind_of t
kind_of_code_for t = by_type (eqb t 0) refl
  where
    by_type : (b : Bool) → eqb t 0 ≡ b → kind_of (pick b 1 t) ≡ kind_of t
    by_type true e = let z = eqb-true t 0 e in rw z
    by_type false e = refl

-- what fields of a block show stays
items_ones : (people : ℕ) (kinds : List Kind) (at : ℕ) (l : List ℕ) → items_of people kinds at (ones_of people kinds at l) ≡ items_of people kinds at l
unfolding items_of ones_of
items_ones people [] at l = refl
items_ones people (kind ∷ kinds) at l = by_field (λ q m. items_ones people kinds q m) (field_at kind people at l) refl
  where
    rest : Onward
    rest = ones_of people kinds

    new : List ℕ
    new = one_of kind people rest at l

    by_field : ((q : ℕ) (m : List ℕ) → items_of people kinds q (rest q m) ≡ items_of people kinds q m) → (r : Answer Found) → field_at kind people at l ≡ r
        → item_then kind at new (items_of people kinds) (field_at kind people at new) ≡ item_then kind at l (items_of people kinds) r
    by_field on (Err r) p = rw (field_one kind people rest at l, p)
    by_field on (Ok x) p =
        let b = field_becomes kind people rest at l x.key x.code x.len x.place x.stop p in
        rw (field_one kind people rest at l, p, b.elements, b.behind, kind_of_code_for x.code, on x.stop (drop (x.stop - at) l))

-- the law: it shows the same
pub shown_of_ones : (f : Facts) (s : List ℕ) (t : Site) (g : Gt) → reading f s ≡ accepted_as t g → shown_of t (with_ones t s) ≡ shown_of t s
shown_of_ones f s t g h =
    let y = lies f s t (accepted_fits f s t g h) in
    rw (
      shown_items t (with_ones t s),
      shown_items t s,
      y.site,
      y.genotypes,
      items_ones t.people (site_kinds t.alleles t.infos) id_at (drop id_at (take t.border s)),
      items_ones t.people (replicate t.formats Format) t.border (drop t.border (take t.length s)),
    )

-- a field of the account, as it becomes: at its place, of its type, or of type 1
abbrev pub one_entry : Entry → Entry
one_entry e = record { kind = e.kind; key = e.key; code = code_for e.code; len = e.len; place = e.place; stop = e.stop }

fields_ones : (people : ℕ) (kinds : List Kind) (at : ℕ) (l : List ℕ)
    → fields_of people kinds at (ones_of people kinds at l) ≡ map one_entry (fields_of people kinds at l)
unfolding fields_of ones_of
fields_ones people [] at l = refl
fields_ones people (kind ∷ kinds) at l = by_field (λ q m. fields_ones people kinds q m) (field_at kind people at l) refl
  where
    rest : Onward
    rest = ones_of people kinds

    new : List ℕ
    new = one_of kind people rest at l

    by_field : ((q : ℕ) (m : List ℕ) → fields_of people kinds q (rest q m) ≡ map one_entry (fields_of people kinds q m)) → (r : Answer Found)
        → field_at kind people at l ≡ r
        → entered kind at new (fields_of people kinds) (field_at kind people at new) ≡ map one_entry (entered kind at l (fields_of people kinds) r)
    by_field on (Err r) p = rw (field_one kind people rest at l, p)
    by_field on (Ok x) p =
        rw (field_one kind people rest at l, p, (field_becomes kind people rest at l x.key x.code x.len x.place x.stop p).behind, on x.stop (drop (x.stop - at) l))

-- the law: its account is the same but for the types
pub account_ones : (f : Facts) (s : List ℕ) (t : Site) → Fits f s t → account t (with_ones t s) ≡ map one_entry (account t s)
unfolding account site_fields genotype_fields
account_ones f s t x =
    let y = lies f s t x in
    rw (
      y.site,
      y.genotypes,
      fields_ones t.people (site_kinds t.alleles t.infos) id_at (drop id_at (take t.border s)),
      fields_ones t.people (replicate t.formats Format) t.border (drop t.border (take t.length s)),
      map-append one_entry,
    )

-- a field that is not told with type 0
abbrev pub TypeOther : Answer Found → Type 0
TypeOther (Err r) = Unit {0}
TypeOther (Ok x) = eqb x.code 0 ≡ false

-- no type becomes 0
code_for_other : (t : ℕ) → eqb (code_for t) 0 ≡ false
code_for_other t = by_type (eqb t 0) refl
  where
    by_type : (b : Bool) → eqb t 0 ≡ b → eqb (pick b 1 t) 0 ≡ false
    by_type true e = refl
    by_type false e = e

numbered_left : (kind : Kind) (n : ℕ) (es : List Entry) → TypeOther (numbered n (of_kind kind (map one_entry es)))
unfolding numbered of_kind
numbered_left kind n [] = tt
numbered_left kind n (e ∷ es) = by_kind (is_kind kind e.kind) (λ m. numbered_left kind m es) n
  where
    rest : List Entry
    rest = of_kind kind (map one_entry es)

    by_kind : (b : Bool) → ((m : ℕ) → TypeOther (numbered m rest)) → (m : ℕ) → TypeOther (numbered m (pick b (one_entry e ∷ rest) rest))
    by_kind true on zero = code_for_other e.code
    by_kind true on (suc m) = on m
    by_kind false on m = on m

-- the law: no field of what becomes of an accepted record has type 0
pub found_left : (f : Facts) (kind : Kind) (number : ℕ) (s : List ℕ) (t : Site) (g : Gt) → reading f s ≡ accepted_as t g
    → TypeOther (found f kind number (with_ones t s))
unfolding found field_of
found_left f kind number s t g h =
    rw ((reads_ones f s t g h).read, account_ones f s t (accepted_fits f s t g h)) (numbered_left kind number (account t s))
