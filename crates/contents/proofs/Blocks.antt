-- What a record shows, said of its two blocks as lists that are consumed: so it does not depend on what stands around them, and laws of joined or cut
-- bytes are inductions over lists. Rests on specs/Contents and on the laws of the account.
use mathlib.Core.Path.{◌≡◌, refl, sym, ◌∙◌, ap}
use mathlib.Core.List.{List, [], ◌∷◌, ◌++◌, map, map-map, map-append, flatten}
use mathlib.Core.Bool.{Bool, true, false}
use Prim.Native.Nat.{ℕ, zero, suc, ◌+◌, ◌-◌, ◌<◌, ◌≤◌}
use native.Mathlib.Nat.{sub_self}
use native.Mathlib.Omega.{arith}
use lib.ListN.{length, take, drop, replicate, length-take, length-drop}
use Rattle.words.specs.Pick.{pick}
use Rattle.words.proofs.Places.{drop_on}
use Rattle.fixed.specs.Layout.{id_at}
use Rattle.positions.specs.Positions.{pos_bits}
use Rattle.fixed.specs.declared.Site.{Site}
use Rattle.shown.specs.Shown.{Elements, Pair, Field, Shown, kind_of}
use Rattle.vectors.specs.Vectors.{elements_of}
use Rattle.fetch.specs.Fields.{field_at, FoundInside}
use Rattle.fetch.specs.Account.{Entry, entered, fields_of, site_kinds, site_fields, genotype_fields, account, is_kind, of_kind, count_of}
use Rattle.fetch.specs.Engine.{to_first, is_format, block_from, block_end, block_of}
use Rattle.fetch.specs.declared.Kind.{Kind}
use Rattle.fetch.specs.declared.Kind.TheVariants.{Id, Allele, Filter, Info, Format}
use Rattle.fetch.proofs.Account.{then_fields, of_kind_lem, to_first_later}
use Rattle.fetch.proofs.Inside.{StepLater, field_inside}
use Rattle.fetch_laws.proofs.Bytes.{part_of_lem}
use Rattle.contents.specs.Contents.{elements_at, shown_of}
use Rattle.fetch.specs.declared.Found.{Found}
use Rattle.std.specs.Prelude.{Ok, Err}
use Rattle.values.specs.Answers.{Answer}
use Rattle.contents.proofs.Elements.{elements_of_take}

-- a field as it is shown: its kind, its key, its length and its value
pub record Item : Type 0 where
  pub kind : Kind
  pub key : ℕ
  pub len : ℕ
  pub value : Elements

abbrev pub item : Kind → ℕ → ℕ → ℕ → List ℕ → Item
item kind key t n xs = record { kind = kind; key = key; len = n; value = record { kind = kind_of t; elements = xs } }

abbrev pub item_of : List ℕ → Entry → Item
item_of s e = item e.kind e.key e.code e.len (elements_at s e)

-- so as bytes, as an INFO pair and as a FORMAT field
abbrev pub bytes_of : Item → List ℕ
bytes_of i = i.value.elements

abbrev pub pair_of : Item → Pair
pair_of i = record { key = i.key; value = i.value }

abbrev pub format_of : Item → Field
format_of i = record { key = i.key; len = i.len; value = i.value }

-- the fields of these kinds at the front of a list, as they are shown, as far as they stand there whole
abbrev pub item_then : Kind → ℕ → List ℕ → (ℕ → List ℕ → List Item) → Answer Found → List Item
item_then kind at l rest (Err r) = []
item_then kind at l rest (Ok x) =
    item kind x.key x.code x.len (elements_of x.code (x.stop - x.place) (drop (x.place - at) l)) ∷ rest x.stop (drop (x.stop - at) l)

unfoldable pub items_of : ℕ → List Kind → ℕ → List ℕ → List Item
items_of people [] at l = []
items_of people (kind ∷ kinds) at l = item_then kind at l (items_of people kinds) (field_at kind people at l)

-- the elements of a field in its block are those from its place on in the record
elements_part : (s : List ℕ) (end at t place stop : ℕ) → at ≤ place → place ≤ stop → stop ≤ at + length (drop at (take end s)) → at < stop
    → elements_of t (stop - place) (drop place s) ≡ elements_of t (stop - place) (drop (place - at) (drop at (take end s)))
elements_part s end at t place stop h k e m =
    let i = rw (length-drop at (take end s), length-take end s) at e in
    rw (drop_on (take end s) at place h)
    (elements_of_take t (stop - place) (drop place s) (drop place (take end s)) (sym (part_of_lem s place (stop - place) end (omega arith))))

-- the law: what is shown of fields of the account is made of their block alone
pub items_map : (people : ℕ) (kinds : List Kind) (at end : ℕ) (s : List ℕ)
    → map (item_of s) (fields_of people kinds at (drop at (take end s))) ≡ items_of people kinds at (drop at (take end s))
unfolding fields_of items_of elements_at
items_map people [] at end s = refl
items_map people (kind ∷ kinds) at end s =
    by_field (λ q. items_map people kinds q end s) (field_at kind people at (drop at (take end s))) (field_inside kind people at (drop at (take end s)))
  where
    l : List ℕ
    l = drop at (take end s)

    by_field : ((q : ℕ) → map (item_of s) (fields_of people kinds q (drop q (take end s))) ≡ items_of people kinds q (drop q (take end s)))
        → (r : Answer Found) → FoundInside at (at + length l) r
        → map (item_of s) (entered kind at l (fields_of people kinds) r) ≡ item_then kind at l (items_of people kinds) r
    by_field on (Err r) h = refl
    by_field on (Ok x) h =
        rw (elements_part s end at x.code x.place x.stop (omega arith) h.1 h.2 (omega arith), drop_on (take end s) at x.stop (omega arith), on x.stop)

-- those of a kind
unfoldable pub items_for : Kind → List Item → List Item
items_for kind [] = []
items_for kind (i ∷ is) = let rest = items_for kind is in pick (is_kind kind i.kind) (i ∷ rest) rest

items_for_map : (kind : Kind) (s : List ℕ) (es : List Entry) → map (item_of s) (of_kind kind es) ≡ items_for kind (map (item_of s) es)
unfolding of_kind items_for
items_for_map kind s [] = refl
items_for_map kind s (e ∷ es) = by_kind (items_for_map kind s es) (is_kind kind e.kind)
  where
    by_kind : map (item_of s) (of_kind kind es) ≡ items_for kind (map (item_of s) es) → (b : Bool)
        → map (item_of s) (pick b (e ∷ of_kind kind es) (of_kind kind es))
        ≡ pick b (item_of s e ∷ items_for kind (map (item_of s) es)) (items_for kind (map (item_of s) es))
    by_kind same true = rw same
    by_kind same false = same

-- what is shown of a record's fields together
unfoldable pub items_shown : Site → List Item → Shown
items_shown t is =
    record {
      chrom = t.chrom;
      pos = pos_bits t.pos;
      rlen = t.rlen;
      qual = t.qual;
      id = flatten (map bytes_of (items_for Id is));
      alleles = map bytes_of (items_for Allele is);
      filters = flatten (map bytes_of (items_for Filter is));
      infos = map pair_of (items_for Info is);
      formats = map format_of (items_for Format is);
    }

-- of two blocks, from ID on and from the first FORMAT field on
abbrev pub blocks_items : Site → List ℕ → List ℕ → List Item
blocks_items t l m = items_of t.people (site_kinds t.alleles t.infos) id_at l ++ items_of t.people (replicate t.formats Format) t.border m

account_items : (t : Site) (s : List ℕ)
    → map (item_of s) (account t s) ≡ blocks_items t (drop id_at (take t.border s)) (drop t.border (take t.length s))
unfolding account site_fields genotype_fields
account_items t s =
    rw (
      map-append (item_of s) (site_fields t s) (genotype_fields t s),
      items_map t.people (site_kinds t.alleles t.infos) id_at t.border s,
      items_map t.people (replicate t.formats Format) t.border t.length s,
    )

kind_items : {A : Type 0} (make : Item → A) (kind : Kind) (t : Site) (s : List ℕ)
    → map (λ (e : Entry). make (item_of s e)) (of_kind kind (account t s))
    ≡ map make (items_for kind (blocks_items t (drop id_at (take t.border s)) (drop t.border (take t.length s))))
kind_items make kind t s =
    sym (map-map make (item_of s) (of_kind kind (account t s)))
    ∙ ap (map make) (items_for_map kind s (account t s) ∙ ap (items_for kind) (account_items t s))

pub shown_items : (t : Site) (s : List ℕ)
    → shown_of t s ≡ items_shown t (blocks_items t (drop id_at (take t.border s)) (drop t.border (take t.length s)))
unfolding shown_of items_shown
shown_items t s =
    rw (
      kind_items bytes_of Id t s,
      kind_items bytes_of Allele t s,
      kind_items bytes_of Filter t s,
      kind_items pair_of Info t s,
      kind_items format_of Format t s,
    )

-- kind by kind: past those before the first of a kind, and then as many as there are
abbrev pub then_items : ℕ → List ℕ → Answer ℕ → (ℕ → List ℕ → List Item) → List Item
then_items at l (Err r) next = []
then_items at l (Ok q) next = next q (drop (q - at) l)

then_map : (kinds : List Kind) (people at end : ℕ) (s : List ℕ) (p : Answer ℕ) → StepLater at p
    → map (item_of s) (then_fields at (drop at (take end s)) p (fields_of people kinds)) ≡ then_items at (drop at (take end s)) p (items_of people kinds)
then_map kinds people at end s (Err r) h = refl
then_map kinds people at end s (Ok q) h = rw (drop_on (take end s) at q h) (items_map people kinds q end s)

kind_each : {A : Type 0} (make : Item → A) (kind : Kind) (t : Site) (s : List ℕ)
    → map (λ (e : Entry). make (item_of s e)) (of_kind kind (account t s))
    ≡ map make (then_items (block_from kind t) (block_of kind t s) (to_first kind t.alleles (block_from kind t) (block_of kind t s))
    (items_of t.people (replicate (count_of kind t) kind)))
kind_each make kind t s =
    let at = block_from kind t in
    let p = to_first kind t.alleles at (block_of kind t s) in
    sym (map-map make (item_of s) (of_kind kind (account t s)))
    ∙ ap (map make) (ap (map (item_of s)) (of_kind_lem kind t s)
    ∙ then_map (replicate (count_of kind t) kind) t.people at (block_end kind t) s p (to_first_later kind t.alleles at (block_of kind t s)))

-- fields of the site block are the same for one person as for all
field_at_people : (kind : Kind) (people at : ℕ) (l : List ℕ) → is_format kind ≡ false → field_at kind people at l ≡ field_at kind 1 at l
field_at_people Id people at l h = refl
field_at_people Allele people at l h = refl
field_at_people Filter people at l h = refl
field_at_people Info people at l h = refl
field_at_people Format people at l h = cc

item_then_same : (kind : Kind) (at : ℕ) (l : List ℕ) (rest rest' : ℕ → List ℕ → List Item) (r : Answer Found)
    → ((q : ℕ) (m : List ℕ) → rest q m ≡ rest' q m) → item_then kind at l rest r ≡ item_then kind at l rest' r
item_then_same kind at l rest rest' (Err r) h = refl
item_then_same kind at l rest rest' (Ok x) h = rw (h x.stop (drop (x.stop - at) l))

items_people : (kind : Kind) (people n at : ℕ) (l : List ℕ) → is_format kind ≡ false
    → items_of people (replicate n kind) at l ≡ items_of 1 (replicate n kind) at l
unfolding items_of
items_people kind people zero at l h = refl
items_people kind people (suc n) at l h =
    ap (item_then kind at l (items_of people (replicate n kind))) (field_at_people kind people at l h)
    ∙ item_then_same kind at l (items_of people (replicate n kind)) (items_of 1 (replicate n kind)) (field_at kind 1 at l) (λ q m. items_people kind people n q m h)

-- something made of all fields of a kind in the site block, from ID on
unfoldable pub each_in : {A : Type 0} → (Item → A) → Kind → ℕ → ℕ → ℕ → List ℕ → List A
each_in make kind alleles n at l = map make (then_items at l (to_first kind alleles at l) (items_of 1 (replicate n kind)))

site_each : {A : Type 0} (make : Item → A) (kind : Kind) (t : Site) (s : List ℕ) → is_format kind ≡ false
    → map (λ (e : Entry). make (item_of s e)) (of_kind kind (account t s))
    ≡ each_in make kind t.alleles (count_of kind t) id_at (drop id_at (take t.border s))
unfolding each_in
site_each make kind t s h =
    rw h at (kind_each make kind t s) ∙ ap (map make) (by-step (to_first kind t.alleles id_at (drop id_at (take t.border s))))
  where
    by-step : (p : Answer ℕ) → then_items id_at (drop id_at (take t.border s)) p (items_of t.people (replicate (count_of kind t) kind))
        ≡ then_items id_at (drop id_at (take t.border s)) p (items_of 1 (replicate (count_of kind t) kind))
    by-step (Err r) = refl
    by-step (Ok q) = items_people kind t.people (count_of kind t) q _ h

unfoldable pub blocks_shown : Site → List ℕ → List ℕ → Shown
blocks_shown t l m =
    record {
      chrom = t.chrom;
      pos = pos_bits t.pos;
      rlen = t.rlen;
      qual = t.qual;
      id = flatten (each_in bytes_of Id t.alleles 1 id_at l);
      alleles = each_in bytes_of Allele t.alleles t.alleles id_at l;
      filters = flatten (each_in bytes_of Filter t.alleles 1 id_at l);
      infos = each_in pair_of Info t.alleles t.infos id_at l;
      formats = map format_of (items_of t.people (replicate t.formats Format) t.border m);
    }

pub shown_blocks : (t : Site) (s : List ℕ)
    → shown_of t s ≡ blocks_shown t (drop id_at (take t.border s)) (drop t.border (take t.length s))
unfolding shown_of blocks_shown
shown_blocks t s =
    rw (
      site_each bytes_of Id t s refl,
      site_each bytes_of Allele t s refl,
      site_each bytes_of Filter t s refl,
      site_each pair_of Info t s refl,
      kind_each format_of Format t s,
      sub_self t.border,
    )
