-- What a record that was written shows is what it was written from. Rests on proofs/Values, proofs/Blocks and on the definitions of what a
-- record shows.
use mathlib.Core.Path.{◌≡◌, refl, ◌∙◌, ap, sym}
use mathlib.Core.Bool.{true}
use mathlib.Core.List.{List, [], ◌∷◌, ◌++◌, append-nil, append_assoc, map, flatten}
use Prim.Native.Nat.{ℕ, ◌+◌, ◌-◌, ◌*◌, ◌<◌, ◌≤◌}
use native.Mathlib.Omega.{arith}
use native.Mathlib.Nat.{mul-div_cancel, sub_self}
use lib.ListN.{length, drop, replicate, length-append}
use borrow.Author.Tests.{ne_eqb}
use Rattle.types.specs.Rows.{row_of, allowed}
use Rattle.types.specs.declared.Use.{Use}
use Rattle.types.specs.declared.Use.TheVariants.{Id, Allele, Filter, Info, Format}
use Rattle.positions.proofs.Convert.{pos_bits_pos_of}
use Rattle.fixed.specs.Layout.{id_at, most_bytes}
use Rattle.facts.specs.declared.Facts.{Facts}
use Rattle.encode.specs.Encode.{integer_bytes, descriptor_bytes, widest}
use Rattle.site.specs.Steps.{times}
use Rattle.shown.specs.Shown.{Shown, Kind, integers, floats, text, Pair, Field, kind_of}
use Rattle.vectors.specs.Vectors.{elements_of}
use Rattle.fetch.specs.Fields.{alone, paired, field_at}
use Rattle.fetch.specs.Engine.{passing, past, to_filter, to_info}
use Rattle.fetch.specs.declared.Kind.{Kind as FieldKind}
use Rattle.fetch.specs.declared.Kind.TheVariants.{Id as IdKind, Allele as AlleleKind, Filter as FilterKind, Info as InfoKind, Format as FormatKind}
use Rattle.fetch.proofs.Inside.{drop_past}
use Rattle.contents.specs.Contents.{shown_of}
use Rattle.contents.proofs.Blocks.{item, bytes_of, pair_of, format_of, items_of, each_in, blocks_shown, shown_blocks}
use Rattle.shown.specs.Values.{written_as, given_bytes, pair_bytes}
use Rattle.build_rules.specs.Values.{given_as}
use Rattle.build_laws.specs.Records.{All, Fit, KeepsAllele, KeepsInfo, KeepsFields, Keeps}
use Rattle.shown.specs.Records.{joined, text_bytes, info_bytes, format_bytes, site_bytes, genotype_bytes, record_bytes}
use Rattle.build_laws.proofs.Widths.{widest_types, held_written}
use Rattle.build_laws.proofs.Elements.{length_elements_bytes, shown_numbers_elements}
use Rattle.build_laws.proofs.Values.{written_type, one_vector, present_given, drop_front, elements_drop, elements_size, integer_bytes_lem, key_bits, allowed_info}
use Rattle.build_laws.proofs.Blocks.{allowed_format, length_person}
use Rattle.std.specs.Prelude.{Ok}
use Rattle.build_laws.proofs.Front.{site_for, site_block, genotype_block}

-- the kind of the type that a value is written in
kind_of_written : (k : Kind) (xs : List ℕ) → kind_of (written_as k xs) ≡ k
kind_of_written integers xs =
    let h = widest_types xs in
    rw (ne_eqb (widest xs) 7 (λ e. omega (arith, h.1)), ne_eqb (widest xs) 5 (λ e. omega (arith, h.1)))
kind_of_written floats xs = refl
kind_of_written text xs = refl

-- its elements
elements_of_given : (at : ℕ) (k : Kind) (n : ℕ) (xs m : List ℕ) → Fit k xs
    → elements_of (written_as k xs) (at + length (given_bytes k n xs) - (at + length (descriptor_bytes (written_as k xs) n)))
    (drop (at + length (descriptor_bytes (written_as k xs) n) - at) (given_bytes k n xs ++ m))
    ≡ xs
unfolding elements_of given_bytes
elements_of_given at k n xs m f =
    let t = written_as k xs in
    rw (
      elements_drop at t n xs m,
      elements_size at t n xs,
      length_elements_bytes t xs,
      mul-div_cancel (length xs) (written_type k xs).1,
      shown_numbers_elements t (given_as k) xs m (held_written k xs f),
    )

-- alleles, and the steps past them
alleles_given : (at : ℕ) (xs : List (List ℕ)) (m : List ℕ) → All KeepsAllele xs → length (joined text_bytes xs) ≤ most_bytes
    → map bytes_of (items_of 1 (replicate (length xs) AlleleKind) at (joined text_bytes xs ++ m)) ≡ xs
unfolding items_of alone joined row_of
alleles_given at [] m k h = refl
alleles_given at (x ∷ xs) m k h =
    let b = text_bytes x in
    let rest = joined text_bytes xs in
    let n = length-append b rest in
    rw (
      append_assoc b rest m,
      present_given 1 Allele at text (length x) x (rest ++ m) refl (one_vector text x (omega arith)) (omega arith),
      elements_of_given at text (length x) x (rest ++ m) k.0.fit,
      drop_front at b (rest ++ m),
      alleles_given (at + length b) xs m k.1 (omega arith),
    )

alleles_past : (at : ℕ) (xs : List (List ℕ)) (m : List ℕ) → All KeepsAllele xs → length (joined text_bytes xs) ≤ most_bytes
    → past AlleleKind 1 (length xs) at (joined text_bytes xs ++ m) ≡ Ok (at + length (joined text_bytes xs))
unfolding past times passing alone joined row_of
alleles_past at [] m k h = ap Ok (omega arith)
alleles_past at (x ∷ xs) m k h =
    let b = text_bytes x in
    let rest = joined text_bytes xs in
    let n = length-append b rest in
    let e : at + length b + length rest ≡ at + length (b ++ rest) = omega arith in
    rw (
      append_assoc b rest m,
      present_given 1 Allele at text (length x) x (rest ++ m) refl (one_vector text x (omega arith)) (omega arith),
      drop_front at b (rest ++ m),
    )
    (alleles_past (at + length b) xs m k.1 (omega arith) ∙ ap Ok e)

-- a key and its value, and then what follows them
items_pair : (kind : FieldKind) (kinds : List FieldKind) (people vectors : ℕ) (role : Use) (at key : ℕ) (k : Kind) (n : ℕ) (xs rest : List ℕ)
    → ((at : ℕ) (l : List ℕ) → field_at kind people at l ≡ paired vectors role at l) → allowed (row_of (given_as k)) role ≡ true
    → key < 4294967296 → n < 2147483648 → length xs ≡ vectors * n → Fit k xs
    → items_of people (kind ∷ kinds) at (pair_bytes key k n xs ++ rest)
    ≡ item kind key (written_as k xs) n xs ∷ items_of people kinds (at + length (pair_bytes key k n xs)) rest
unfolding items_of paired pair_bytes row_of
items_pair kind kinds people vectors role at key k n xs rest same may small short count fit =
    let b = integer_bytes key in
    let v = given_bytes k n xs in
    let l = b ++ (v ++ rest) in
    let q = at + length b in
    let first = q + length (descriptor_bytes (written_as k xs) n) in
    let on = drop_front at b (v ++ rest) in
    let e : drop (first - at) l ≡ drop (first - q) (v ++ rest) = sym (drop_past l at q first (omega arith) (omega arith)) ∙ ap (drop (first - q)) on in
    let g : drop (q + length v - at) l ≡ rest = sym (drop_past l at q (q + length v) (omega arith) (omega arith)) ∙ ap (drop (q + length v - q)) on ∙ drop_front q v rest in
    let z : q + length v ≡ at + length (b ++ v) = let y = length-append b v in omega arith in
    rw (
      same at (b ++ v ++ rest),
      append_assoc b v rest,
      integer_bytes_lem at key (v ++ rest) small,
      on,
      present_given vectors role q k n xs rest may short count,
      e,
      g,
      elements_of_given q k n xs rest fit,
      z,
    )

-- INFO pairs
pairs_given : (strings at : ℕ) (ps : List Pair) → All (KeepsInfo strings) ps → length (joined info_bytes ps) ≤ most_bytes
    → map pair_of (items_of 1 (replicate (length ps) InfoKind) at (joined info_bytes ps)) ≡ ps
unfolding items_of joined pair_bytes
pairs_given strings at [] k h = refl
pairs_given strings at (p ∷ ps) k h =
    let xs = p.value.elements in
    let rest = joined info_bytes ps in
    let n = length-append (info_bytes p) rest in
    let m = length-append (integer_bytes p.key) (given_bytes p.value.kind (length xs) xs) in
    ap (map pair_of) (items_pair InfoKind (replicate (length ps) InfoKind) 1 1 Info at p.key p.value.kind (length xs) xs rest (λ at l. refl)
    (allowed_info p.value.kind) (key_bits strings p.key k.0.inside) (one_vector p.value.kind xs (omega arith)) (omega arith) k.0.fit)
    ∙ rw (kind_of_written p.value.kind xs, pairs_given strings (at + length (info_bytes p)) ps k.1 (omega arith))

-- FORMAT fields
fields_given : (f : Facts) (alleles : ℕ) (earlier : List ℕ) (at : ℕ) (xs : List Field) → (0 < length xs → 0 < f.people)
    → KeepsFields f alleles earlier xs → length (joined format_bytes xs) ≤ most_bytes
    → map format_of (items_of f.people (replicate (length xs) FormatKind) at (joined format_bytes xs)) ≡ xs
unfolding items_of joined
fields_given f alleles earlier at [] p k h = refl
fields_given f alleles earlier at (x ∷ xs) p k h =
    let els = x.value.elements in
    let rest = joined format_bytes xs in
    let n = length-append (format_bytes x) rest in
    let people : 0 < f.people = p (omega arith) in
    ap (map format_of) (items_pair FormatKind (replicate (length xs) FormatKind) f.people f.people Format at x.key x.value.kind x.len els
    rest (λ at l. refl) (allowed_format x.value.kind) (key_bits f.strings x.key k.0.inside)
    (length_person f alleles earlier x people k.0 (omega arith)) (sym k.0.count) k.0.fit)
    ∙ rw (
      kind_of_written x.value.kind els,
      fields_given f alleles (earlier ++ (x.key ∷ [])) (at + length (format_bytes x)) xs (λ e. people) k.1 (omega arith),
    )

-- what the site block shows, of each kind
record Site (r : Shown) (l : List ℕ) : Type 0 where
  id : flatten (each_in bytes_of IdKind (length r.alleles) 1 id_at l) ≡ r.id
  alleles : each_in bytes_of AlleleKind (length r.alleles) (length r.alleles) id_at l ≡ r.alleles
  filters : flatten (each_in bytes_of FilterKind (length r.alleles) 1 id_at l) ≡ r.filters
  infos : each_in pair_of InfoKind (length r.alleles) (length r.infos) id_at l ≡ r.infos

site_given : (f : Facts) (r : Shown) → Keeps f r → length (site_bytes r) ≤ most_bytes → Site r (site_bytes r)
unfolding site_bytes each_in items_of to_info to_filter past times passing alone flatten row_of
site_given f r k h =
    let a = text_bytes r.id in
    let b = joined text_bytes r.alleles in
    let c = given_bytes integers (length r.filters) r.filters in
    let d = joined info_bytes r.infos in
    let x = length-append a (b ++ (c ++ d)) in
    let y = length-append b (c ++ d) in
    let z = length-append c d in
    let p = id_at + length a in
    let q = p + length b in
    let id = present_given 1 Id id_at text (length r.id) r.id (b ++ (c ++ d)) refl (one_vector text r.id (omega arith)) (omega arith) in
    let shows = elements_of_given id_at text (length r.id) r.id (b ++ (c ++ d)) k.id_fit in
    let on = drop_front id_at a (b ++ (c ++ d)) in
    let alleles = alleles_past p r.alleles (c ++ d) k.alleles (omega arith) in
    let r' = q + length c in
    let filter = present_given 1 Filter q integers (length r.filters) r.filters d refl (one_vector integers r.filters (omega arith)) (omega arith) in
    let to_filters : drop (q - id_at) (a ++ (b ++ (c ++ d))) ≡ c ++ d =
    sym (drop_past (a ++ (b ++ (c ++ d))) id_at p q (omega arith) (omega arith)) ∙ ap (drop (q - p)) on ∙ drop_front p b (c ++ d) in
    let to_infos : drop (r' - id_at) (a ++ (b ++ (c ++ d))) ≡ d =
    sym (drop_past (a ++ (b ++ (c ++ d))) id_at q r' (omega arith) (omega arith)) ∙ ap (drop (r' - q)) to_filters ∙ drop_front q c d in
    record {
      id = rw (sub_self id_at, id, shows, append-nil r.id);
      alleles = rw (id, on) (alleles_given p r.alleles (c ++ d) k.alleles (omega arith));
      filters = rw (id, on, alleles, to_filters, filter, elements_of_given q integers (length r.filters) r.filters d k.filters_fit, append-nil r.filters);
      infos = rw (id, on, alleles, to_filters, filter, to_infos) (pairs_given f.strings r' r.infos k.infos (omega arith));
    }

-- the law: all that a record shows
pub shown_of_record : (f : Facts) (r : Shown) (rest : List ℕ) → Keeps f r → length (site_bytes r) ≤ most_bytes → length (genotype_bytes r) ≤ most_bytes
    → shown_of (site_for f.people r) (record_bytes f.people r ++ rest) ≡ r
unfolding blocks_shown site_for genotype_bytes
shown_of_record f r rest k h g =
    let x = site_given f r k h in
    rw (
      shown_blocks (site_for f.people r) (record_bytes f.people r ++ rest),
      site_block f.people r rest,
      genotype_block f.people r rest,
      x.id,
      x.alleles,
      x.filters,
      x.infos,
      pos_bits_pos_of r.pos k.bits.1,
      fields_given f (length r.alleles) [] (id_at + length (site_bytes r)) r.formats k.people k.formats g,
    )
