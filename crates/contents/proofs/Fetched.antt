-- What an accepted record shows is what is fetched of it. Rests on proofs/Elements and Counts, on the laws of the account and of what is found.
use mathlib.Core.Path.{◌≡◌, refl, sym, ◌∙◌}
use mathlib.Core.List.{List, [], ◌∷◌, map, append-nil, flatten}
use mathlib.Core.Bool.{true}
use Prim.Native.Nat.{ℕ, zero, suc, ◌-◌, ◌*◌, ◌/◌, ◌<◌, ◌≤◌}
use native.Mathlib.Omega.{arith}
use lib.ListN.{length, get_or, take, drop, length-take, length-drop, length-map}
use Rattle.types.specs.Rows.{width_of}
use Rattle.types.specs.declared.Use.{Use}
use Rattle.types.specs.declared.Use.TheVariants.{Id as IdUse, Allele as AlleleUse, Filter as FilterUse, Info as InfoUse, Format as FormatUse}
use Rattle.values.specs.Answers.{refusal, Answer, whole}
use Rattle.values.specs.Values.{present}
use Rattle.facts.specs.declared.Facts.{Facts}
use Rattle.fixed.specs.declared.Site.{Site}
use Rattle.genotypes.specs.declared.Gt.{Gt}
use Rattle.record.specs.Reading.{reading, accepted_as}
use Rattle.shown.specs.Shown.{Pair, Field}
use Rattle.fetch.specs.Fields.{value_field, alone, field_at, found_field}
use Rattle.fetch.specs.Account.{Entry, account, of_kind, as_found, numbered, count_of}
use Rattle.fetch.specs.Engine.{block_end}
use Rattle.fetch.specs.Fetch.{field_of, found, fetched}
use Rattle.fetch.specs.declared.Kind.{Kind}
use Rattle.fetch.specs.declared.Kind.TheVariants.{Id, Allele, Filter, Info, Format}
use Rattle.fetch.proofs.Inside.{field_inside}
use Rattle.fetch_laws.proofs.Bytes.{fetches, is_field, found_there}
use Rattle.fetch_laws.proofs.Present.{paired_keyed}
use Rattle.fetch_laws.proofs.There.{accepted_people, found_none}
use Rattle.contents.specs.Contents.{elements_at, pair_shown, field_shown, shown_of}
use Rattle.contents.specs.Fetched.{Gives, GivesText, GivesFilter, GivesPair, GivesField, ShownFetched}
use Rattle.contents.proofs.Counts.{present_count, present_id, present_allele, present_filter}
use Rattle.std.specs.Prelude.{Err, Ok}
use Rattle.values.specs.declared.Value.{Value}
use Rattle.contents.proofs.Elements.{shown_at_elements_of, length_elements_of, elements_of_text}
use Rattle.fetch.proofs.Held.{same_field}

-- the entry of a number in a list of fields is what is found by that number, and there are as many as are found
numbered_entry : (es : List Entry) (i : ℕ) (d : Entry) → i < length es → numbered i es ≡ as_found (get_or es i d)
unfolding numbered
numbered_entry [] i d h = absurd (omega arith)
numbered_entry (e ∷ es) zero d h = refl
numbered_entry (e ∷ es) (suc i) d h = numbered_entry es i d (omega arith)

mapped_entry : {A : Type 0} (f : Entry → A) (es : List Entry) (i : ℕ) (d : A) (e : Entry) → i < length es → get_or (map f es) i d ≡ f (get_or es i e)
mapped_entry f [] i d e h = absurd (omega arith)
mapped_entry f (x ∷ es) zero d e h = refl
mapped_entry f (x ∷ es) (suc i) d e h = mapped_entry f es i d e (omega arith)

found_enough : (es : List Entry) (n : ℕ) → ((i : ℕ) → i < n → is_field (numbered i es) ≡ true) → n ≤ length es
unfolding numbered
found_enough es zero h = omega arith
found_enough [] (suc n) h = let e = h 0 (omega arith) in let z : ◌≡◌ {A = ℕ} 0 1 = cc in absurd (omega arith)
found_enough (e ∷ es) (suc n) h = let k = found_enough es n (λ i q. h (suc i) (omega arith)) in omega arith

found_all : (es : List Entry) (n : ℕ) → numbered n es ≡ Err (refusal 16 0) → length es ≤ n
unfolding numbered
found_all [] n h = omega arith
found_all (e ∷ es) zero h = let z : ◌≡◌ {A = ℕ} 0 1 = cc in absurd (omega arith)
found_all (e ∷ es) (suc n) h = let k = found_all es n h in omega arith

-- the law: of an accepted record every field that its counts say is there
pub count_there : (f : Facts) (s : List ℕ) (t : Site) (g : Gt) (kind : Kind) → reading f s ≡ accepted_as t g
    → length (of_kind kind (account t s)) ≡ count_of kind t
unfolding found field_of
count_there f s t g kind h =
    let es = of_kind kind (account t s) in
    let a = found_enough es (count_of kind t) (λ i q. rw h at (found_there f kind i s t g h q)) in
    let b = found_all es (count_of kind t) (rw h at (found_none f kind (count_of kind t) s t g h (omega arith))) in
    omega arith

-- how many vectors a field of a kind has
abbrev vectors_of : Kind → ℕ → ℕ
vectors_of Id people = 1
vectors_of Allele people = 1
vectors_of Filter people = 1
vectors_of Info people = 1
vectors_of Format people = people

alone_present : (role : Use) (at : ℕ) (l : List ℕ) (key t n first stop : ℕ) → alone role at l ≡ found_field key t n first stop
    → present 1 role at l ≡ whole t n first stop
unfolding alone
alone_present role at l key t n first stop h = by_value (present 1 role at l) h
  where
    by_value : (v : Answer Value) → value_field 0 v ≡ found_field key t n first stop → v ≡ whole t n first stop
    by_value (Err r) e = cc
    by_value (Ok v) e = let k = same_field e in rw (k.1, k.2, k.3, k.4)

field_count : (kind : Kind) (people at : ℕ) (l : List ℕ) (key t n first stop : ℕ) → field_at kind people at l ≡ found_field key t n first stop
    → (stop - first) / width_of t ≡ vectors_of kind people * n
field_count Id people at l key t n first stop h = present_count 1 IdUse at l t n first stop (alone_present IdUse at l key t n first stop h)
field_count Allele people at l key t n first stop h =
    present_count 1 AlleleUse at l t n first stop (alone_present AlleleUse at l key t n first stop h)
field_count Filter people at l key t n first stop h =
    present_count 1 FilterUse at l t n first stop (alone_present FilterUse at l key t n first stop h)
field_count Info people at l key t n first stop h =
    let k = paired_keyed 1 InfoUse at l key t n first stop h in
    present_count 1 InfoUse k.next (drop (k.next - at) l) t n first stop k.value
field_count Format people at l key t n first stop h =
    let k = paired_keyed people FormatUse at l key t n first stop h in
    present_count people FormatUse k.next (drop (k.next - at) l) t n first stop k.value

-- a field of the account that is found: it stands in its block, and all its bytes are there
record Stands (f : Facts) (s : List ℕ) (kind : Kind) (e : Entry) : Type 0 where
  at : ℕ
  block : List ℕ
  field : field_at kind f.people at block ≡ as_found e
  whole : e.stop - e.place ≤ length (drop e.place s)

stands : (f : Facts) (s : List ℕ) (t : Site) (g : Gt) (kind : Kind) (number : ℕ) (e : Entry) → reading f s ≡ accepted_as t g
    → number < count_of kind t → found f kind number s ≡ as_found e → Stands f s kind e
stands f s t g kind number e h q k =
    let r = fetches f kind number s t g h q in
    let l = drop r.place (take (block_end kind t) s) in
    let b = sym r.field ∙ k in
    let i = rw (b, length-drop r.place (take (block_end kind t) s), length-take (block_end kind t) s) at (field_inside kind f.people r.place l) in
    record { at = r.place; block = l; field = b; whole = rw (length-drop e.place s) (omega (arith, i.0, i.1, i.2)) }

gives : (f : Facts) (s : List ℕ) (kind : Kind) (number : ℕ) (e : Entry) → found f kind number s ≡ as_found e → Stands f s kind e
    → Gives f s kind number (vectors_of kind f.people) e.key e.code e.len (elements_at s e)
unfolding fetched elements_at
gives f s kind number e k x =
    record {
      place = e.place;
      stop = e.stop;
      there = k;
      shows = λ i. rw k (shown_at_elements_of e.code (e.stop - e.place) (drop e.place s) x.whole i);
      count = length_elements_of e.code (e.stop - e.place) (drop e.place s)
          ∙ field_count kind f.people x.at x.block e.key e.code e.len e.place e.stop x.field;
    }

-- ID and alleles are text with no key, and so the bytes that are fetched
alone_key : (role : Use) (at : ℕ) (l : List ℕ) (key t n first stop : ℕ) → alone role at l ≡ found_field key t n first stop → key ≡ 0
unfolding alone
alone_key role at l key t n first stop h = by_value (present 1 role at l) h
  where
    by_value : (v : Answer Value) → value_field 0 v ≡ found_field key t n first stop → key ≡ 0
    by_value (Err r) e = let z : ◌≡◌ {A = ℕ} 0 1 = cc in absurd (omega arith)
    by_value (Ok v) e = sym (same_field e).0

gives_as : (f : Facts) (s : List ℕ) (kind : Kind) (number vectors vectors' key key' code code' len : ℕ) (xs : List ℕ) → vectors ≡ vectors' → key ≡ key'
    → code ≡ code' → Gives f s kind number vectors key code len xs → Gives f s kind number vectors' key' code' len xs
gives_as f s kind number vectors vectors' key key' code code' len xs a b c x = rw (a, b, c) at x

gives_text : (f : Facts) (s : List ℕ) (kind : Kind) (number : ℕ) (e : Entry) → found f kind number s ≡ as_found e → Stands f s kind e
    → vectors_of kind f.people ≡ 1 → e.key ≡ 0 → e.code ≡ 7 → GivesText f s kind number (elements_at s e)
unfolding fetched elements_at
gives_text f s kind number e k x one none text =
    record {
      len = e.len;
      given = gives_as f s kind number _ 1 e.key 0 e.code 7 e.len (elements_at s e) one none text (gives f s kind number e k x);
      bytes = rw (k, text) (elements_of_text (e.stop - e.place) (drop e.place s) x.whole);
    }

id_gives_lem : (f : Facts) (s : List ℕ) (e : Entry) → found f Id 0 s ≡ as_found e → Stands f s Id e → GivesText f s Id 0 (elements_at s e)
id_gives_lem f s e k x =
    gives_text f s Id 0 e k x refl (alone_key IdUse x.at x.block e.key e.code e.len e.place e.stop x.field)
    (present_id x.at x.block e.code e.len e.place e.stop (alone_present IdUse x.at x.block e.key e.code e.len e.place e.stop x.field))

allele_gives_lem : (f : Facts) (s : List ℕ) (number : ℕ) (e : Entry) → found f Allele number s ≡ as_found e → Stands f s Allele e
    → GivesText f s Allele number (elements_at s e)
allele_gives_lem f s number e k x =
    gives_text f s Allele number e k x refl (alone_key AlleleUse x.at x.block e.key e.code e.len e.place e.stop x.field)
    (present_allele x.at x.block e.code e.len e.place e.stop (alone_present AlleleUse x.at x.block e.key e.code e.len e.place e.stop x.field))

filter_gives_lem : (f : Facts) (s : List ℕ) (e : Entry) → found f Filter 0 s ≡ as_found e → Stands f s Filter e → GivesFilter f s (elements_at s e)
filter_gives_lem f s e k x =
    record {
      code = e.code;
      len = e.len;
      given = gives_as f s Filter 0 1 1 e.key 0 e.code e.code e.len (elements_at s e) refl
          (alone_key FilterUse x.at x.block e.key e.code e.len e.place e.stop x.field) refl (gives f s Filter 0 e k x);
      kind = present_filter x.at x.block e.code e.len e.place e.stop
          (alone_present FilterUse x.at x.block e.key e.code e.len e.place e.stop x.field);
    }

-- the entry of a number below the count: it is found, and it is the one that a list made of the fields has there
none : Entry
none = record { kind = Id; key = 0; code = 0; len = 0; place = 0; stop = 0 }

abbrev entry_of : Kind → ℕ → Site → List ℕ → Entry
entry_of kind i t s = get_or (of_kind kind (account t s)) i none

record Nth (f : Facts) (s : List ℕ) (t : Site) (kind : Kind) (i : ℕ) : Type 0 where
  there : found f kind i s ≡ as_found (entry_of kind i t s)
  stood : Stands f s kind (entry_of kind i t s)
  last : i < length (of_kind kind (account t s))

nth : (f : Facts) (s : List ℕ) (t : Site) (g : Gt) (kind : Kind) (i : ℕ) → reading f s ≡ accepted_as t g → i < count_of kind t → Nth f s t kind i
unfolding found field_of
nth f s t g kind i h q =
    let es = of_kind kind (account t s) in
    let l : i < length es = rw (count_there f s t g kind h) q in
    let k : found f kind i s ≡ as_found (entry_of kind i t s) = rw h (numbered_entry es i none l) in
    record { there = k; stood = stands f s t g kind i (entry_of kind i t s) h q k; last = l }

-- of ID and FILTER there is one, so what is shown of them are its elements
only : (s : List ℕ) (es : List Entry) → length es ≡ 1 → flatten (map (elements_at s) es) ≡ elements_at s (get_or es 0 none)
unfolding flatten
only s [] h = absurd (omega arith)
only s (e ∷ []) h = append-nil (elements_at s e)
only s (e ∷ x ∷ es) h = absurd (omega arith)

text_same : (f : Facts) (s : List ℕ) (kind : Kind) (number : ℕ) (xs ys : List ℕ) → xs ≡ ys → GivesText f s kind number ys → GivesText f s kind number xs
text_same f s kind number xs ys e x = rw e x

filter_same : (f : Facts) (s xs ys : List ℕ) → xs ≡ ys → GivesFilter f s ys → GivesFilter f s xs
filter_same f s xs ys e x = rw e x

pair_gives : (f : Facts) (s : List ℕ) (number : ℕ) (e : Entry) (x : Pair) → x ≡ pair_shown s e → found f Info number s ≡ as_found e → Stands f s Info e
    → GivesPair f s number x
pair_gives f s number e x same k y = rw same (record { code = e.code; len = e.len; given = gives f s Info number e k y; kind = refl })

field_gives : (f : Facts) (s : List ℕ) (number people : ℕ) (e : Entry) (x : Field) → x ≡ field_shown s e → people ≡ f.people
    → found f Format number s ≡ as_found e → Stands f s Format e → GivesField f s number people x
field_gives f s number people e x same given k y = rw (same, given) (record { code = e.code; given = gives f s Format number e k y; kind = refl })

-- the law
pub shown_fetched : (f : Facts) (s : List ℕ) (t : Site) (g : Gt) → reading f s ≡ accepted_as t g → ShownFetched f s t
unfolding shown_of
shown_fetched f s t g h =
    let first = nth f s t g Id 0 h (omega arith) in
    let filter = nth f s t g Filter 0 h (omega arith) in
    record {
      chrom = refl;
      pos = refl;
      rlen = refl;
      qual = refl;
      id = text_same f s Id 0 (shown_of t s).id _ (only s (of_kind Id (account t s)) (count_there f s t g Id h))
          (id_gives_lem f s (entry_of Id 0 t s) first.there first.stood);
      alleles = length-map (of_kind Allele (account t s)) (elements_at s) ∙ count_there f s t g Allele h;
      allele = λ i d q.
          let r = nth f s t g Allele i h q in
          text_same f s Allele i (get_or (shown_of t s).alleles i d) _ (mapped_entry (elements_at s) (of_kind Allele (account t s)) i d none r.last)
          (allele_gives_lem f s i (entry_of Allele i t s) r.there r.stood);
      filters = filter_same f s (shown_of t s).filters _ (only s (of_kind Filter (account t s)) (count_there f s t g Filter h))
          (filter_gives_lem f s (entry_of Filter 0 t s) filter.there filter.stood);
      infos = length-map (of_kind Info (account t s)) (pair_shown s) ∙ count_there f s t g Info h;
      info = λ i d q.
          let r = nth f s t g Info i h q in
          pair_gives f s i (entry_of Info i t s) (get_or (shown_of t s).infos i d) (mapped_entry (pair_shown s) (of_kind Info (account t s)) i d none r.last)
          r.there r.stood;
      formats = length-map (of_kind Format (account t s)) (field_shown s) ∙ count_there f s t g Format h;
      format = λ i d q.
          let r = nth f s t g Format i h q in
          field_gives f s i t.people (entry_of Format i t s) (get_or (shown_of t s).formats i d)
          (mapped_entry (field_shown s) (of_kind Format (account t s)) i d none r.last) (accepted_people f s t g h) r.there r.stood;
      no_more = λ kind i q. found_none f kind i s t g h q;
    }
