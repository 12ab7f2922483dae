-- The fields of a kind, out of a record's account: those that the steps to the first of them lead to, and so many from there on. So the one of a
-- number is the field that fetching comes to, on any site and any bytes. Rests on specs/Account, specs/Engine and proofs/Inside.
use mathlib.Core.Path.{◌≡◌, refl, sym, ◌∙◌, ap}
use mathlib.Core.List.{List, [], ◌∷◌, ◌++◌, append-nil}
use mathlib.Core.Bool.{Bool, true, false}
use Prim.Native.Nat.{ℕ, zero, suc, ◌+◌, ◌-◌, ◌≤◌}
use native.Mathlib.Nat.{sub_self}
use native.Mathlib.Omega.{arith}
use lib.Dec.{leb, leb-zero, leb-suc-zero, leb-suc-suc}
use lib.ListN.{length, take, drop, replicate}
use Rattle.words.specs.Pick.{pick}
use Rattle.values.specs.Answers.{refusal, Answer}
use Rattle.fixed.specs.Layout.{id_at}
use Rattle.fixed.specs.declared.Site.{Site}
use Rattle.site.specs.Steps.{then, times}
use Rattle.fetch.specs.Fields.{field_at, FoundInside}
use Rattle.fetch.specs.Account.{Entry, entered, fields_of, site_kinds, site_fields, genotype_fields, account, is_kind, of_kind, numbered, count_of}
use Rattle.fetch.specs.Engine.{field_step, passing, past, to_filter, to_info, to_first, to_field, then_field, field_in, is_format, block_from, block_of, or_none}
use Rattle.fetch.specs.Fetch.{field_of}
use Rattle.fetch.specs.declared.Kind.{Kind}
use Rattle.fetch.specs.declared.Kind.TheVariants.{Id, Allele, Filter, Info, Format}
use Rattle.fetch.specs.declared.Found.{Found}
use Rattle.std.specs.Prelude.{Ok, Err}
use Rattle.fetch.proofs.Inside.{StepLater, field_inside, passing_later, then_later, past_later, drop_past}

-- steps, and then the fields from where they came to
abbrev pub then_fields : ℕ → List ℕ → Answer ℕ → (ℕ → List ℕ → List Entry) → List Entry
then_fields at l (Err r) next = []
then_fields at l (Ok q) next = next q (drop (q - at) l)

-- each kind of a list is another one
abbrev pub Others : Kind → List Kind → Type 0
Others kind [] = Unit {0}
Others kind (k ∷ ks) = (is_kind kind k ≡ false) × Others kind ks

-- fields of other kinds are left out
pub others_none : (kind : Kind) (people : ℕ) (ks : List Kind) (at : ℕ) (l : List ℕ) → Others kind ks → of_kind kind (fields_of people ks at l) ≡ []
unfolding of_kind fields_of
others_none kind people [] at l h = refl
others_none kind people (k ∷ ks) at l h = by_field (λ q m. others_none kind people ks q m h.1) (field_at k people at l)
  where
    by_field : ((q : ℕ) (m : List ℕ) → of_kind kind (fields_of people ks q m) ≡ []) → (r : Answer Found)
        → of_kind kind (entered k at l (fields_of people ks) r) ≡ []
    by_field on (Err r) = refl
    by_field on (Ok x) = rw h.0 (on x.stop (drop (x.stop - at) l))

pub others_replicate : (kind k : Kind) (n : ℕ) (ks : List Kind) → is_kind kind k ≡ false → Others kind ks → Others kind (replicate n k ++ ks)
others_replicate kind k zero ks h g = g
others_replicate kind k (suc n) ks h g = (h, others_replicate kind k n ks h g)

-- fields of the kind stay, and those of others after them are left out
pub own_first : (kind : Kind) (people n : ℕ) (ks : List Kind) (at : ℕ) (l : List ℕ) → is_kind kind kind ≡ true → Others kind ks
    → of_kind kind (fields_of people (replicate n kind ++ ks) at l) ≡ fields_of people (replicate n kind) at l
unfolding of_kind fields_of
own_first kind people zero ks at l h g = others_none kind people ks at l g
own_first kind people (suc n) ks at l h g = by_field (λ q m. own_first kind people n ks q m h g) (field_at kind people at l)
  where
    by_field : ((q : ℕ) (m : List ℕ) → of_kind kind (fields_of people (replicate n kind ++ ks) q m) ≡ fields_of people (replicate n kind) q m) → (r : Answer Found)
        → of_kind kind (entered kind at l (fields_of people (replicate n kind ++ ks)) r) ≡ entered kind at l (fields_of people (replicate n kind)) r
    by_field on (Err r) = refl
    by_field on (Ok x) = rw (h, on x.stop (drop (x.stop - at) l))

-- past fields of another kind
then_fields_then : (at : ℕ) (l : List ℕ) (p : Answer ℕ) (on : ℕ → List ℕ → Answer ℕ) (next : ℕ → List ℕ → List Entry) → StepLater at p
    → ((q : ℕ) (m : List ℕ) → StepLater q (on q m))
    → then_fields at l p (λ q m. then_fields q m (on q m) next) ≡ then_fields at l (then at l p on) next
then_fields_then at l (Err r) on next h k = refl
then_fields_then at l (Ok q) on next h k = by-step (on q (drop (q - at) l)) (k q (drop (q - at) l))
  where
    by-step : (p : Answer ℕ) → StepLater q p → then_fields q (drop (q - at) l) p next ≡ then_fields at l p next
    by-step (Err r) i = refl
    by-step (Ok e) i = rw (drop_past l at q e h i)

pub others_past : (kind k : Kind) (people n : ℕ) (ks : List Kind) (at : ℕ) (l : List ℕ) → is_kind kind k ≡ false
    → of_kind kind (fields_of people (replicate n k ++ ks) at l) ≡ then_fields at l (past k people n at l) (λ q m. of_kind kind (fields_of people ks q m))
unfolding of_kind fields_of past times passing
others_past kind k people zero ks at l h = rw (sub_self at)
others_past kind k people (suc n) ks at l h =
    by_field (λ q m. others_past kind k people n ks q m h) (field_at k people at l)
    ∙ then_fields_then at l (passing k people at l) (past k people n) (λ q m. of_kind kind (fields_of people ks q m)) (passing_later k people at l)
    (past_later k people n)
  where
    on : ℕ → List ℕ → List Entry
    on q m = then_fields q m (past k people n q m) (λ e j. of_kind kind (fields_of people ks e j))

    by_field : ((q : ℕ) (m : List ℕ) → of_kind kind (fields_of people (replicate n k ++ ks) q m) ≡ on q m) → (r : Answer Found)
        → of_kind kind (entered k at l (fields_of people (replicate n k ++ ks)) r) ≡ then_fields at l (field_step r) on
    by_field same (Err r) = refl
    by_field same (Ok x) = rw h (same x.stop (drop (x.stop - at) l))

-- fields of the site block are passed by one person as by all
passing_people : (kind : Kind) (people at : ℕ) (l : List ℕ) → is_format kind ≡ false → passing kind people at l ≡ passing kind 1 at l
unfolding passing
passing_people Id people at l h = refl
passing_people Allele people at l h = refl
passing_people Filter people at l h = refl
passing_people Info people at l h = refl
passing_people Format people at l h = cc

pub then_same : (at : ℕ) (l : List ℕ) (p : Answer ℕ) (on on' : ℕ → List ℕ → Answer ℕ) → ((q : ℕ) (m : List ℕ) → on q m ≡ on' q m)
    → then at l p on ≡ then at l p on'
then_same at l (Err r) on on' h = refl
then_same at l (Ok q) on on' h = h q (drop (q - at) l)

past_people : (kind : Kind) (people n at : ℕ) (l : List ℕ) → is_format kind ≡ false → past kind people n at l ≡ past kind 1 n at l
unfolding past times
past_people kind people zero at l h = refl
past_people kind people (suc n) at l h =
    ap (λ (p : Answer ℕ). then at l p (past kind people n)) (passing_people kind people at l h)
    ∙ then_same at l (passing kind 1 at l) (past kind people n) (past kind 1 n) (λ q m. past_people kind people n q m h)

-- those of an account are those of each block
pub of_kind_append : (kind : Kind) (xs ys : List Entry) → of_kind kind (xs ++ ys) ≡ of_kind kind xs ++ of_kind kind ys
unfolding of_kind
of_kind_append kind [] ys = refl
of_kind_append kind (x ∷ xs) ys = rw (of_kind_append kind xs ys) (by_kind (is_kind kind x.kind))
  where
    by_kind : (b : Bool) → pick b (x ∷ (of_kind kind xs ++ of_kind kind ys)) (of_kind kind xs ++ of_kind kind ys) ≡ pick b (x ∷ of_kind kind xs) (of_kind kind xs) ++ of_kind kind ys
    by_kind true = refl
    by_kind false = refl

-- steps that lead to the same, and fields that are the same from there on
then_fields_same : (at : ℕ) (l : List ℕ) (p : Answer ℕ) (next next' : ℕ → List ℕ → List Entry) → ((q : ℕ) (m : List ℕ) → next q m ≡ next' q m)
    → then_fields at l p next ≡ then_fields at l p next'
then_fields_same at l (Err r) next next' h = refl
then_fields_same at l (Ok q) next next' h = h q (drop (q - at) l)

-- fields of another kind that are passed, and then those of the kind
others_then : (kind k : Kind) (people n : ℕ) (ks : List Kind) (at : ℕ) (l : List ℕ) (next : ℕ → List ℕ → List Entry) → is_kind kind k ≡ false
    → is_format k ≡ false → ((q : ℕ) (m : List ℕ) → of_kind kind (fields_of people ks q m) ≡ next q m)
    → of_kind kind (fields_of people (replicate n k ++ ks) at l) ≡ then_fields at l (past k 1 n at l) next
others_then kind k people n ks at l next h g same =
    others_past kind k people n ks at l h
    ∙ ap (λ (p : Answer ℕ). then_fields at l p (λ q m. of_kind kind (fields_of people ks q m))) (past_people k people n at l g)
    ∙ then_fields_same at l (past k 1 n at l) _ next same

-- fields of the kind alone
own : (kind : Kind) (people n at : ℕ) (l : List ℕ) → is_kind kind kind ≡ true → of_kind kind (fields_of people (replicate n kind) at l) ≡ fields_of people (replicate n kind) at l
own kind people n at l h =
    ap (λ (ks : List Kind). of_kind kind (fields_of people ks at l)) (sym (append-nil (replicate n kind))) ∙ own_first kind people n [] at l h tt

-- in the site block: after the steps to the first of a kind
to_filter_later : (alleles at : ℕ) (l : List ℕ) → StepLater at (to_filter alleles at l)
unfolding to_filter
to_filter_later alleles at l = then_later at l (past Id 1 1 at l) (past Allele 1 alleles) (past_later Id 1 1 at l) (past_later Allele 1 alleles)

others_infos : (kind : Kind) (n : ℕ) → is_kind kind Info ≡ false → Others kind (replicate n Info)
others_infos kind zero h = tt
others_infos kind (suc n) h = (h, others_infos kind n h)

site_kind : (kind : Kind) (people : ℕ) (t : Site) (at : ℕ) (l : List ℕ) → is_format kind ≡ false
    → of_kind kind (fields_of people (site_kinds t.alleles t.infos) at l)
    ≡ then_fields at l (to_first kind t.alleles at l) (fields_of people (replicate (count_of kind t) kind))
unfolding site_kinds to_filter to_info
site_kind Id people t at l h =
    let rest = Filter ∷ replicate t.infos Info in
    rw (sub_self at)
    (own_first Id people 1 (replicate t.alleles Allele ++ rest) at l refl
    (others_replicate Id Allele t.alleles rest refl (refl, others_infos Id t.infos refl)))
site_kind Allele people t at l h =
    let rest = Filter ∷ replicate t.infos Info in
    others_then Allele Id people 1 (replicate t.alleles Allele ++ rest) at l _ refl refl
    (λ q m. own_first Allele people t.alleles rest q m refl (refl, others_infos Allele t.infos refl))
site_kind Filter people t at l h =
    let rest = Filter ∷ replicate t.infos Info in
    let next = fields_of people (replicate 1 Filter) in
    others_then Filter Id people 1 (replicate t.alleles Allele ++ rest) at l (λ q m. then_fields q m (past Allele 1 t.alleles q m) next) refl refl
    (λ q m. others_then Filter Allele people t.alleles rest q m next refl refl
    (λ e j. own_first Filter people 1 (replicate t.infos Info) e j refl (others_infos Filter t.infos refl)))
    ∙ then_fields_then at l (past Id 1 1 at l) (past Allele 1 t.alleles) next (past_later Id 1 1 at l) (past_later Allele 1 t.alleles)
site_kind Info people t at l h =
    let rest = Filter ∷ replicate t.infos Info in
    let next = fields_of people (replicate t.infos Info) in
    let on : ℕ → List ℕ → List Entry = λ e j. then_fields e j (past Filter 1 1 e j) next in
    others_then Info Id people 1 (replicate t.alleles Allele ++ rest) at l (λ q m. then_fields q m (past Allele 1 t.alleles q m) on) refl refl
    (λ q m. others_then Info Allele people t.alleles rest q m on refl refl
    (λ e j. others_then Info Filter people 1 (replicate t.infos Info) e j next refl refl (λ k i. own Info people t.infos k i refl)))
    ∙ then_fields_then at l (past Id 1 1 at l) (past Allele 1 t.alleles) on (past_later Id 1 1 at l) (past_later Allele 1 t.alleles)
    ∙ then_fields_then at l (to_filter t.alleles at l) (past Filter 1 1) next (to_filter_later t.alleles at l) (past_later Filter 1 1)
site_kind Format people t at l h = cc

-- no field of the site block is a FORMAT field, and no other stands in the genotype block
site_no_format : (people : ℕ) (t : Site) (at : ℕ) (l : List ℕ) → of_kind Format (fields_of people (site_kinds t.alleles t.infos) at l) ≡ []
unfolding site_kinds
site_no_format people t at l =
    others_none Format people (Id ∷ (replicate t.alleles Allele ++ (Filter ∷ replicate t.infos Info))) at l
    (refl, others_replicate Format Allele t.alleles (Filter ∷ replicate t.infos Info) refl (refl, others_infos Format t.infos refl))

formats_alone : (kind : Kind) (people n at : ℕ) (l : List ℕ) → is_kind kind Format ≡ false → of_kind kind (fields_of people (replicate n Format) at l) ≡ []
formats_alone kind people n at l h = others_none kind people (replicate n Format) at l (each n)
  where
    each : (n : ℕ) → Others kind (replicate n Format)
    each zero = tt
    each (suc n) = (h, each n)

in_site_lem : (kind : Kind) (t : Site) (s : List ℕ) → is_format kind ≡ false → is_kind kind Format ≡ false
    → of_kind kind (account t s)
    ≡ then_fields (block_from kind t) (block_of kind t s) (to_first kind t.alleles (block_from kind t) (block_of kind t s))
    (fields_of t.people (replicate (count_of kind t) kind))
unfolding account site_fields genotype_fields
in_site_lem kind t s h g =
    rw (
      of_kind_append kind (site_fields t s) (genotype_fields t s),
      formats_alone kind t.people t.formats t.border (drop t.border (take t.length s)) g,
      append-nil (of_kind kind (site_fields t s)),
      h,
    )
    (site_kind kind t.people t id_at (drop id_at (take t.border s)) h)

-- the law: the fields of a kind are those from the first on, as many as the count says or as stand there whole
pub of_kind_lem : (kind : Kind) (t : Site) (s : List ℕ)
    → of_kind kind (account t s)
    ≡ then_fields (block_from kind t) (block_of kind t s) (to_first kind t.alleles (block_from kind t) (block_of kind t s))
    (fields_of t.people (replicate (count_of kind t) kind))
unfolding account site_fields genotype_fields
of_kind_lem Id t s = in_site_lem Id t s refl refl
of_kind_lem Allele t s = in_site_lem Allele t s refl refl
of_kind_lem Filter t s = in_site_lem Filter t s refl refl
of_kind_lem Info t s = in_site_lem Info t s refl refl
of_kind_lem Format t s =
    rw (
      of_kind_append Format (site_fields t s) (genotype_fields t s),
      site_no_format t.people t id_at (drop id_at (take t.border s)),
      sub_self t.border,
    )
    (own Format t.people t.formats t.border (drop t.border (take t.length s)) refl)

-- of so many fields of a kind the one of a number: past those before it
abbrev none : Answer Found
none = Err (refusal 16 0)

picked_none : (b : Bool) → none ≡ pick b none none
picked_none true = refl
picked_none false = refl

then_field_on : (kind : Kind) (people at q : ℕ) (l : List ℕ) (p : Answer ℕ) → at ≤ q → StepLater q p
    → then_field q (drop (q - at) l) p (field_at kind people) ≡ then_field at l p (field_at kind people)
then_field_on kind people at q l (Err r) h k = refl
then_field_on kind people at q l (Ok e) h k = rw (drop_past l at q e h k)

pub run_numbered : (kind : Kind) (people n c at : ℕ) (l : List ℕ)
    → numbered n (fields_of people (replicate c kind) at l)
    ≡ pick (leb c n) none (or_none (then_field at l (past kind people n at l) (field_at kind people)))
unfolding numbered fields_of past times passing
run_numbered kind people n zero at l = rw leb-zero
run_numbered kind people zero (suc c) at l = rw (leb-suc-zero, sub_self at) (by_field (field_at kind people at l))
  where
    by_field : (r : Answer Found) → numbered 0 (entered kind at l (fields_of people (replicate c kind)) r) ≡ or_none r
    by_field (Err r) = refl
    by_field (Ok x) = refl
run_numbered kind people (suc n) (suc c) at l =
    rw leb-suc-suc (by_field (λ q m. run_numbered kind people n c q m) (field_at kind people at l) (field_inside kind people at l))
  where
    by_field : ((q : ℕ) (m : List ℕ) → numbered n (fields_of people (replicate c kind) q m)
        ≡ pick (leb c n) none (or_none (then_field q m (past kind people n q m) (field_at kind people)))) → (r : Answer Found) → FoundInside at (at + length l) r
        → numbered (suc n) (entered kind at l (fields_of people (replicate c kind)) r)
        ≡ pick (leb c n) none (or_none (then_field at l (then at l (field_step r) (past kind people n)) (field_at kind people)))
    by_field on (Err r) h = picked_none (leb c n)
    by_field on (Ok x) h =
        on x.stop (drop (x.stop - at) l)
        ∙ ap (λ (r : Answer Found). pick (leb c n) none (or_none r))
        (then_field_on kind people at x.stop l (past kind people n x.stop (drop (x.stop - at) l)) (omega arith) (past_later kind people n x.stop (drop (x.stop - at) l)))

first_numbered : (kind : Kind) (people n c at : ℕ) (l : List ℕ) (p : Answer ℕ) → StepLater at p
    → numbered n (then_fields at l p (fields_of people (replicate c kind)))
    ≡ pick (leb c n) none (or_none (then_field at l (then at l p (past kind people n)) (field_at kind people)))
unfolding numbered
first_numbered kind people n c at l (Err r) h = picked_none (leb c n)
first_numbered kind people n c at l (Ok q) h =
    run_numbered kind people n c q (drop (q - at) l)
    ∙ ap (λ (r : Answer Found). pick (leb c n) none (or_none r))
    (then_field_on kind people at q l (past kind people n q (drop (q - at) l)) h (past_later kind people n q (drop (q - at) l)))

pub to_first_later : (kind : Kind) (alleles at : ℕ) (l : List ℕ) → StepLater at (to_first kind alleles at l)
unfolding to_info
to_first_later Id alleles at l = omega arith
to_first_later Allele alleles at l = past_later Id 1 1 at l
to_first_later Filter alleles at l = to_filter_later alleles at l
to_first_later Info alleles at l = then_later at l (to_filter alleles at l) (past Filter 1 1) (to_filter_later alleles at l) (past_later Filter 1 1)
to_first_later Format alleles at l = omega arith

-- the law: the field of a kind and a number in the account is the one that fetching comes to in its block, if it stands there whole
pub field_number : (kind : Kind) (n : ℕ) (t : Site) (s : List ℕ)
    → field_of kind n t s
    ≡ pick (leb (count_of kind t) n) none (or_none (field_in kind t.people t.alleles n (block_from kind t) (block_of kind t s)))
unfolding field_of field_in to_field
field_number kind n t s =
    let at = block_from kind t in
    let l = block_of kind t s in
    ap (numbered n) (of_kind_lem kind t s)
    ∙ first_numbered kind t.people n (count_of kind t) at l (to_first kind t.alleles at l) (to_first_later kind t.alleles at l)
