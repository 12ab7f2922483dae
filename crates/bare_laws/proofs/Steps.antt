-- Steps through the site block whose bare 00 become 01: each comes to the same place, before what becomes of the rest. Rests on proofs/Values
-- and on the definitions of site.
use mathlib.Core.Path.{◌≡◌, refl, sym, ◌∙◌, ap}
use mathlib.Core.List.{List, [], ◌∷◌, ◌++◌, append-nil}
use mathlib.Core.Bool.{Bool, true, false}
use Prim.Native.Nat.{ℕ, zero, suc, ◌+◌, ◌-◌, ◌≤◌}
use native.Mathlib.Omega.{arith}
use native.Mathlib.Nat.{sub_self, zero-div}
use lib.Dec.{eqb}
use borrow.Author.Tests.{eqb-true}
use lib.ListN.{take, drop, replicate}
use lib.Seq.{length-take-le, drop_at}
use Rattle.words.specs.Pick.{pick}
use Rattle.types.specs.Rows.{width_of}
use Rattle.types.specs.declared.Use.{Use}
use Rattle.types.specs.declared.Use.TheVariants.{Id, Allele, Filter, Info, Format}
use Rattle.values.specs.Values.{integer, keyed, present}
use Rattle.vectors.specs.Vectors.{judged, shown_numbers, Sound}
use Rattle.vectors.specs.Sound.{most_of, judged_from, soundly, sound}
use Rattle.site.specs.Steps.{then, times, value_step}
use Rattle.site.specs.Alleles.{allele, allele_value}
use Rattle.site.specs.Filters.{filters, filtered, filter_value, filter}
use Rattle.site.specs.Site.{info, info_value, site}
use Rattle.fetch.specs.Account.{site_kinds}
use Rattle.fetch.specs.declared.Kind.{Kind}
use Rattle.fetch.specs.declared.Kind.TheVariants.{Allele as AlleleKind, Filter as FilterKind, Info as InfoKind, Format as FormatKind}
use Rattle.fetch_laws.proofs.Agree.{allele_value_lem, filter_value_lem, went}
use Rattle.fetch_laws.proofs.FormatFields.{keyed_integer}
use Rattle.fetch_laws.proofs.Fronts.{integer_front, keyed_front}
use Rattle.fetch.proofs.Inside.{integer_inside, present_inside, drop_past}
use Rattle.bare_laws.specs.Ones.{Onward, as_it_is, one_for, value_one, pair_one, one_of, ones_of}
use Rattle.contents.proofs.Bare.{present_zero}
use Rattle.values.specs.declared.Value.{Value}
use Rattle.std.specs.Prelude.{Err, Ok}
use Rattle.values.specs.declared.Integer.{Integer}
use Rattle.values.specs.Answers.{Answer, one, whole}
use Rattle.bare_laws.proofs.Values.{code_for, present_ones, soundly_ones, part_ones, drop_ones}

-- so many fields of a kind, one after the other
unfoldable pub repeated : (Onward → Onward) → ℕ → Onward → Onward
repeated step zero rest = rest
repeated step (suc n) rest = step (repeated step n rest)

ones_repeated : (people : ℕ) (kind : Kind) (n : ℕ) (kinds : List Kind)
    → ones_of people (replicate n kind ++ kinds) ≡ repeated (one_of kind people) n (ones_of people kinds)
unfolding ones_of repeated
ones_repeated people kind zero kinds = refl
ones_repeated people kind (suc n) kinds = ap (one_of kind people) (ones_repeated people kind n kinds)

-- what becomes of the two blocks, kind by kind
pub formats_form : (people n : ℕ) → ones_of people (replicate n FormatKind) ≡ repeated (pair_one people Format) n as_it_is
unfolding ones_of
formats_form people n = ap (ones_of people) (sym (append-nil (replicate n FormatKind))) ∙ ones_repeated people FormatKind n []

infos_form : (people n : ℕ) → ones_of people (replicate n InfoKind) ≡ repeated (pair_one 1 Info) n as_it_is
unfolding ones_of
infos_form people n = ap (ones_of people) (sym (append-nil (replicate n InfoKind))) ∙ ones_repeated people InfoKind n []

pub site_form : (people alleles infos : ℕ)
    → ones_of people (site_kinds alleles infos)
    ≡ value_one 1 Id (repeated (value_one 1 Allele) alleles (value_one 1 Filter (repeated (pair_one 1 Info) infos as_it_is)))
unfolding site_kinds ones_of
site_form people alleles infos =
    ap (value_one 1 Id) (ones_repeated people AlleleKind alleles (FilterKind ∷ replicate infos InfoKind)
    ∙ ap (λ (rest : Onward). repeated (value_one 1 Allele) alleles (value_one 1 Filter rest)) (infos_form people infos))

-- a step that comes to the same place in what becomes of the block, and behind it stands what becomes of the rest
abbrev pub Passes : (ℕ → List ℕ → Answer ℕ) → (Onward → Onward) → Type 0
Passes step one =
    (rest : Onward) (at : ℕ) (l : List ℕ) (q : ℕ) → step at l ≡ Ok q
    → (step at (one rest at l) ≡ Ok q) × (drop (q - at) (one rest at l) ≡ rest q (drop (q - at) l)) × (at ≤ q)

-- what becomes of a value that is there, and what stands behind it
pub value_one_there : (vectors : ℕ) (role : Use) (rest : Onward) (at : ℕ) (l : List ℕ) (t n first stop : ℕ)
    → present vectors role at l ≡ whole t n first stop
    → value_one vectors role rest at l ≡ one_for (take (stop - at) l) ++ rest stop (drop (stop - at) l)
unfolding value_one
value_one_there vectors role rest at l t n first stop h = rw h

pub drop_value_one : (vectors : ℕ) (role : Use) (rest : Onward) (at : ℕ) (l : List ℕ) (t n first stop : ℕ)
    → present vectors role at l ≡ whole t n first stop → drop (stop - at) (value_one vectors role rest at l) ≡ rest stop (drop (stop - at) l)
drop_value_one vectors role rest at l t n first stop h =
    let i = rw h at (present_inside vectors role at l) in
    ap (drop (stop - at)) (value_one_there vectors role rest at l t n first stop h)
    ∙ drop_ones at stop l (rest stop (drop (stop - at) l)) (omega (arith, i.0, i.1)) i.2

-- no step at all; a step and then another; so many steps
pub none_passes : Passes (λ at l. Ok at) (λ rest. rest)
none_passes rest at l q h =
    let e : at ≡ q = cc in
    (h, rw (← e, sub_self at), omega arith)

pub both_passes : (first second : ℕ → List ℕ → Answer ℕ) (one two : Onward → Onward) → Passes first one → Passes second two
    → Passes (λ at l. then at l (first at l) second) (λ rest. one (two rest))
both_passes first second one two f g rest at l q h =
    let w = went at l (first at l) second h in
    let p = w.place in
    let new = one (two rest) at l in
    let a = f (two rest) at l p w.here in
    let b = g rest p (drop (p - at) l) q w.on in
    let behind = sym (drop_past new at p q a.2 b.2) ∙ ap (drop (q - p)) a.1 ∙ b.1 ∙ ap (rest q) (drop_past l at p q a.2 b.2) in
    (rw (a.0, a.1) b.0, behind, omega (arith, a.2, b.2))

pub times_passes : (step : ℕ → List ℕ → Answer ℕ) (one : Onward → Onward) → Passes step one → (n : ℕ) → Passes (times step n) (repeated one n)
unfolding times repeated
times_passes step one f zero = none_passes
times_passes step one f (suc n) = both_passes step (times step n) one (repeated one n) f (times_passes step one f n)

-- a step, and then what goes on from where it came to
then_passes : (step : ℕ → List ℕ → Answer ℕ) (one : Onward → Onward) (next : ℕ → List ℕ → Answer ℕ) (rest : Onward) → Passes step one
    → ((q : ℕ) (m : List ℕ) (e : ℕ) → next q m ≡ Ok e → next q (rest q m) ≡ Ok e) → (at : ℕ) (l : List ℕ) (e : ℕ)
    → then at l (step at l) next ≡ Ok e → then at (one rest at l) (step at (one rest at l)) next ≡ Ok e
then_passes step one next rest f on at l e h =
    let w = went at l (step at l) next h in
    let a = f rest at l w.place w.here in
    rw (a.0, a.1) (on w.place (drop (w.place - at) l) e w.on)

-- a value that is judged by its use: where the judgement lets it pass, to where it ends, and lets it pass with 01 for its 00
pub value_passes : (vectors : ℕ) (role : Use) (judge : ℕ → List ℕ → Answer Value → Answer ℕ)
    → ((at : ℕ) (l : List ℕ) (v : Answer Value) (q : ℕ) → judge at l v ≡ Ok q → value_step v ≡ Ok q)
    → ((at : ℕ) (l m : List ℕ) (t n first stop : ℕ) → present vectors role at l ≡ whole t n first stop → judge at l (whole t n first stop) ≡ Ok stop
    → judge at (one_for (take (stop - at) l) ++ m) (whole (code_for t) n first stop) ≡ Ok stop)
    → Passes (λ at l. judge at l (present vectors role at l)) (value_one vectors role)
value_passes vectors role judge passed ones rest at l q h = by_value (present vectors role at l) refl h
  where
    new : List ℕ
    new = value_one vectors role rest at l

    by_value : (v : Answer Value) → present vectors role at l ≡ v → judge at l v ≡ Ok q
        → (judge at new (present vectors role at new) ≡ Ok q) × (drop (q - at) new ≡ rest q (drop (q - at) l)) × (at ≤ q)
    by_value (Err r) p e = let none = passed at l (Err r) q e in let z : ◌≡◌ {A = ℕ} 0 1 = cc in absurd (omega arith)
    by_value (Ok v) p e =
        let i = rw p at (present_inside vectors role at l) in
        let ends = passed at l (whole v.code v.len v.first v.stop) q e in
        let k : v.stop ≡ q = cc in
        let m = rest v.stop (drop (v.stop - at) l) in
        let judged : judge at l (whole v.code v.len v.first v.stop) ≡ Ok v.stop = e ∙ ap Ok (sym k) in (
          rw (value_one_there vectors role rest at l v.code v.len v.first v.stop p, present_ones vectors role at l m v.code v.len v.first v.stop p)
              (ones at l m v.code v.len v.first v.stop p judged ∙ ap Ok k),
          rw k at (drop_value_one vectors role rest at l v.code v.len v.first v.stop p),
          omega (arith, i.0, i.1),
        )

-- a sound value: ID, an INFO value
soundly_same : (role : Use) (at : ℕ) (l : List ℕ) (v : Answer Value) (q : ℕ) → value_step (soundly 0 role at l v) ≡ Ok q → soundly 0 role at l v ≡ v
soundly_same role at l (Err r) q h = refl
soundly_same role at l (Ok v) q h = by-elements (judged (most_of role 0 v.code) v.code v.len (take (v.stop - v.first) (drop (v.first - at) l))) h
  where
    by-elements : (j : Answer (Unit {0})) → value_step (judged_from v.first (whole v.code v.len v.first v.stop) j) ≡ Ok q
        → judged_from v.first (whole v.code v.len v.first v.stop) j ≡ whole v.code v.len v.first v.stop
    by-elements Sound e = refl
    by-elements (Err r) e = cc

sound_passes : (role : Use) → Passes (λ at l. value_step (sound 1 0 role at l)) (value_one 1 role)
unfolding sound
sound_passes role =
    value_passes 1 role (λ at l v. value_step (soundly 0 role at l v)) (λ at l v q h. rw (soundly_same role at l v q h) at h)
    (λ at l m t n first stop p h.
    ap value_step (soundly_ones 1 0 role at l m t n first stop p (soundly_same role at l (whole t n first stop) stop h)))

-- an allele
allele_ones : (at : ℕ) (l m : List ℕ) (t n first stop : ℕ) → present 1 Allele at l ≡ whole t n first stop
    → allele_value at l (whole t n first stop) ≡ Ok stop → allele_value at (one_for (take (stop - at) l) ++ m) (whole (code_for t) n first stop) ≡ Ok stop
allele_ones at l m t n first stop p h =
    let i = rw p at (present_inside 1 Allele at l) in
    rw (part_ones at first stop l m i.0 i.1 i.2) h

allele_passes : Passes allele (value_one 1 Allele)
unfolding allele
allele_passes = value_passes 1 Allele allele_value (λ at l v q. allele_value_lem at l v {q = q}) allele_ones

-- FILTER
filtered_none : (strings t : ℕ) → filtered strings t [] ≡ Sound
unfolding filtered filters shown_numbers
filtered_none strings t = rw (zero-div (width_of t))

filtered_ones : (strings at : ℕ) (l : List ℕ) (t n first stop : ℕ) → present 1 Filter at l ≡ whole t n first stop
    → filtered strings (code_for t) (take (stop - first) (drop (first - at) l)) ≡ filtered strings t (take (stop - first) (drop (first - at) l))
filtered_ones strings at l t n first stop h = by_type (eqb t 0) refl
  where
    part : List ℕ
    part = take (stop - first) (drop (first - at) l)

    by_type : (b : Bool) → eqb t 0 ≡ b → filtered strings (pick b 1 t) part ≡ filtered strings t part
    by_type true e =
        let z = eqb-true t 0 e in
        let b = present_zero 1 Filter at l n first stop (rw z at h) in
        let none : stop - first ≡ 0 = omega (arith, b.1) in
        rw (none, filtered_none strings 1, filtered_none strings t)
    by_type false e = refl

filter_ones : (strings at : ℕ) (l m : List ℕ) (t n first stop : ℕ) → present 1 Filter at l ≡ whole t n first stop
    → filter_value strings at l (whole t n first stop) ≡ Ok stop
    → filter_value strings at (one_for (take (stop - at) l) ++ m) (whole (code_for t) n first stop) ≡ Ok stop
filter_ones strings at l m t n first stop p h =
    let i = rw p at (present_inside 1 Filter at l) in
    rw (part_ones at first stop l m i.0 i.1 i.2, filtered_ones strings at l t n first stop p) h

filter_passes : (strings : ℕ) → Passes (filter strings) (value_one 1 Filter)
unfolding filter
filter_passes strings = value_passes 1 Filter (filter_value strings) (λ at l v q. filter_value_lem strings at l v {q = q}) (filter_ones strings)

-- a key that is there, as it is, before what becomes of its value
pub pair_one_there : (vectors : ℕ) (role : Use) (rest : Onward) (at : ℕ) (l : List ℕ) (key next : ℕ) → integer at l ≡ one key next
    → pair_one vectors role rest at l ≡ take (next - at) l ++ value_one vectors role rest next (drop (next - at) l)
unfolding pair_one
pair_one_there vectors role rest at l key next h = rw h

-- a way to read keys: what it finds is an integer, and stays so whatever follows
pub record Keys (key : ℕ → List ℕ → Answer Integer) : Type 0 where
  pub front : (at : ℕ) (l m : List ℕ) (x next : ℕ) → key at l ≡ one x next → key at (take (next - at) l ++ m) ≡ one x (at + (next - at))
  pub number : (at : ℕ) (l : List ℕ) (x next : ℕ) → key at l ≡ one x next → integer at l ≡ one x next

pub keys_integer : Keys integer
keys_integer = record { front = λ at l m x next h. integer_front at at l m x next h; number = λ at l x next h. h }

keys_keyed : (strings : ℕ) → Keys (keyed strings)
keys_keyed strings = record { front = λ at l m x next h. keyed_front strings at at l m x next h; number = keyed_integer strings }

-- past a key, and on
abbrev pub on_key : (ℕ → ℕ → List ℕ → Answer ℕ) → ℕ → List ℕ → Answer Integer → Answer ℕ
on_key next at l (Err r) = Err r
on_key next at l (Ok i) = next i.bits i.next (drop (i.next - at) l)

-- a key and its value
pub pair_passes : (vectors : ℕ) (role : Use) (key : ℕ → List ℕ → Answer Integer) (value : ℕ → ℕ → List ℕ → Answer ℕ) → Keys key
    → ((x : ℕ) → Passes (value x) (value_one vectors role)) → Passes (λ at l. on_key value at l (key at l)) (pair_one vectors role)
pair_passes vectors role key value keys passes rest at l q h = by_key (key at l) refl h
  where
    new : List ℕ
    new = pair_one vectors role rest at l

    by_key : (i : Answer Integer) → key at l ≡ i → on_key value at l i ≡ Ok q
        → (on_key value at new (key at new) ≡ Ok q) × (drop (q - at) new ≡ rest q (drop (q - at) l)) × (at ≤ q)
    by_key (Err r) p e = let z : ◌≡◌ {A = ℕ} 0 1 = cc in absurd (omega arith)
    by_key (Ok i') p e =
        let l1 = drop (i'.next - at) l in
        let m = value_one vectors role rest i'.next l1 in
        let there = keys.number at l i'.bits i'.next p in
        let i = rw there at (integer_inside at l) in
        let a = passes i'.bits rest i'.next l1 q e in
        let split = pair_one_there vectors role rest at l i'.bits i'.next there in
        let here : at + (i'.next - at) ≡ i'.next = omega (arith, i.0) in
        let behind : drop (i'.next - at) (take (i'.next - at) l ++ m) ≡ m =
        drop_at (take (i'.next - at) l) m (i'.next - at) (length-take-le (i'.next - at) l (omega (arith, i.0, i.1))) in
        let later : at ≤ i'.next = omega (arith, i.0) in
        let rest_of : drop (q - at) (take (i'.next - at) l ++ m) ≡ rest q (drop (q - at) l) =
        sym (drop_past (take (i'.next - at) l ++ m) at i'.next q later a.2) ∙ ap (drop (q - i'.next)) behind ∙ a.1
        ∙ ap (rest q) (drop_past l at i'.next q later a.2) in
        (rw (split, keys.front at l m i'.bits i'.next p, here, behind) a.0, rw split rest_of, omega (arith, i.0, a.2))

-- an INFO pair
info_key_lem : (at : ℕ) (l : List ℕ) (i : Answer Integer) → on_key (λ x at l. value_step (sound 1 0 Info at l)) at l i ≡ info_value at l i
info_key_lem at l (Err r) = refl
info_key_lem at l (Ok i) = refl

info_passes : (strings : ℕ) → Passes (info strings) (pair_one 1 Info)
unfolding info
info_passes strings rest at l q h =
    let a = pair_passes 1 Info (keyed strings) (λ x at l. value_step (sound 1 0 Info at l)) (keys_keyed strings) (λ x. sound_passes Info) rest at l q
    (info_key_lem at l (keyed strings at l) ∙ h) in
    (sym (info_key_lem at _ (keyed strings at _)) ∙ a.0, a.1, a.2)

-- the law: a site block that is read to its last byte is so with 01 in place of each bare 00
pub site_ones : (strings people alleles infos at : ℕ) (l : List ℕ) (e : ℕ) → site strings alleles infos at l ≡ Ok e
    → site strings alleles infos at (ones_of people (site_kinds alleles infos) at l) ≡ Ok e
unfolding site
site_ones strings people alleles infos at l e h =
    ap (λ (w : Onward). site strings alleles infos at (w at l)) (site_form people alleles infos)
    ∙ then_passes (λ at l. value_step (sound 1 0 Id at l)) (value_one 1 Id) _ _ (sound_passes Id)
    (λ p fromAlleles. then_passes (times allele alleles) (repeated (value_one 1 Allele) alleles) _ _ (times_passes allele (value_one 1 Allele) allele_passes alleles)
    (λ q fromFilter. then_passes (filter strings) (value_one 1 Filter) _ _ (filter_passes strings)
    (λ r fromInfo. then_passes (times (info strings) infos) (repeated (pair_one 1 Info) infos) _ _
    (times_passes (info strings) (pair_one 1 Info) (info_passes strings) infos)
    (λ x m e k. k) r fromInfo)
    q fromFilter)
    p fromAlleles)
    at l e h
