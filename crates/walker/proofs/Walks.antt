-- A walker yields the pairs that fetching numbers, in order. Rests on specs/Walk and on fetching's definitions.
use mathlib.Core.Path.{◌≡◌, refl, sym, ◌∙◌, ap}
use mathlib.Core.List.{List, []}
use mathlib.Core.Bool.{Bool, true, false}
use Prim.Native.Nat.{ℕ, zero, suc, ◌+◌, ◌-◌, ◌≤◌, ◌<◌}
use native.Mathlib.Nat.{zero-add, suc-add}
use native.Mathlib.Omega.{arith}
use lib.Dec.{ltb}
use lib.ListN.{length, take, drop}
use borrow.Author.Tests.{le-ltb, ltb-true, ltb-false}
use Rattle.words.specs.Words.{number}
use Rattle.words.proofs.Places.{drop_on}
use Rattle.types.specs.declared.Use.TheVariants.{Info}
use Rattle.values.specs.Values.{integer}
use Rattle.fixed.specs.Layout.{id_at, field}
use Rattle.facts.specs.declared.Facts.{Facts}
use Rattle.fixed.specs.declared.Site.{Site}
use Rattle.site.specs.Site.{info}
use Rattle.site.specs.Steps.{then, times}
use Rattle.genotypes.specs.declared.Gt.{Gt}
use Rattle.record.specs.Reading.{reading, site_of, accepted_as}
use Rattle.record.proofs.Accepted.{accepted, accepted_fits}
use Rattle.fetch_laws.proofs.Agree.{went, times_passed, info_passed}
use Rattle.fetch.proofs.Inside.{passing_later, past_later}
use Rattle.fetch_laws.proofs.There.{judged_passed, Walk, site_walk, found_in_lem, found_none}
use Rattle.fetch.specs.Fields.{paired, field_at}
use Rattle.fetch.specs.Engine.{field_step, passing, past, to_info, to_field, field_in}
use Rattle.fetch.specs.Account.{account, of_kind, numbered}
use Rattle.fetch.specs.Fetch.{field_of, found}
use Rattle.fetch.specs.declared.Kind.TheVariants.{Filter, Info as InfoKind}
use Rattle.walker.specs.declared.Pair.{Pair}
use Rattle.fetch.specs.declared.Found.{Found}
use Rattle.std.specs.Prelude.{Ok, Err, Option, None}
use Rattle.values.proofs.Held.{held}
use Rattle.values.specs.Answers.{Answer}
use Rattle.walker.specs.Walk.{as_pair, pair_in, pair_at, after_pair, next_at, walked_to, first_after, opened}

-- a pair is the field that fetching finds there
pub pair_field_lem : (at : ℕ) (l : List ℕ) → pair_in at l ≡ as_pair (paired 1 Info at l)
unfolding pair_in
pair_field_lem at l = refl

-- in a record whose site block is all lent
pub pair_lent : (s : List ℕ) (at : ℕ) → 8 ≤ length s → 8 + number 4 s ≤ length s
    → pair_at s at ≡ as_pair (paired 1 Info at (drop at (take (8 + number 4 s) s)))
unfolding pair_at
pair_lent s at h e = rw (le-ltb _ _ h, le-ltb _ _ e) (pair_field_lem at (drop at (take (8 + number 4 s) s)))

-- past a field is past the pair
step_pair : (f : Answer Found) (at q : ℕ) → field_step f ≡ Ok q → after_pair (as_pair f) at ≡ q
step_pair (Err r) at q h = cc
step_pair (Ok x) at q h = cc

-- past n pairs: where fetching's steps come to is where the walker stands
pub walk_past : (s : List ℕ) (people n at : ℕ) {q : ℕ} → 8 ≤ length s → 8 + number 4 s ≤ length s
    → past InfoKind people n at (drop at (take (8 + number 4 s) s)) ≡ Ok q → walked_to s n at ≡ q
unfolding past times walked_to passing
walk_past s people zero at h e g = cc
walk_past s people (suc n) at {q} h e g =
    let block = take (8 + number 4 s) s in
    let w = went at (drop at block) (passing InfoKind people at (drop at block)) (past InfoKind people n) g in
    let l = rw w.here at (passing_later InfoKind people at (drop at block)) in
    let m : next_at s at ≡ w.place = ap (λ (p : Option Pair). after_pair p at) (pair_lent s at h e) ∙ step_pair (paired 1 Info at (drop at block)) at w.place w.here in
    rw m (walk_past s people n w.place h e (rw (drop_on block at w.place l) at w.on))

-- of an accepted record the site block is all lent, and ends where the site says
pub record Lents (t : Site) (s : List ℕ) : Type 0 where
  pub some : 8 ≤ length s
  pub border : t.border ≡ 8 + number 4 s
  pub lent : 8 + number 4 s ≤ length s

pub accepted_lent : (f : Facts) (s : List ℕ) (t : Site) (g : Gt) → reading f s ≡ accepted_as t g → Lents t s
unfolding field
accepted_lent f s t g h =
    let x = accepted_fits f s t g h in
    let a = x.border in
    let b = x.whole in
    let c = x.there in
    let d = x.site in
    record { some = omega arith; border = sym a; lent = omega arith }

-- where fewer fields lead, when more are passed
record Reached (people m at : ℕ) (l : List ℕ) : Type 0 where
  place : ℕ
  here : past InfoKind people m at l ≡ Ok place

reached : (people m n at : ℕ) (l : List ℕ) {e : ℕ} → past InfoKind people n at l ≡ Ok e → m ≤ n → Reached people m at l
unfolding past times
reached people zero n at l h q = record { place = at; here = refl }
reached people (suc m) zero at l h q = absurd (omega arith)
reached people (suc m) (suc n) at l h q =
    let w = went at l (passing InfoKind people at l) (past InfoKind people n) h in
    let r = reached people m n w.place (drop (w.place - at) l) w.on (omega arith) in
    record { place = r.place; here = ap (λ (p : Answer ℕ). then at l p (past InfoKind people m)) w.here ∙ r.here }

-- what fetching finds at the place that its steps lead to
found_at : (f : Facts) (s : List ℕ) (t : Site) (g : Gt) (q n r : ℕ) → reading f s ≡ accepted_as t g → n < t.infos
    → to_info t.alleles id_at (drop id_at (take t.border s)) ≡ Ok q → id_at ≤ q
    → past InfoKind f.people n q (drop q (take t.border s)) ≡ Ok r → q ≤ r
    → found f InfoKind n s ≡ paired 1 Info r (drop r (take t.border s))
unfolding field_in to_field
found_at f s t g q n r h i a b p c =
    let block = take t.border s in
    let d : id_at ≤ r = omega arith in
    found_in_lem f InfoKind n s t g h i ∙ rw (a, drop_on block id_at q b, p, drop_on block id_at r d)

-- opening leads to where FILTER ends
step_after : (f : Answer Found) {q : ℕ} → field_step f ≡ Ok q → first_after f ≡ Ok q
step_after (Err r) h = cc
step_after (Ok x') h = let e = held h in rw e

pub opened_first : (f : Facts) (s : List ℕ) (t : Site) (g : Gt) → reading f s ≡ accepted_as t g
    → (w : Walk f t id_at (drop id_at (take t.border s))) → opened f s ≡ Ok w.infos
unfolding opened found field_in to_field past times passing
opened_first f s t g h w =
    let l = drop id_at (take t.border s) in
    let there : field_of Filter 0 t s ≡ field_at Filter f.people w.filters (drop (w.filters - id_at) l) =
    rw h at (found_in_lem f Filter 0 s t g h (omega arith)) ∙ rw w.to_filters in
    rw (h, there)
    (step_after (field_at Filter f.people w.filters (drop (w.filters - id_at) l))
    (judged_passed f t Filter w.filters (drop (w.filters - id_at) l) w.infos w.filter_judged))

-- an accepted record's pairs: where they begin, that they are passed, and that nothing is over after the last
record Pairs (f : Facts) (t : Site) (s : List ℕ) (q : ℕ) : Type 0 where
  last : ℕ
  begin : to_info t.alleles id_at (drop id_at (take t.border s)) ≡ Ok q
  later : id_at ≤ q
  passed : past InfoKind f.people t.infos q (drop q (take t.border s)) ≡ Ok last
  over : drop last (take t.border s) ≡ []

pairs_of : (f : Facts) (s : List ℕ) (t : Site) (g : Gt) (q : ℕ) → reading f s ≡ accepted_as t g → opened f s ≡ Ok q → Pairs f t s q
unfolding site_of past
pairs_of f s t g q h o =
    let block = take t.border s in
    let l = drop id_at block in
    let w = site_walk f t id_at l (accepted f s t g h).block in
    let k : w.infos ≡ q = held (sym (opened_first f s t g h w) ∙ o) in
    let p = times_passed (info f.strings) (passing InfoKind f.people) (info_passed f.strings f.people) t.infos w.infos (drop (w.infos - id_at) l) w.infos_judged in
    let x = rw (drop_on block id_at w.infos w.infos_later) at p in
    let c : w.infos ≤ w.last = rw x at (past_later InfoKind f.people t.infos w.infos (drop w.infos block)) in
    let v = rw (drop_on block id_at w.infos w.infos_later, drop_on block w.infos w.last c) at w.none_over in
    record { last = w.last; begin = rw k at w.to_infos; later = rw k at w.infos_later; passed = rw k at x; over = v }

-- the law: on an accepted record the walk from where it opens yields the INFO pairs that fetching numbers, in order
pub walk_finds : (f : Facts) (s : List ℕ) (t : Site) (g : Gt) (q n : ℕ) → reading f s ≡ accepted_as t g → opened f s ≡ Ok q → n < t.infos
    → pair_at s (walked_to s n q) ≡ as_pair (found f InfoKind n s)
walk_finds f s t g q n h o i =
    let w = pairs_of f s t g q h o in
    let block = take t.border s in
    let r = reached f.people n t.infos q (drop q block) w.passed (omega arith) in
    let c : q ≤ r.place = rw r.here at (past_later InfoKind f.people n q (drop q block)) in
    let z = accepted_lent f s t g h in
    let here = ap (λ (e : ℕ). past InfoKind f.people n q (drop q (take e s))) (sym z.border) ∙ r.here in
    ap (pair_at s) (walk_past s f.people n q z.some z.lent here)
    ∙ pair_lent s r.place z.some z.lent
    ∙ ap (λ (e : ℕ). as_pair (paired 1 Info r.place (drop r.place (take e s)))) (sym z.border)
    ∙ ap as_pair (sym (found_at f s t g q n r.place h i w.begin w.later r.here c))

-- and then the end
pub walk_ends : (f : Facts) (s : List ℕ) (t : Site) (g : Gt) (q : ℕ) → reading f s ≡ accepted_as t g → opened f s ≡ Ok q
    → pair_at s (walked_to s t.infos q) ≡ None
unfolding paired integer
walk_ends f s t g q h o =
    let w = pairs_of f s t g q h o in
    let z = accepted_lent f s t g h in
    let here = ap (λ (e : ℕ). past InfoKind f.people t.infos q (drop q (take e s))) (sym z.border) ∙ w.passed in
    ap (pair_at s) (walk_past s f.people t.infos q z.some z.lent here)
    ∙ pair_lent s w.last z.some z.lent
    ∙ ap (λ (e : ℕ). as_pair (paired 1 Info w.last (drop w.last (take e s)))) (sym z.border)
    ∙ ap (λ (l : List ℕ). as_pair (paired 1 Info w.last l)) w.over

-- at the end it stays
walked_on : (s : List ℕ) (n m at : ℕ) → walked_to s (n + m) at ≡ walked_to s m (walked_to s n at)
unfolding walked_to
walked_on s zero m at = rw (zero-add m)
walked_on s (suc n) m at = rw (suc-add n m) (walked_on s n m (next_at s at))

walked_stays : (s : List ℕ) (n at : ℕ) → pair_at s at ≡ None → walked_to s n at ≡ at
unfolding walked_to
walked_stays s zero at h = refl
walked_stays s (suc n) at h = rw h (walked_stays s n at h)

-- so the n-th pair that a walk yields is the n-th INFO field of the account, for every n; and where there is none, the end
pub walk_account : (f : Facts) (s : List ℕ) (t : Site) (g : Gt) (q n : ℕ) → reading f s ≡ accepted_as t g → opened f s ≡ Ok q
    → pair_at s (walked_to s n q) ≡ as_pair (numbered n (of_kind InfoKind (account t s)))
unfolding field_of found
walk_account f s t g q n h o = by_count (ltb n t.infos) refl
  where
    by_count : (b : Bool) → ltb n t.infos ≡ b → pair_at s (walked_to s n q) ≡ as_pair (numbered n (of_kind InfoKind (account t s)))
    by_count true i = rw h at (walk_finds f s t g q n h o (ltb-true n t.infos i))
    by_count false i =
        let k = ltb-false n t.infos i in
        let e : t.infos + (n - t.infos) ≡ n = omega arith in
        let last = walk_ends f s t g q h o in
        let there = walked_on s t.infos (n - t.infos) q ∙ walked_stays s (n - t.infos) (walked_to s t.infos q) last in
        ap (pair_at s) (rw e at there) ∙ last ∙ ap as_pair (sym (rw h at (found_none f InfoKind n s t g h k)))
