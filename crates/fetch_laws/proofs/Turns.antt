-- Fields that are judged one after the other: where that comes to, that each of them is in the account, and that reading's judgement of the site block
-- is just this, on every list. Rests on specs/InTurn, proofs/There and the definition of site.
use mathlib.Core.Path.{◌≡◌, refl, sym, ◌∙◌, ap}
use mathlib.Core.List.{List, [], ◌∷◌, ◌++◌, map}
use Prim.Native.Nat.{ℕ, zero, suc, ◌+◌, ◌-◌, ◌≤◌}
use native.Mathlib.Nat.{sub_self}
use native.Mathlib.Omega.{arith}
use lib.ListN.{length, drop, replicate, length-drop}
use Rattle.facts.specs.declared.Facts.{Facts}
use Rattle.fixed.specs.declared.Site.{Site}
use Rattle.site.specs.Steps.{then, times, ended}
use Rattle.site.specs.Alleles.{allele}
use Rattle.site.specs.Filters.{filter}
use Rattle.site.specs.Site.{site}
use Rattle.fetch.specs.Fields.{field_at, FoundInside}
use Rattle.fetch.specs.Account.{entered, fields_of, site_kinds}
use Rattle.fetch.specs.Engine.{field_step, passing}
use Rattle.fetch.specs.declared.Kind.{Kind}
use Rattle.fetch.specs.declared.Kind.TheVariants.{Id, Allele, Filter, Info}
use Rattle.fetch.proofs.Account.{then_same}
use Rattle.fetch.proofs.Inside.{StepLater, field_inside, then_later, drop_past}
use Rattle.fetch_laws.specs.InTurn.{judging, in_turn}
use Rattle.fetch_laws.proofs.Agree.{went}
use Rattle.fetch.specs.declared.Found.{Found}
use Rattle.std.specs.Prelude.{Ok, Err}
use Rattle.values.specs.Answers.{Answer}
use Rattle.fetch_laws.proofs.There.{judged_passed, judged_later}

-- a judgement does not go back, nor do judgements in turn
pub judging_later : (f : Facts) (t : Site) (kind : Kind) (at : ℕ) (l : List ℕ) → StepLater at (judging f t kind at l)
judging_later f t kind at l = by-step (judging f t kind at l) refl
  where
    by-step : (p : Answer ℕ) → judging f t kind at l ≡ p → StepLater at p
    by-step (Err r) h = tt
    by-step (Ok q) h = judged_later f t kind at l q h

turns_later : (f : Facts) (t : Site) (kinds : List Kind) (at : ℕ) (l : List ℕ) → StepLater at (in_turn (judging f t) kinds at l)
unfolding in_turn
turns_later f t [] at l = omega arith
turns_later f t (kind ∷ kinds) at l =
    then_later at l (judging f t kind at l) (in_turn (judging f t) kinds) (judging_later f t kind at l) (turns_later f t kinds)

-- a step that is taken from a later place comes on from there
pub then_on : (at q : ℕ) (l : List ℕ) (p : Answer ℕ) (next : ℕ → List ℕ → Answer ℕ) → at ≤ q → StepLater q p
    → then at l p next ≡ then q (drop (q - at) l) p next
then_on at q l (Err r) next h k = refl
then_on at q l (Ok e) next h k = rw (drop_past l at q e h k)

-- two steps and then a third
then_then : (at : ℕ) (l : List ℕ) (p : Answer ℕ) (on next : ℕ → List ℕ → Answer ℕ) → StepLater at p → ((q : ℕ) (m : List ℕ) → StepLater q (on q m))
    → then at l (then at l p on) next ≡ then at l p (λ q m. then q m (on q m) next)
then_then at l (Err r) on next h k = refl
then_then at l (Ok q) on next h k = then_on at q l (on q (drop (q - at) l)) next h (k q (drop (q - at) l))

-- a field, and then the others
one_first : (f : Facts) (t : Site) (kind : Kind) (kinds : List Kind) (at : ℕ) (l : List ℕ) (next : ℕ → List ℕ → Answer ℕ)
    → then at l (in_turn (judging f t) (kind ∷ kinds) at l) next
    ≡ then at l (judging f t kind at l) (λ q m. then q m (in_turn (judging f t) kinds q m) next)
unfolding in_turn
one_first f t kind kinds at l next =
    then_then at l (judging f t kind at l) (in_turn (judging f t) kinds) next (judging_later f t kind at l) (turns_later f t kinds)

-- so many fields of a kind, and then the others
times_later : (f : Facts) (t : Site) (kind : Kind) (n at : ℕ) (l : List ℕ) → StepLater at (times (judging f t kind) n at l)
unfolding times
times_later f t kind zero at l = omega arith
times_later f t kind (suc n) at l =
    then_later at l (judging f t kind at l) (times (judging f t kind) n) (judging_later f t kind at l) (times_later f t kind n)

many_first : (f : Facts) (t : Site) (kind : Kind) (n : ℕ) (kinds : List Kind) (at : ℕ) (l : List ℕ) (next : ℕ → List ℕ → Answer ℕ)
    → then at l (in_turn (judging f t) (replicate n kind ++ kinds) at l) next
    ≡ then at l (times (judging f t kind) n at l) (λ q m. then q m (in_turn (judging f t) kinds q m) next)
unfolding times
many_first f t kind zero kinds at l next = rw (sub_self at)
many_first f t kind (suc n) kinds at l next =
    one_first f t kind (replicate n kind ++ kinds) at l next
    ∙ then_same at l (judging f t kind at l) _ _ (λ q m. many_first f t kind n kinds q m next)
    ∙ sym (then_then at l (judging f t kind at l) (times (judging f t kind) n) (λ q m. then q m (in_turn (judging f t) kinds q m) next) (judging_later f t kind at l) (times_later f t kind n))

-- so many fields of a kind are judged as so many steps
turns_times : (f : Facts) (t : Site) (kind : Kind) (n at : ℕ) (l : List ℕ)
    → in_turn (judging f t) (replicate n kind) at l ≡ times (judging f t kind) n at l
unfolding in_turn times
turns_times f t kind zero at l = refl
turns_times f t kind (suc n) at l = then_same at l (judging f t kind at l) _ _ (turns_times f t kind n)

-- the law: on every list, reading's judgement of the site block is that of each field in turn, and then that no byte is over; refusals included
pub site_in_turn : (f : Facts) (t : Site) (at : ℕ) (l : List ℕ)
    → site f.strings t.alleles t.infos at l ≡ then at l (in_turn (judging f t) (site_kinds t.alleles t.infos) at l) ended
unfolding site site_kinds
site_in_turn f t at l =
    let infos = replicate t.infos Info in
    sym
    (one_first f t Id (replicate t.alleles Allele ++ (Filter ∷ infos)) at l ended
    ∙ then_same at l (judging f t Id at l) _ _
    (λ p m. many_first f t Allele t.alleles (Filter ∷ infos) p m ended
    ∙ then_same p m (times allele t.alleles p m) _ _
    (λ q j. one_first f t Filter infos q j ended
    ∙ then_same q j (filter f.strings q j) _ _ (λ r k. ap (λ (x : Answer ℕ). then r k x ended) (turns_times f t Info t.infos r k)))))

-- fields that are judged in turn end later, and inside their block
judged_within : (f : Facts) (t : Site) (kind : Kind) (at : ℕ) (l : List ℕ) (q : ℕ) → judging f t kind at l ≡ Ok q
    → (at ≤ q) × (q ≤ at + length l)
unfolding passing
judged_within f t kind at l q h =
    by_field (field_at kind f.people at l) (field_inside kind f.people at l) (judged_passed f t kind at l q h)
  where
    by_field : (r : Answer Found) → FoundInside at (at + length l) r → field_step r ≡ Ok q → (at ≤ q) × (q ≤ at + length l)
    by_field (Err r) i e = let z : ◌≡◌ {A = ℕ} 0 1 = cc in absurd (omega arith)
    by_field (Ok x) i e = let z : x.stop ≡ q = cc in (omega arith, omega arith)

pub turns_within : (f : Facts) (t : Site) (kinds : List Kind) (at : ℕ) (l : List ℕ) {e : ℕ} → in_turn (judging f t) kinds at l ≡ Ok e
    → (at ≤ e) × (e ≤ at + length l)
unfolding in_turn
turns_within f t [] at l {e} h = let z : at ≡ e = cc in (omega arith, omega arith)
turns_within f t (kind ∷ kinds) at l {e} h =
    let w = went at l (judging f t kind at l) (in_turn (judging f t) kinds) h in
    let i = judged_within f t kind at l w.place w.here in
    let j = rw (length-drop (w.place - at) l) at (turns_within f t kinds w.place (drop (w.place - at) l) w.on) in
    (omega (arith, i, j), omega (arith, i, j))

-- and each of them is in the account
pub turns_there : (f : Facts) (t : Site) (kinds : List Kind) (at : ℕ) (l : List ℕ) {e : ℕ} → in_turn (judging f t) kinds at l ≡ Ok e
    → map (λ x. x.kind) (fields_of f.people kinds at l) ≡ kinds
unfolding in_turn fields_of passing
turns_there f t [] at l h = refl
turns_there f t (kind ∷ kinds) at l h =
    let w = went at l (judging f t kind at l) (in_turn (judging f t) kinds) h in
    by_field (field_at kind f.people at l) (turns_there f t kinds w.place (drop (w.place - at) l) w.on) (judged_passed f t kind at l w.place w.here)
  where
    by_field : (r : Answer Found) {q : ℕ} → map (λ x. x.kind) (fields_of f.people kinds q (drop (q - at) l)) ≡ kinds → field_step r ≡ Ok q
        → map (λ x. x.kind) (entered kind at l (fields_of f.people kinds) r) ≡ kind ∷ kinds
    by_field (Err r) on e = cc
    by_field (Ok x) {q} on e = let z : x.stop ≡ q = cc in rw z (ap (λ (ks : List Kind). kind ∷ ks) on)
