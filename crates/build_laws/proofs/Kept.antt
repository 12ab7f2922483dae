-- What turns that are all taken to the end give keeps the rules, and has room; and the turns of a record that keeps them are as their types
-- say. Rests on proofs/Segments for each kind of turn and on proofs/Ordered.
use mathlib.Core.Path.{◌≡◌, ◌∙◌, ap}
use mathlib.Core.List.{List, [], ◌∷◌, ◌++◌, map}
use Prim.Native.Nat.{ℕ, ◌<◌, ◌≤◌}
use native.Mathlib.Omega.{arith}
use native.Mathlib.Nat.{zero-add}
use lib.ListN.{length, length-append}
use Rattle.fixed.specs.Layout.{most_bytes}
use Rattle.facts.specs.declared.Facts.{Facts}
use Rattle.shown.specs.Shown.{Shown, Pair, Field}
use Rattle.build.specs.Turns.{fresh_state}
use Rattle.build.specs.declared.Builder.{Builder}
use Rattle.build_laws.specs.Records.{All, KeepsAllele, KeepsInfo, KeepsFields, Keeps}
use Rattle.shown.specs.Records.{joined, format_bytes, genotype_bytes, record_bytes}
use Rattle.build_laws.specs.Runs.{Turn, allele, info, format, end, Run, turns_of, gives, FitTurn, Finished}
use Rattle.build_laws.proofs.Blocks.{length_person}
use Rattle.build_laws.proofs.Front.{length_record_bytes}
use Rattle.build_laws.proofs.Stands.{id_back, filter_back}
use Rattle.build_laws.proofs.Segments.{alleles_back, infos_back, formats_back, begin_back}
use Rattle.build_laws.proofs.Ordered.{gives_turns_of, finished_ordered}
use Rattle.build_laws.proofs.Written.{length_wholly}

-- the turns of two lists, and turns of one kind
fit_append : (xs ys : List Turn) → All FitTurn (xs ++ ys) → All FitTurn xs × All FitTurn ys
fit_append [] ys h = (tt, h)
fit_append (x ∷ xs) ys h = let on = fit_append xs ys h.1 in ((h.0, on.0), on.1)

fit_map : {A : Type 0} (g : A → Turn) (xs : List A) → All FitTurn (map g xs) → All (λ x. FitTurn (g x)) xs
fit_map g [] h = tt
fit_map g (x ∷ xs) h = (h.0, fit_map g xs h.1)

-- the turns of a record that are all taken
turns_kept : {last : Builder} {out : List ℕ} (f : Facts) (r : Shown) (buf : List ℕ) → 0 < length r.alleles → Run f fresh_state buf (turns_of r) last out
    → All FitTurn (turns_of r) → Keeps f r × (length (record_bytes f.people r) ≤ length buf)
unfolding turns_of
turns_kept f r buf some run fit =
    let listed = fit_append (map allele r.alleles) _ fit.1.1 in
    let paired = fit_append (map info r.infos) _ listed.1.1 in
    let fielded = fit_append (map format r.formats) _ paired.1 in
    let begun = begin_back run in
    let named = id_back begun.2 in
    let alleled = alleles_back r.alleles (fit_map allele r.alleles listed.0) (omega arith) named.1 named.2 in
    let filtered = filter_back alleled.3 in
    let sited = infos_back r.infos (fit_map info r.infos paired.0) (omega arith) filtered.1 filtered.2 in
    let whole = formats_back r.formats (fit_map format r.formats fielded.0) (omega arith) sited.2 sited.3 in
    let n = length_wholly f.people r in (
      record {
        bits = fit.0;
        fields = begun.0;
        id_fit = fit.1.0;
        id = named.0;
        some = some;
        alleles_most = omega (arith, alleled.1);
        alleles = alleled.0;
        filters_fit = listed.1.0;
        filters = filtered.0;
        infos_most = omega (arith, sited.1);
        infos = sited.0;
        formats_most = omega (arith, whole.2);
        people = whole.1;
        formats = rw (zero-add (length r.alleles)) at whole.0;
        most = rw n at whole.3.0;
      },
      rw n at whole.3.1,
    )

finished_kept : (f : Facts) (xs : List Turn) (buf : List ℕ) → Finished f xs buf → All FitTurn xs
    → Keeps f (gives xs) × (length (record_bytes f.people (gives xs)) ≤ length buf)
finished_kept f xs buf done fit =
    let o = finished_ordered f xs buf done in
    let e : gives xs ≡ o.shown = ap gives o.turns ∙ gives_turns_of o.shown in
    rw e (turns_kept f o.shown buf o.some (rw o.turns at done.run) (rw o.turns at fit))

-- the laws
pub turns_keep : (f : Facts) (xs : List Turn) (buf : List ℕ) → Finished f xs buf → All FitTurn xs → Keeps f (gives xs)
turns_keep f xs buf done fit = (finished_kept f xs buf done fit).0

pub turns_room : (f : Facts) (xs : List Turn) (buf : List ℕ) → Finished f xs buf → All FitTurn xs
    → length (record_bytes f.people (gives xs)) ≤ length buf
turns_room f xs buf done fit = (finished_kept f xs buf done fit).1

-- the turns of a record that keeps the rules are as the types of their parameters say
fit_join : (xs ys : List Turn) → All FitTurn xs → All FitTurn ys → All FitTurn (xs ++ ys)
fit_join [] ys h k = k
fit_join (x ∷ xs) ys h k = (h.0, fit_join xs ys h.1 k)

alleles_fit : (xs : List (List ℕ)) → All KeepsAllele xs → All FitTurn (map allele xs)
alleles_fit [] k = tt
alleles_fit (x ∷ xs) k = (k.0.fit, alleles_fit xs k.1)

infos_fit : (strings : ℕ) (xs : List Pair) → All (KeepsInfo strings) xs → All FitTurn (map info xs)
infos_fit strings [] k = tt
infos_fit strings (x ∷ xs) k = ((k.0.key, k.0.fit), infos_fit strings xs k.1)

formats_fit : (f : Facts) (alleles : ℕ) (earlier : List ℕ) (xs : List Field) → (0 < length xs → 0 < f.people) → KeepsFields f alleles earlier xs
    → length (joined format_bytes xs) ≤ most_bytes → All FitTurn (map format xs)
unfolding joined
formats_fit f alleles earlier [] p k h = tt
formats_fit f alleles earlier (x ∷ xs) p k h =
    let people : 0 < f.people = p (omega arith) in
    let n = length-append (format_bytes x) (joined format_bytes xs) in
    let len = length_person f alleles earlier x people k.0 (omega arith) in
    ((k.0.key, omega arith, k.0.fit), formats_fit f alleles (earlier ++ (x.key ∷ [])) xs (λ _. people) k.1 (omega arith))

pub turns_fit : (f : Facts) (r : Shown) → Keeps f r → All FitTurn (turns_of r)
unfolding turns_of genotype_bytes
turns_fit f r k =
    let n = length_record_bytes f.people r in
    let m = k.most in
    let formats = formats_fit f (length r.alleles) [] r.formats k.people k.formats (omega arith) in
    let infos = infos_fit f.strings r.infos k.infos in
    let rest = fit_join (map info r.infos) _ infos (fit_join (map format r.formats) (end ∷ []) formats (tt, tt)) in
    (k.bits, (k.id_fit, fit_join (map allele r.alleles) _ (alleles_fit r.alleles k.alleles) (k.filters_fit, rest)))
