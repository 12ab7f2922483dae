-- The order of turns allows nothing else than the turns of one record. Rests on proofs/Steps, by the stage that each turn leads to.
use mathlib.Core.Path.{◌≡◌, refl, ◌∙◌, sym, ap}
use mathlib.Core.List.{List, [], ◌∷◌, ◌++◌, map}
use Prim.Native.Nat.{ℕ, ◌<◌, ◌≤◌}
use native.Mathlib.Omega.{arith}
use lib.ListN.{length}
use Rattle.facts.specs.declared.Facts.{Facts}
use Rattle.shown.specs.Shown.{Shown, Pair, Field}
use Rattle.build_rules.specs.Rules.{format_order, wrong_allele, wrong_begin, wrong_end, wrong_filter, wrong_id, wrong_info}
use Rattle.build.specs.Order.{rank}
use Rattle.build.specs.Turns.{fresh_state, begin_number, id_number, allele_rules, filter_rules, info_key, info_rules, format_count, format_rules, end_number}
use Rattle.build.specs.declared.Builder.{Builder}
use Rattle.build_append.proofs.Numbers.{first_zero}
use Rattle.build_laws.specs.Runs.{Turn, begin, id, allele, filter, info, format, end, Run, turns_of, shown_as, giving, gives, Finished}
use Rattle.build_laws.proofs.Steps.{turn_number, run_none, run_first}
use Rattle.build_laws.proofs.Stands.{order_zero}

-- the stages after which a turn may come
abbrev low : Turn → ℕ
low (begin c p r q) = 0
low (id xs) = 1
low (allele xs) = 2
low (filter xs) = 3
low (info p) = 4
low (format x) = 4
low end = 4

abbrev high : Turn → ℕ
high (begin c p r q) = 0
high (id xs) = 1
high (allele xs) = 3
high (filter xs) = 3
high (info p) = 5
high (format x) = 6
high end = 6

turn_order : (f : Facts) (st : Builder) (room : ℕ) (x : Turn) → turn_number f st room x ≡ 0 → (low x ≤ rank st.stage) × (rank st.stage ≤ high x)
unfolding begin_number wrong_begin id_number wrong_id allele_rules wrong_allele filter_rules wrong_filter info_key wrong_info info_rules format_count format_order format_rules end_number wrong_end
turn_order f st room (begin c p r q) h = order_zero 0 0 st.stage (first_zero _ _ h).0
turn_order f st room (id xs) h = order_zero 1 1 st.stage (first_zero _ _ (first_zero _ _ h).0).0
turn_order f st room (allele xs) h = order_zero 2 3 st.stage (first_zero _ _ (first_zero _ _ h).0).0
turn_order f st room (filter xs) h = order_zero 3 3 st.stage (first_zero _ _ (first_zero _ _ h).0).0
turn_order f st room (info p) h = order_zero 4 5 st.stage (first_zero _ _ (first_zero _ _ (first_zero _ _ h).0).0).0
turn_order f st room (format x) h = order_zero 4 6 st.stage (first_zero _ _ (first_zero _ _ (first_zero _ _ h).0).0).0
turn_order f st room end h = order_zero 4 6 st.stage (first_zero _ _ h).0

run_order : {f : Facts} {st last : Builder} {buf out : List ℕ} {x : Turn} {xs : List Turn} → Run f st buf (x ∷ xs) last out
    → (low x ≤ rank st.stage) × (rank st.stage ≤ high x)
run_order {f} {st} {last} {buf} {out} {x} {xs} run = turn_order f st (length buf) x (run_first run).0

-- what turns to the end are, from each stage on
record Fields (xs : List Turn) : Type 0 where
  fields : List Field
  turns : xs ≡ map format fields ++ (end ∷ [])

record Pairs (xs : List Turn) : Type 0 where
  pairs : List Pair
  fields : List Field
  turns : xs ≡ map info pairs ++ (map format fields ++ (end ∷ []))

record Listed (from : ℕ) (xs : List Turn) : Type 0 where
  alleles : List (List ℕ)
  filters : List ℕ
  pairs : List Pair
  fields : List Field
  some : from < 3 → 0 < length alleles
  turns : xs ≡ map allele alleles ++ (filter filters ∷ (map info pairs ++ (map format fields ++ (end ∷ []))))

record Identified (xs : List Turn) : Type 0 where
  name : List ℕ
  list : List Turn
  listed : Listed 2 list
  turns : xs ≡ id name ∷ list

pub record Ordered (xs : List Turn) : Type 0 where
  pub shown : Shown
  pub some : 0 < length shown.alleles
  pub turns : xs ≡ turns_of shown

ended_none : {f : Facts} {st last : Builder} {buf out : List ℕ} (xs : List Turn) → rank st.stage ≡ 7 → Run f st buf xs last out → xs ≡ []
ended_none {f} {st} {last} {buf} {out} [] h run = refl
ended_none {f} {st} {last} {buf} {out} (begin c p r q ∷ xs) h run = absurd (omega (arith, (run_order run).1))
ended_none {f} {st} {last} {buf} {out} (id ys ∷ xs) h run = absurd (omega (arith, (run_order run).1))
ended_none {f} {st} {last} {buf} {out} (allele ys ∷ xs) h run = absurd (omega (arith, (run_order run).1))
ended_none {f} {st} {last} {buf} {out} (filter ys ∷ xs) h run = absurd (omega (arith, (run_order run).1))
ended_none {f} {st} {last} {buf} {out} (info p ∷ xs) h run = absurd (omega (arith, (run_order run).1))
ended_none {f} {st} {last} {buf} {out} (format y ∷ xs) h run = absurd (omega (arith, (run_order run).1))
ended_none {f} {st} {last} {buf} {out} (end ∷ xs) h run = absurd (omega (arith, (run_order run).1))

run_fields : {f : Facts} {last : Builder} {out : List ℕ} (xs : List Turn) {st : Builder} {buf : List ℕ} → rank st.stage ≡ 6 → rank last.stage ≡ 7
    → Run f st buf xs last out → Fields xs
run_fields {f} {last} {out} [] {st} {buf} h e run = let z = rw (run_none run).0 at e in absurd (omega arith)
run_fields {f} {last} {out} (begin c p r q ∷ xs) {st} {buf} h e run = absurd (omega (arith, (run_order run).1))
run_fields {f} {last} {out} (id ys ∷ xs) {st} {buf} h e run = absurd (omega (arith, (run_order run).1))
run_fields {f} {last} {out} (allele ys ∷ xs) {st} {buf} h e run = absurd (omega (arith, (run_order run).1))
run_fields {f} {last} {out} (filter ys ∷ xs) {st} {buf} h e run = absurd (omega (arith, (run_order run).1))
run_fields {f} {last} {out} (info p ∷ xs) {st} {buf} h e run = absurd (omega (arith, (run_order run).1))
run_fields {f} {last} {out} (format y ∷ xs) {st} {buf} h e run =
    let more = run_fields xs refl e (run_first run).1 in
    record { fields = y ∷ more.fields; turns = ap (λ zs. format y ∷ zs) more.turns }
run_fields {f} {last} {out} (end ∷ xs) {st} {buf} h e run =
    record { fields = []; turns = ap (λ zs. end ∷ zs) (ended_none xs refl (run_first run).1) }

run_pairs : {f : Facts} {last : Builder} {out : List ℕ} (xs : List Turn) {st : Builder} {buf : List ℕ} → (4 ≤ rank st.stage) × (rank st.stage ≤ 5) → rank last.stage ≡ 7
    → Run f st buf xs last out → Pairs xs
run_pairs {f} {last} {out} [] {st} {buf} h e run = let z = rw (run_none run).0 at e in absurd (omega arith)
run_pairs {f} {last} {out} (begin c p r q ∷ xs) {st} {buf} h e run = absurd (omega (arith, (run_order run).1))
run_pairs {f} {last} {out} (id ys ∷ xs) {st} {buf} h e run = absurd (omega (arith, (run_order run).1))
run_pairs {f} {last} {out} (allele ys ∷ xs) {st} {buf} h e run = absurd (omega (arith, (run_order run).1))
run_pairs {f} {last} {out} (filter ys ∷ xs) {st} {buf} h e run = absurd (omega (arith, (run_order run).1))
run_pairs {f} {last} {out} (info p ∷ xs) {st} {buf} h e run =
    let more = run_pairs xs (omega arith, omega arith) e (run_first run).1 in
    record { pairs = p ∷ more.pairs; fields = more.fields; turns = ap (λ zs. info p ∷ zs) more.turns }
run_pairs {f} {last} {out} (format y ∷ xs) {st} {buf} h e run =
    let more = run_fields xs refl e (run_first run).1 in
    record { pairs = []; fields = y ∷ more.fields; turns = ap (λ zs. format y ∷ zs) more.turns }
run_pairs {f} {last} {out} (end ∷ xs) {st} {buf} h e run =
    record { pairs = []; fields = []; turns = ap (λ zs. end ∷ zs) (ended_none xs refl (run_first run).1) }

run_listed : {f : Facts} {last : Builder} {out : List ℕ} (xs : List Turn) {st : Builder} {buf : List ℕ} → (2 ≤ rank st.stage) × (rank st.stage ≤ 3) → rank last.stage ≡ 7
    → Run f st buf xs last out → Listed (rank st.stage) xs
run_listed {f} {last} {out} [] {st} {buf} h e run = let z = rw (run_none run).0 at e in absurd (omega arith)
run_listed {f} {last} {out} (begin c p r q ∷ xs) {st} {buf} h e run = absurd (omega (arith, (run_order run).1))
run_listed {f} {last} {out} (id ys ∷ xs) {st} {buf} h e run = absurd (omega (arith, (run_order run).1))
run_listed {f} {last} {out} (allele ys ∷ xs) {st} {buf} h e run =
    let more = run_listed xs (omega arith, omega arith) e (run_first run).1 in
    record {
      alleles = ys ∷ more.alleles;
      filters = more.filters;
      pairs = more.pairs;
      fields = more.fields;
      some = λ k. omega arith;
      turns = ap (λ zs. allele ys ∷ zs) more.turns;
    }
run_listed {f} {last} {out} (filter ys ∷ xs) {st} {buf} h e run =
    let o = (run_order run).0 in
    let more = run_pairs xs (omega arith, omega arith) e (run_first run).1 in
    record {
      alleles = [];
      filters = ys;
      pairs = more.pairs;
      fields = more.fields;
      some = λ k. absurd (omega arith);
      turns = ap (λ zs. filter ys ∷ zs) more.turns;
    }
run_listed {f} {last} {out} (info p ∷ xs) {st} {buf} h e run = absurd (omega (arith, (run_order run).0))
run_listed {f} {last} {out} (format y ∷ xs) {st} {buf} h e run = absurd (omega (arith, (run_order run).0))
run_listed {f} {last} {out} (end ∷ xs) {st} {buf} h e run = absurd (omega (arith, (run_order run).0))

run_identified : {f : Facts} {st last : Builder} {buf out : List ℕ} (xs : List Turn) → rank st.stage ≡ 1 → rank last.stage ≡ 7
    → Run f st buf xs last out → Identified xs
run_identified {f} {st} {last} {buf} {out} [] h e run = let z = rw (run_none run).0 at e in absurd (omega arith)
run_identified {f} {st} {last} {buf} {out} (begin c p r q ∷ xs) h e run = absurd (omega (arith, (run_order run).1))
run_identified {f} {st} {last} {buf} {out} (id ys ∷ xs) h e run =
    record { name = ys; list = xs; listed = run_listed xs (omega arith, omega arith) e (run_first run).1; turns = refl }
run_identified {f} {st} {last} {buf} {out} (allele ys ∷ xs) h e run = absurd (omega (arith, (run_order run).0))
run_identified {f} {st} {last} {buf} {out} (filter ys ∷ xs) h e run = absurd (omega (arith, (run_order run).0))
run_identified {f} {st} {last} {buf} {out} (info p ∷ xs) h e run = absurd (omega (arith, (run_order run).0))
run_identified {f} {st} {last} {buf} {out} (format y ∷ xs) h e run = absurd (omega (arith, (run_order run).0))
run_identified {f} {st} {last} {buf} {out} (end ∷ xs) h e run = absurd (omega (arith, (run_order run).0))

-- the law: they are the turns of one record
run_ordered : {f : Facts} {st last : Builder} {buf out : List ℕ} (xs : List Turn) → rank st.stage ≡ 0 → rank last.stage ≡ 7
    → Run f st buf xs last out → Ordered xs
unfolding turns_of
run_ordered {f} {st} {last} {buf} {out} [] h e run = let z = rw (run_none run).0 at e in absurd (omega arith)
run_ordered {f} {st} {last} {buf} {out} (begin c p r q ∷ xs) h e run =
    let named = run_identified xs refl e (run_first run).1 in
    let more = named.listed in
    record {
      shown = shown_as c p r q named.name more.alleles more.filters more.pairs more.fields;
      some = more.some (omega arith);
      turns = ap (λ zs. begin c p r q ∷ zs) (named.turns ∙ ap (λ zs. id named.name ∷ zs) more.turns);
    }
run_ordered {f} {st} {last} {buf} {out} (id ys ∷ xs) h e run = absurd (omega (arith, (run_order run).0))
run_ordered {f} {st} {last} {buf} {out} (allele ys ∷ xs) h e run = absurd (omega (arith, (run_order run).0))
run_ordered {f} {st} {last} {buf} {out} (filter ys ∷ xs) h e run = absurd (omega (arith, (run_order run).0))
run_ordered {f} {st} {last} {buf} {out} (info p ∷ xs) h e run = absurd (omega (arith, (run_order run).0))
run_ordered {f} {st} {last} {buf} {out} (format y ∷ xs) h e run = absurd (omega (arith, (run_order run).0))
run_ordered {f} {st} {last} {buf} {out} (end ∷ xs) h e run = absurd (omega (arith, (run_order run).0))

-- the turns of a record give it
abbrev blocks : List (List ℕ) → List ℕ → List Pair → List Field → Shown
blocks alleles filters pairs fields = shown_as 0 0 0 0 [] alleles filters pairs fields

gives_fields : (fields : List Field) → gives (map format fields ++ (end ∷ [])) ≡ blocks [] [] [] fields
unfolding gives
gives_fields [] = refl
gives_fields (x ∷ fields) = ap (giving (format x)) (gives_fields fields)

gives_pairs : (pairs : List Pair) (fields : List Field) → gives (map info pairs ++ (map format fields ++ (end ∷ []))) ≡ blocks [] [] pairs fields
unfolding gives
gives_pairs [] fields = gives_fields fields
gives_pairs (p ∷ pairs) fields = ap (giving (info p)) (gives_pairs pairs fields)

gives_listed : (alleles : List (List ℕ)) (filters : List ℕ) (pairs : List Pair) (fields : List Field)
    → gives (map allele alleles ++ (filter filters ∷ (map info pairs ++ (map format fields ++ (end ∷ []))))) ≡ blocks alleles filters pairs fields
unfolding gives
gives_listed [] filters pairs fields = ap (giving (filter filters)) (gives_pairs pairs fields)
gives_listed (xs ∷ alleles) filters pairs fields = ap (giving (allele xs)) (gives_listed alleles filters pairs fields)

pub gives_turns_of : (r : Shown) → gives (turns_of r) ≡ r
unfolding gives turns_of
gives_turns_of r =
    ap (λ (s : Shown). giving (begin r.chrom r.pos r.rlen r.qual) (giving (id r.id) s))
    (gives_listed r.alleles r.filters r.infos r.formats)

-- so turns to the end are those of what they give
pub finished_ordered : (f : Facts) (xs : List Turn) (buf : List ℕ) → Finished f xs buf → Ordered xs
unfolding fresh_state
finished_ordered f xs buf done = run_ordered xs refl (rw done.ended) done.run

pub turns_ordered : (f : Facts) (xs : List Turn) (buf : List ℕ) → Finished f xs buf → xs ≡ turns_of (gives xs)
turns_ordered f xs buf done =
    let o = finished_ordered f xs buf done in
    o.turns ∙ ap turns_of (sym (ap gives o.turns ∙ gives_turns_of o.shown))
