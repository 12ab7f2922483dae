-- The values of a site block that is read to its last byte, as they are shown: ID, alleles, FILTER and INFO pairs keep the builder's rules, and are
-- written in no more bytes than they stand in. Rests on proofs/Values, on the definitions of site and on contents' fields as they are shown.
use mathlib.Core.Path.{◌≡◌, refl, ◌∙◌, sym, ap}
use mathlib.Core.List.{List, [], ◌∷◌, map}
use mathlib.Core.Logic.{◌≢◌}
use mathlib.Core.Bool.{Bool, true, false}
use Prim.Native.Nat.{ℕ, zero, suc, ◌+◌, ◌-◌, ◌<◌, ◌≤◌}
use native.Mathlib.Omega.{arith}
use lib.Dec.{eqb}
use lib.ListN.{length, take, drop, replicate, length-append, length-drop}
use lib.Seq.{length-take-le, take-take}
use Rattle.words.specs.Lists.{among}
use Rattle.words.specs.Pick.{pick}
use Rattle.words.specs.Words.{Bytes, outside}
use Rattle.types.specs.Rows.{width_of}
use Rattle.types.specs.declared.Use.TheVariants.{Id, Allele, Filter, Info}
use Rattle.values.specs.Values.{keyed, present}
use Rattle.vectors.specs.Vectors.{unsound, elements_of, Sound}
use Rattle.vectors.specs.Sound.{sound}
use Rattle.site.specs.Steps.{times, value_step, judged_step, no_step}
use Rattle.site.specs.Alleles.{allele, allele_value, allele_bytes}
use Rattle.site.specs.Filters.{filter, filter_value, filters, filtered}
use Rattle.site.specs.Site.{info, info_value}
use Rattle.encode.specs.Encode.{integer_bytes}
use Rattle.shown.specs.Shown.{integers, text, Pair, kind_of}
use Rattle.build_given.specs.Given.{number_of, filters_number, allele_number}
use Rattle.shown.specs.Values.{given_bytes, pair_bytes}
use Rattle.build_rules.specs.Values.{any, given_as, given_number}
use Rattle.fetch.specs.Fields.{alone, paired}
use Rattle.fetch.specs.declared.Kind.TheVariants.{Allele as AlleleKind, Info as InfoKind}
use Rattle.fetch.proofs.Inside.{present_inside, drop_past, integer_inside}
use Rattle.fetch_laws.proofs.Agree.{sound_there, sound_judged, went}
use Rattle.fetch_laws.proofs.FormatFields.{keyed_integer}
use Rattle.contents.proofs.Elements.{elements_of_take}
use Rattle.contents.proofs.Blocks.{bytes_of, pair_of, items_of}
use Rattle.build_laws.specs.Records.{All, Fit, KeepsAllele, KeepsInfo}
use Rattle.shown.specs.Records.{joined, text_bytes, info_bytes}
use Rattle.build_laws.proofs.Values.{number_filters}
use Rattle.choose_laws.proofs.Stored.{Bytes_drop}
use Rattle.keeps_laws.proofs.Descriptors.{key_keeps, not_outside}
use Rattle.values.specs.declared.Value.{Value}
use Rattle.std.specs.Prelude.{Err, Ok}
use Rattle.values.specs.declared.Integer.{Integer}
use Rattle.values.specs.Answers.{Answer, one, whole}
use Rattle.keeps_laws.proofs.Values.{elements_from, value_there, value_keeps, id_text, allele_text, filter_types, text_part, there_takes}

-- a value that a step went past
record Past (v : Answer Value) (q : ℕ) : Type 0 where
  code : ℕ
  len : ℕ
  first : ℕ
  there : v ≡ whole code len first q

value_past : (v : Answer Value) (q : ℕ) → value_step v ≡ Ok q → Past v q
value_past (Err r) q h = let z : ◌≡◌ {A = ℕ} 0 1 = cc in absurd (omega arith)
value_past (Ok v) q h = let e : v.stop ≡ q = cc in record { code = v.code; len = v.len; first = v.first; there = rw (← e) }

-- ID
pub record IdKeeps (at : ℕ) (l : List ℕ) (q : ℕ) : Type 0 where
  pub code : ℕ
  pub len : ℕ
  pub first : ℕ
  pub there : present 1 Id at l ≡ whole code len first q
  pub fit : Fit text (elements_from at l code first q)
  pub rules : given_number any text (length (elements_from at l code first q)) (elements_from at l code first q) ≡ 0
  pub long : length (text_bytes (elements_from at l code first q)) + length (drop (q - at) l) ≤ length l

pub id_keeps : (at : ℕ) (l : List ℕ) (q : ℕ) → value_step (sound 1 0 Id at l) ≡ Ok q → Bytes l → IdKeeps at l q
id_keeps at l q h b =
    let p = value_past (sound 1 0 Id at l) q h in
    let t = p.code in
    let n = p.len in
    let first = p.first in
    let here = sound_there 1 0 Id at l t n first q p.there in
    let k = value_keeps 1 0 Id at l t n first q here b (sound_judged 1 0 Id at l t n first q p.there) in
    let seven = id_text 1 at l t n first q here b in
    let same : kind_of t ≡ text = rw seven in
    let count : n ≡ length (elements_from at l t first q) = omega (arith, k.value.count) in
    record {
      code = t;
      len = n;
      first = first;
      there = here;
      fit = rw same at k.value.fit;
      rules = rw (same, count) at k.rules;
      long = rw (same, count) at k.long;
    }

-- an allele
record Alleled (at : ℕ) (l : List ℕ) (q : ℕ) : Type 0 where
  code : ℕ
  len : ℕ
  first : ℕ
  there : present 1 Allele at l ≡ whole code len first q
  some : eqb len 0 ≡ false
  sound : allele_bytes 0 (take (q - first) (drop (first - at) l)) ≡ Sound

alleled : (at : ℕ) (l : List ℕ) (q : ℕ) → allele at l ≡ Ok q → Alleled at l q
unfolding allele
alleled at l q h = by_value (present 1 Allele at l) refl h
  where
    by-elements : (t n first stop : ℕ) (b : Bool) (j : Answer (Unit {0})) → present 1 Allele at l ≡ whole t n first stop → eqb n 0 ≡ b
        → allele_bytes 0 (take (stop - first) (drop (first - at) l)) ≡ j → pick b (no_step 7 at) (judged_step first stop j) ≡ Ok q → Alleled at l q
    by-elements t n first stop true j p s k e = let z : ◌≡◌ {A = ℕ} 0 1 = cc in absurd (omega arith)
    by-elements t n first stop false (Err r) p s k e = let z : ◌≡◌ {A = ℕ} 0 1 = cc in absurd (omega arith)
    by-elements t n first stop false Sound p s k e =
        let same : stop ≡ q = cc in
        record { code = t; len = n; first = first; there = rw same at p; some = s; sound = rw same at k }

    by_value : (v : Answer Value) → present 1 Allele at l ≡ v → allele_value at l v ≡ Ok q → Alleled at l q
    by_value (Err r) p e = let z : ◌≡◌ {A = ℕ} 0 1 = cc in absurd (omega arith)
    by_value (Ok v) p e =
        by-elements v.code v.len v.first v.stop (eqb v.len 0) (allele_bytes 0 (take (v.stop - v.first) (drop (v.first - at) l))) p refl refl e

record AlleleKeeps (at : ℕ) (l : List ℕ) (q code first : ℕ) : Type 0 where
  keeps : KeepsAllele (elements_from at l code first q)
  long : length (text_bytes (elements_from at l code first q)) + length (drop (q - at) l) ≤ length l

allele_keeps : (at : ℕ) (l : List ℕ) (q : ℕ) → Bytes l → (a : Alleled at l q) → AlleleKeeps at l q a.code a.first
unfolding allele_number
allele_keeps at l q b a = of a.code a.len a.first (allele_text 1 at l a.code a.len a.first q a.there b) a.there a.some a.sound
  where
    of : (t n first : ℕ) → t ≡ 7 → present 1 Allele at l ≡ whole t n first q → eqb n 0 ≡ false
        → allele_bytes 0 (take (q - first) (drop (first - at) l)) ≡ Sound → AlleleKeeps at l q t first
    of t n first seven here some sound =
        let v = value_there 1 Allele at l t n first q here b in
        let same : kind_of t ≡ text = rw seven in
        let count : n ≡ length (elements_from at l t first q) = omega (arith, v.count) in
        let part : elements_from at l t first q ≡ take (q - first) (drop (first - at) l) = rw seven (text_part 1 Allele at l n first q (rw seven at here) b) in
        record {
          keeps = record { fit = rw same at v.fit; some = rw count at some; rules = ap (λ xs. number_of (allele_bytes 0 xs)) part ∙ ap number_of sound };
          long = rw (same, count) at (v.long (λ e. absurd (of_text same e)));
        }
      where
        of_text : kind_of t ≡ text → given_as (kind_of t) ≢ 3
        of_text same e = let z = rw same at e in omega arith

-- so many alleles, as they are shown
abbrev pub alleles_at : ℕ → ℕ → List ℕ → List (List ℕ)
alleles_at n at l = map bytes_of (items_of 1 (replicate n AlleleKind) at l)

pub record Alleles (n at : ℕ) (l : List ℕ) (q : ℕ) : Type 0 where
  pub count : length (alleles_at n at l) ≡ n
  pub keep : All KeepsAllele (alleles_at n at l)
  pub long : length (joined text_bytes (alleles_at n at l)) + length (drop (q - at) l) ≤ length l
  pub later : at ≤ q

pub alleles_keep : (n at : ℕ) (l : List ℕ) (q : ℕ) → times allele n at l ≡ Ok q → Bytes l → Alleles n at l q
unfolding times items_of alone joined
alleles_keep zero at l q h b =
    let e : at ≡ q = cc in
    let none : q - at ≡ 0 = omega arith in
    record { count = refl; keep = tt; long = rw none (omega arith); later = omega arith }
alleles_keep (suc n) at l q h b =
    let w = went at l (allele at l) (times allele n) h in
    let p = w.place in
    let l1 = drop (p - at) l in
    let a = alleled at l p w.here in
    let k = allele_keeps at l p b a in
    let on = alleles_keep n p l1 q w.on (Bytes_drop (p - at) l b) in
    let i = rw a.there at (present_inside 1 Allele at l) in
    let later : at ≤ p = omega (arith, i.0, i.1) in
    let xs = elements_from at l a.code a.first p in
    let behind = drop_past l at p q later on.later in
    let shows : alleles_at (suc n) at l ≡ xs ∷ alleles_at n p l1 = rw a.there in
    record {
      count = ap length shows ∙ ap suc on.count;
      keep = rw shows (k.keeps, on.keep);
      long = rw (shows, length-append (text_bytes xs) (joined text_bytes (alleles_at n p l1))) (omega (arith, k.long, rw behind at on.long));
      later = omega (arith, on.later);
    }

-- FILTER: each is an offset, so no negative number
filters_inside : (strings w at : ℕ) (earlier xs : List ℕ) → filters strings w at earlier xs ≡ Sound → All (λ x. x < 0x80000000) xs
unfolding filters
filters_inside strings w at earlier [] h = tt
filters_inside strings w at earlier (x ∷ xs) h =
    by_tests (outside strings x) (among x earlier) refl h (filters_inside strings w (at + w) (x ∷ earlier) xs)
  where
    rest : Answer (Unit {0})
    rest = filters strings w (at + w) (x ∷ earlier) xs

    by_tests : (a b : Bool) → outside strings x ≡ a → pick a (unsound 8 at) (pick b (unsound 11 at) rest) ≡ Sound
        → (rest ≡ Sound → All (λ x. x < 0x80000000) xs) → (x < 0x80000000) × All (λ x. x < 0x80000000) xs
    by_tests true b p e on = let z : ◌≡◌ {A = ℕ} 0 1 = cc in absurd (omega arith)
    by_tests false true p e on = let z : ◌≡◌ {A = ℕ} 0 1 = cc in absurd (omega arith)
    by_tests false false p e on = (not_outside strings x p, on e)

record Filtered (strings at : ℕ) (l : List ℕ) (q : ℕ) : Type 0 where
  code : ℕ
  len : ℕ
  first : ℕ
  there : present 1 Filter at l ≡ whole code len first q
  sound : filtered strings code (take (q - first) (drop (first - at) l)) ≡ Sound

filtered_there : (strings at : ℕ) (l : List ℕ) (q : ℕ) → filter strings at l ≡ Ok q → Filtered strings at l q
unfolding filter
filtered_there strings at l q h = by_value (present 1 Filter at l) refl h
  where
    by-elements : (t n first stop : ℕ) (j : Answer (Unit {0})) → present 1 Filter at l ≡ whole t n first stop
        → filtered strings t (take (stop - first) (drop (first - at) l)) ≡ j → judged_step first stop j ≡ Ok q → Filtered strings at l q
    by-elements t n first stop (Err r) p k e = let z : ◌≡◌ {A = ℕ} 0 1 = cc in absurd (omega arith)
    by-elements t n first stop Sound p k e =
        let same : stop ≡ q = cc in
        record { code = t; len = n; first = first; there = rw same at p; sound = rw same at k }

    by_value : (v : Answer Value) → present 1 Filter at l ≡ v → filter_value strings at l v ≡ Ok q → Filtered strings at l q
    by_value (Err r) p e = let z : ◌≡◌ {A = ℕ} 0 1 = cc in absurd (omega arith)
    by_value (Ok v) p e = by-elements v.code v.len v.first v.stop (filtered strings v.code (take (v.stop - v.first) (drop (v.first - at) l))) p refl e

-- the elements that were judged are those that are shown
filtered_shown : (strings at : ℕ) (l : List ℕ) (t n first stop : ℕ) → present 1 Filter at l ≡ whole t n first stop
    → filtered strings t (take (stop - first) (drop (first - at) l)) ≡ filters strings (width_of t) 0 [] (elements_from at l t first stop)
unfolding filtered elements_of
filtered_shown strings at l t n first stop h =
    let i = rw h at (present_inside 1 Filter at l) in
    let rest = drop (first - at) l in
    let part = take (stop - first) rest in
    let size : length part ≡ stop - first = length-take-le (stop - first) rest (rw length-drop (omega (arith, i.0, i.1, i.2))) in
    let same : elements_of t (stop - first) part ≡ elements_of t (stop - first) rest =
    elements_of_take t (stop - first) part rest (take-take (stop - first) (stop - first) rest (omega arith)) in
    rw size (ap (filters strings (width_of t) 0 []) same)

pub record FilterKeeps (strings at : ℕ) (l : List ℕ) (q : ℕ) : Type 0 where
  pub code : ℕ
  pub len : ℕ
  pub first : ℕ
  pub there : present 1 Filter at l ≡ whole code len first q
  pub fit : Fit integers (elements_from at l code first q)
  pub rules : filters_number strings (elements_from at l code first q) ≡ 0
  pub long : length (given_bytes integers (length (elements_from at l code first q)) (elements_from at l code first q)) + length (drop (q - at) l) ≤ length l
  pub later : at ≤ q

pub filter_keeps : (strings at : ℕ) (l : List ℕ) (q : ℕ) → filter strings at l ≡ Ok q → Bytes l → FilterKeeps strings at l q
unfolding filters_number
filter_keeps strings at l q h b =
    let f = filtered_there strings at l q h in
    let t = f.code in
    let n = f.len in
    let first = f.first in
    let v = value_there 1 Filter at l t n first q f.there b in
    let i = rw f.there at (present_inside 1 Filter at l) in
    let types = filter_types 1 at l t n first q f.there b in
    let same = types.1 in
    let xs = elements_from at l t first q in
    let count : n ≡ length xs = omega (arith, v.count) in
    let sound = sym (filtered_shown strings at l t n first q f.there) ∙ f.sound in
    let takes = there_takes 1 Filter at l t n first q f.there b types.0 (filters_inside strings (width_of t) 0 [] xs sound) in
    record {
      code = t;
      len = n;
      first = first;
      there = f.there;
      fit = rw same at v.fit;
      rules = ap number_of (number_filters strings (width_of t) 0 0 0 [] xs (ap number_of sound));
      long = rw (same, count) at (v.long (λ e. takes));
      later = omega (arith, i.0, i.1);
    }

-- an INFO pair
record Paired (strings at : ℕ) (l : List ℕ) (q : ℕ) : Type 0 where
  key : ℕ
  next : ℕ
  code : ℕ
  len : ℕ
  first : ℕ
  number : keyed strings at l ≡ one key next
  value : sound 1 0 Info next (drop (next - at) l) ≡ whole code len first q

pair_there : (strings at : ℕ) (l : List ℕ) (q : ℕ) → info strings at l ≡ Ok q → Paired strings at l q
unfolding info
pair_there strings at l q h = by_key (keyed strings at l) refl h
  where
    by_key : (i : Answer Integer) → keyed strings at l ≡ i → info_value at l i ≡ Ok q → Paired strings at l q
    by_key (Err r) p e = let z : ◌≡◌ {A = ℕ} 0 1 = cc in absurd (omega arith)
    by_key (Ok i) p e =
        let v = value_past (sound 1 0 Info i.next (drop (i.next - at) l)) q e in
        record { key = i.bits; next = i.next; code = v.code; len = v.len; first = v.first; number = p; value = v.there }

-- the pair that is shown
abbrev pair_at : ℕ → List ℕ → ℕ → ℕ → ℕ → ℕ → ℕ → Pair
pair_at at l key next t first stop =
    record { key = key; value = record { kind = kind_of t; elements = elements_from next (drop (next - at) l) t first stop } }

record PairKeeps (strings at : ℕ) (l : List ℕ) (q key next t first : ℕ) : Type 0 where
  keeps : KeepsInfo strings (pair_at at l key next t first q)
  long : length (info_bytes (pair_at at l key next t first q)) + length (drop (q - at) l) ≤ length l
  elements : drop (first - next) (drop (next - at) l) ≡ drop (first - at) l

pair_keeps : (strings at : ℕ) (l : List ℕ) (q : ℕ) → Bytes l → (p : Paired strings at l q)
    → PairKeeps strings at l q p.key p.next p.code p.first
unfolding pair_bytes
pair_keeps strings at l q b p =
    let key = p.key in
    let next = p.next in
    let t = p.code in
    let n = p.len in
    let first = p.first in
    let l1 = drop (next - at) l in
    let i = rw (keyed_integer strings at l key next p.number) at (integer_inside at l) in
    let here = sound_there 1 0 Info next l1 t n first q p.value in
    let j = rw here at (present_inside 1 Info next l1) in
    let c = key_keeps strings at l key next p.number b in
    let k = value_keeps 1 0 Info next l1 t n first q here (Bytes_drop (next - at) l b) (sound_judged 1 0 Info next l1 t n first q p.value) in
    let xs = elements_from next l1 t first q in
    let count : n ≡ length xs = omega (arith, k.value.count) in
    let later : at ≤ next = omega (arith, i.0) in
    let behind = drop_past l at next q later (omega (arith, j.0, j.1)) in
    let long : length (given_bytes (kind_of t) (length xs) xs) + length (drop (q - at) l) ≤ length l1 = rw (count, behind) at k.long in
    record {
      keeps = record { fit = k.value.fit; key = c.bits; inside = c.inside; rules = rw count at k.rules };
      long = rw (length-append (integer_bytes key) (given_bytes (kind_of t) (length xs) xs)) (omega (arith, c.long));
      elements = drop_past l at next first later (omega (arith, j.0));
    }

-- so many INFO pairs, as they are shown
abbrev pub pairs_at : ℕ → ℕ → List ℕ → List Pair
pairs_at n at l = map pair_of (items_of 1 (replicate n InfoKind) at l)

pub record Pairs (strings n at : ℕ) (l : List ℕ) : Type 0 where
  pub count : length (pairs_at n at l) ≡ n
  pub keep : All (KeepsInfo strings) (pairs_at n at l)
  pub long : length (joined info_bytes (pairs_at n at l)) ≤ length l

pub pairs_keep : (strings n at : ℕ) (l : List ℕ) (q : ℕ) → times (info strings) n at l ≡ Ok q → Bytes l → Pairs strings n at l
unfolding times items_of paired joined
pairs_keep strings zero at l q h b = record { count = refl; keep = tt; long = omega arith }
pairs_keep strings (suc n) at l q h b =
    let w = went at l (info strings at l) (times (info strings) n) h in
    let stop = w.place in
    let p = pair_there strings at l stop w.here in
    let k = pair_keeps strings at l stop b p in
    let rest = drop (stop - at) l in
    let on = pairs_keep strings n stop rest q w.on (Bytes_drop (stop - at) l b) in
    let here = sound_there 1 0 Info p.next (drop (p.next - at) l) p.code p.len p.first stop p.value in
    let x = pair_at at l p.key p.next p.code p.first stop in
    let shows : pairs_at (suc n) at l ≡ x ∷ pairs_at n stop rest =
    rw (keyed_integer strings at l p.key p.next p.number, here, k.elements) in
    let both = length-append (info_bytes x) (joined info_bytes (pairs_at n stop rest)) in
    record {
      count = ap length shows ∙ ap suc on.count;
      keep = rw shows (k.keeps, on.keep);
      long = rw (shows, both) (omega (arith, k.long, on.long));
    }
