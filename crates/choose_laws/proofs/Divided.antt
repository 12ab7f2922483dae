-- The tallies of a division: what is summed over the people is the sum over the one choice and the sum over the other, and so the calls of
-- a record are those of its two parts together. Rests on specs/Divisions, on choose's parts and on the laws of a tally.
use mathlib.Core.Path.{◌≡◌, refl, sym, ◌∙◌}
use mathlib.Core.List.{List, [], ◌∷◌, ◌++◌, map}
use mathlib.Core.Bool.{Bool, true, false}
use Prim.Native.Nat.{ℕ, zero, suc, ◌+◌, ◌*◌, ◌<◌, ◌≤◌}
use native.Mathlib.Omega.{arith}
use native.Mathlib.Nat.{suc-mul, zero-mul, mul_assoc, mul-div_cancel, div-zero, zero-div}
use lib.Dec.{eqb}
use lib.ListN.{length, take, drop, replicate, length-drop}
use lib.Seq.{drop-drop, take_at, drop_at, length-take-le}
use borrow.Author.Tests.{eqb-true, eqb-false, eq-eqb, ne_eqb, le-ltb}
use Rattle.words.specs.Lists.{among}
use Rattle.vectors.specs.Vectors.{numbers}
use Rattle.calls.specs.Calls.{slots, alleles, people, called, no_slot, without, how_many, counters, people_tally, people_of, counted}
use Rattle.calls.specs.Totals.{sums, together}
use Rattle.calls.proofs.Counters.{how_many_append, raised_none, raised_zeros}
use Rattle.genotypes.specs.declared.Gt.{Gt}
use Rattle.types.specs.Rows.{width_of}
use Rattle.facts.specs.declared.Facts.{Facts}
use Rattle.fixed.specs.declared.Site.{Site}
use Rattle.record.specs.Reading.{reading, accepted_as}
use Rattle.tally.specs.Tally.{calls_of, nobody, tallied}
use Rattle.tally.proofs.Parts.{calls_of_none, calls_of_part}
use Rattle.choice.specs.Choice.{ascending_from, ascending, chosen_parts}
use Rattle.choice.proofs.Choice.{Ascends, ascends, part_inside, length_chosen_parts}
use Rattle.choose.specs.Chosen.{chosen_record}
use Rattle.choose_laws.specs.Releases.{people_from, everybody, for_people, released_site}
use Rattle.choose_laws.specs.Divisions.{Division, other}
use Rattle.choose_laws.proofs.Choices.{ascending_cons, length_people_from}
use Rattle.std.specs.Prelude.{Ok}
use Rattle.fetch_laws.proofs.Fronts.{numbers_take}

-- a sum over the people of a list
unfoldable sum_over : (ℕ → ℕ) → List ℕ → ℕ
sum_over f [] = 0
sum_over f (c ∷ cs) = f c + sum_over f cs

-- who is below the least of a choice is not in it
among_below : (p least people : ℕ) (cs : List ℕ) → ascending_from least people cs ≡ true → p < least → among p cs ≡ false
unfolding among
among_below p least people [] h q = refl
among_below p least people (c ∷ cs) h q =
    let a = ascends least people c cs h in
    let x = a.from in
    rw (ne_eqb c p (λ e. omega arith)) (among_below p (suc c) people cs a.rest (omega arith))

-- the least person heads a choice, or isn't in it
data Next (least people : ℕ) (cs : List ℕ) : Type 0 where
  heads : (rest : List ℕ) → cs ≡ least ∷ rest → ascending_from (suc least) people rest ≡ true → Next least people cs
  misses : ascending_from (suc least) people cs ≡ true → Next least people cs

next : (least people : ℕ) (cs : List ℕ) → ascending_from least people cs ≡ true → Next least people cs
unfolding ascending_from
next least people [] h = misses refl
next least people (c ∷ cs) h = by-head (eqb c least) refl
  where
    a : Ascends least people c cs
    a = ascends least people c cs h

    by-head : (b : Bool) → eqb c least ≡ b → Next least people (c ∷ cs)
    by-head true e =
        let q : c ≡ least = eqb-true c least e in
        heads cs (rw q) (rw q at a.rest)
    by-head false e =
        let q : c ≡ least → ⊥ = eqb-false c least e in
        let x = a.from in
        misses (ascending_cons (suc least) people c cs (omega arith) a.below a.rest)

-- each person from a least one on is in one of two choices and not in the other
abbrev Once : ℕ → ℕ → List ℕ → List ℕ → Type 0
Once least people cs ds = (p : ℕ) → least ≤ p → p < people → among p cs ≡ other (among p ds)

among_head : (p : ℕ) (cs : List ℕ) → among p (p ∷ cs) ≡ true
unfolding among
among_head p cs = rw (eq-eqb p p refl)

among_later : (p q : ℕ) (cs : List ℕ) → q < p → among p (q ∷ cs) ≡ among p cs
unfolding among
among_later p q cs h = rw (ne_eqb q p (λ e. omega arith))

empty : (least people : ℕ) (cs : List ℕ) → ascending_from least people cs ≡ true → people ≤ least → cs ≡ []
empty least people [] h q = refl
empty least people (c ∷ cs) h q = let a = ascends least people c cs h in let x = a.from in let y = a.below in absurd (omega arith)

-- what is summed over the people from a least one on
sum_over_divided : (f : ℕ → ℕ) (n least people : ℕ) (cs ds : List ℕ) → least + n ≡ people → ascending_from least people cs ≡ true
    → ascending_from least people ds ≡ true → Once least people cs ds → sum_over f (people_from least n) ≡ sum_over f cs + sum_over f ds
unfolding sum_over people_from
sum_over_divided f zero least people cs ds e h k o =
    rw (empty least people cs h (omega arith), empty least people ds k (omega arith))
sum_over_divided f (suc n) least people cs ds e h k o =
    by_next (next least people cs h) (next least people ds k) (λ xs ys. sum_over_divided f n (suc least) people xs ys (omega arith))
  where
    On : Type 0
    On = (xs ys : List ℕ) → ascending_from (suc least) people xs ≡ true → ascending_from (suc least) people ys ≡ true
        → Once (suc least) people xs ys → sum_over f (people_from (suc least) n) ≡ sum_over f xs + sum_over f ys

    by_next : Next least people cs → Next least people ds → On
        → f least + sum_over f (people_from (suc least) n) ≡ sum_over f cs + sum_over f ds
    by_next (heads xs p a) (heads ys q b) on =
        let z = rw (p, q, among_head least xs, among_head least ys) at (o least (omega arith) (omega arith)) in
        cc
    by_next (heads xs p a) (misses b) on =
        rw (p, on xs ds a b (λ x u v. rw (p, among_later x least xs u) at (o x (omega arith) v))) (omega arith)
    by_next (misses a) (heads ys q b) on =
        rw (q, on cs ys a b (λ x u v. rw (q, among_later x least ys u) at (o x (omega arith) v))) (omega arith)
    by_next (misses a) (misses b) on =
        let z = rw (
          among_below least (suc least) people cs a (omega arith),
          among_below least (suc least) people ds b (omega arith),
        ) at (o least (omega arith) (omega arith)) in
        cc

over_division : (f : ℕ → ℕ) (n : ℕ) (cs ds : List ℕ) → Division n cs ds → sum_over f (everybody n) ≡ sum_over f cs + sum_over f ds
over_division f n cs ds d = sum_over_divided f n 0 n cs ds (omega arith) d.first d.second (λ p u v. d.once p v)

sum_over_one : (cs : List ℕ) → sum_over (λ c. 1) cs ≡ length cs
unfolding sum_over
sum_over_one [] = refl
sum_over_one (c ∷ cs) = rw (sum_over_one cs) (omega arith)

-- the two choices of a division are as many as the people
pub length_divided : (n : ℕ) (cs ds : List ℕ) → Division n cs ds → length cs + length ds ≡ n
length_divided n cs ds d =
    let e = over_division (λ c. 1) n cs ds d in
    let z = rw (sum_over_one (everybody n), sum_over_one cs, sum_over_one ds, length_people_from 0 n) at e in
    omega arith

-- one person's numbers
abbrev person : ℕ → ℕ → List ℕ → ℕ → List ℕ
person w len l c = numbers w len (drop (c * (len * w)) l)

people_from_lem : (w len k n : ℕ) (l : List ℕ) → people w len n (drop (k * (len * w)) l) ≡ map (person w len l) (people_from k n)
unfolding people people_from
people_from_lem w len k zero l = refl
people_from_lem w len k (suc n) l =
    let e : k * (len * w) + len * w ≡ suc k * (len * w) = omega (arith, suc-mul k (len * w)) in
    rw (drop-drop (len * w) (k * (len * w)) l, e, people_from_lem w len (suc k) n l)

people_chosen : (w len least n : ℕ) (cs l : List ℕ) → ascending_from least n cs ≡ true → n * (len * w) ≤ length l
    → people w len (length cs) (chosen_parts (len * w) cs l) ≡ map (person w len l) cs
unfolding people chosen_parts
people_chosen w len least n [] l h r = refl
people_chosen w len least n (c ∷ cs) l h r =
    let a = ascends least n c cs h in
    let p = part_inside c n (len * w) (length l) a.below r in
    let part = take (len * w) (drop (c * (len * w)) l) in
    let rest = chosen_parts (len * w) cs l in
    let q : length part ≡ len * w = length-take-le (len * w) (drop (c * (len * w)) l) (rw length-drop (omega arith)) in
    rw (
      numbers_take w len (part ++ rest) (drop (c * (len * w)) l) (take_at part rest (len * w) q),
      drop_at part rest (len * w) q,
      people_chosen w len (suc c) n cs l a.rest r,
    )

-- who is without, and how often a number is called, as sums over the people
without_map : (t : ℕ) (g : ℕ → List ℕ) (cs : List ℕ) → without t (map g cs) ≡ sum_over (λ c. no_slot (slots t (g c))) cs
unfolding without sum_over
without_map t g [] = refl
without_map t g (c ∷ cs) = rw (without_map t g cs)

how_many_map : (t k : ℕ) (g : ℕ → List ℕ) (cs : List ℕ)
    → how_many k (called t (map g cs)) ≡ sum_over (λ c. how_many k (alleles t (g c))) cs
unfolding called how_many sum_over
how_many_map t k g [] = refl
how_many_map t k g (c ∷ cs) = rw (how_many_append k (alleles t (g c)) (called t (map g cs)), how_many_map t k g cs)

counters_sums : (n k : ℕ) (xs ys zs : List ℕ) → ((j : ℕ) → how_many j xs ≡ how_many j ys + how_many j zs)
    → counters n k xs ≡ sums (counters n k ys) (counters n k zs)
unfolding counters sums
counters_sums zero k xs ys zs h = refl
counters_sums (suc n) k xs ys zs h = rw (h k, counters_sums n (suc k) xs ys zs h)

people_tally_map : (t n : ℕ) (g : ℕ → List ℕ) (cs ds : List ℕ) → Division n cs ds
    → people_tally t (map g (everybody n)) ≡ together (people_tally t (map g cs)) (people_tally t (map g ds))
unfolding people_tally together
people_tally_map t n g cs ds d =
    let e : without t (map g (everybody n)) ≡ without t (map g cs) + without t (map g ds) =
    rw (without_map t g (everybody n), without_map t g cs, without_map t g ds) (over_division _ n cs ds d) in
    rw (
      e,
      counters_sums 65 0 (called t (map g (everybody n))) (called t (map g cs)) (called t (map g ds))
          (λ j. rw (how_many_map t j g (everybody n), how_many_map t j g cs, how_many_map t j g ds) (over_division _ n cs ds d)),
    )

-- the tallies of the two choices' parts add up to everybody's
pub people_tally_divided : (t w len n : ℕ) (cs ds l : List ℕ) → Division n cs ds → n * (len * w) ≤ length l
    → people_tally t (people w len n l)
    ≡ together (people_tally t (people w len (length cs) (chosen_parts (len * w) cs l)))
    (people_tally t (people w len (length ds) (chosen_parts (len * w) ds l)))
people_tally_divided t w len n cs ds l d r =
    let e : people w len n l ≡ map (person w len l) (everybody n) = rw (zero-mul (len * w)) at (people_from_lem w len 0 n l) in
    rw (e, people_chosen w len 0 n cs l d.first r, people_chosen w len 0 n ds l d.second r) (people_tally_map t n (person w len l) cs ds d)

-- the bytes of GT's elements of so many people
abbrev pub gt_bytes : Gt → ℕ → List ℕ → List ℕ
gt_bytes g n s = take (n * g.len * width_of g.code) (drop g.first s)

-- GT in the record of a choice: of the same type and length, with the chosen people's elements of those that are there; a record of nobody
-- has none
pub data Part (g : Gt) (n : ℕ) (s cs : List ℕ) (g' : Gt) (s' : List ℕ) : Type 0 where
  kept : g'.code ≡ g.code → g'.len ≡ g.len → g.first + n * g.len * width_of g.code ≤ length s
      → gt_bytes g' (length cs) s' ≡ chosen_parts (g.len * width_of g.code) cs (gt_bytes g n s) → Part g n s cs g' s'
  none : cs ≡ [] → g'.len ≡ 0 → Part g n s cs g' s'

-- the tally of a part that has just its people's elements; where these have no width, there are none
pub counted_people : (t len n : ℕ) (l : List ℕ) → 0 < len → 0 < width_of t → length l ≡ n * len * width_of t
    → counted t len l ≡ people_tally t (people (width_of t) len n l)
unfolding counted people_of
counted_people t len n l p q e = rw (e, mul-div_cancel (n * len) q, mul-div_cancel n p)

people_tally_nobody : (t : ℕ) → people_tally t [] ≡ nobody 0
unfolding people_tally without called
people_tally_nobody t = rw (sym (raised_zeros 65 0 []), raised_none 0 (replicate 65 0))

counted_none : (t len : ℕ) (l : List ℕ) → width_of t ≡ 0 → counted t len l ≡ nobody 0
unfolding counted people_of people
counted_none t len l e = rw (e, div-zero (length l), zero-div len) (people_tally_nobody t)

nobody_together : (a b : ℕ) → together (nobody a) (nobody b) ≡ nobody (a + b)
unfolding together sums
nobody_together a b = refl

-- the calls of a part: where GT has no length, where its elements have no width, and else
part_none : (g : Gt) (n : ℕ) (s cs : List ℕ) (g' : Gt) (s' : List ℕ) → Part g n s cs g' s' → g.len ≡ 0
    → calls_of g' (length cs) s' ≡ nobody (length cs)
part_none g n s cs g' s' (kept c k i b) e = calls_of_none g' (length cs) s' (k ∙ e)
part_none g n s cs g' s' (none c k) e = calls_of_none g' (length cs) s' k

part_narrow : (g : Gt) (n : ℕ) (s cs : List ℕ) (g' : Gt) (s' : List ℕ) → Part g n s cs g' s' → 0 < g.len → width_of g.code ≡ 0
    → calls_of g' (length cs) s' ≡ nobody 0
part_narrow g n s cs g' s' (kept c k i b) p e = calls_of_part g' (length cs) s' (λ z. omega arith) ∙ counted_none g'.code g'.len _ (rw c e)
part_narrow g n s cs g' s' (none c k) p e = rw (calls_of_none g' (length cs) s' k, c)

part_calls : (g : Gt) (n : ℕ) (s cs : List ℕ) (g' : Gt) (s' : List ℕ) → Part g n s cs g' s' → 0 < g.len → 0 < width_of g.code
    → n * (g.len * width_of g.code) ≤ length (gt_bytes g n s) → ascending n cs ≡ true
    → calls_of g' (length cs) s'
    ≡ people_tally g.code (people (width_of g.code) g.len (length cs) (chosen_parts (g.len * width_of g.code) cs (gt_bytes g n s)))
unfolding people
part_calls g n s cs g' s' (kept c k i b) p q r a =
    let w = width_of g.code in
    let e : length (chosen_parts (g.len * w) cs (gt_bytes g n s)) ≡ length cs * g.len * w =
    length_chosen_parts (g.len * w) 0 n cs (gt_bytes g n s) a r ∙ sym (mul_assoc (length cs) g.len w) in
    calls_of_part g' (length cs) s' (λ z. omega arith) ∙ rw (b, c, k) (counted_people g.code g.len (length cs) _ p q e)
part_calls g n s cs g' s' (none c k) p q r a = rw (calls_of_none g' (length cs) s' k, c) (sym (people_tally_nobody g.code))

-- everybody's elements are there
length_gt_bytes : (g : Gt) (n : ℕ) (s : List ℕ) → g.first + n * g.len * width_of g.code ≤ length s
    → length (gt_bytes g n s) ≡ n * g.len * width_of g.code
length_gt_bytes g n s h = length-take-le _ (drop g.first s) (rw length-drop (omega arith))

all_there : (g : Gt) (n : ℕ) (s cs ds : List ℕ) (g₁ : Gt) (s₁ : List ℕ) (g₂ : Gt) (s₂ : List ℕ) → Division n cs ds
    → Part g n s cs g₁ s₁ → Part g n s ds g₂ s₂ → length (gt_bytes g n s) ≡ n * g.len * width_of g.code
all_there g n s cs ds g₁ s₁ g₂ s₂ d (kept c k i b) q = length_gt_bytes g n s i
all_there g n s cs ds g₁ s₁ g₂ s₂ d (none c k) (kept c' k' i b) = length_gt_bytes g n s i
all_there g n s cs ds g₁ s₁ g₂ s₂ d (none c k) (none c' k') =
    let e = rw (c, c') at (length_divided n cs ds d) in
    let z : n ≡ 0 = omega arith in
    rw (z, zero-mul g.len, zero-mul (width_of g.code))

-- the calls of a record are those of the records of two choices that divide its people, together
pub calls_of_divided : (g : Gt) (n : ℕ) (s cs ds : List ℕ) (g₁ : Gt) (s₁ : List ℕ) (g₂ : Gt) (s₂ : List ℕ) → Division n cs ds
    → Part g n s cs g₁ s₁ → Part g n s ds g₂ s₂ → calls_of g n s ≡ together (calls_of g₁ (length cs) s₁) (calls_of g₂ (length ds) s₂)
calls_of_divided g n s cs ds g₁ s₁ g₂ s₂ d p q = by_size g.len (width_of g.code) refl refl
  where
    by_size : (len w : ℕ) → g.len ≡ len → width_of g.code ≡ w
        → calls_of g n s ≡ together (calls_of g₁ (length cs) s₁) (calls_of g₂ (length ds) s₂)
    by_size zero w e f =
        rw (
          calls_of_none g n s e,
          part_none g n s cs g₁ s₁ p e,
          part_none g n s ds g₂ s₂ q e,
          nobody_together (length cs) (length ds),
          length_divided n cs ds d,
        )
    by_size (suc len) zero e f =
        rw (
          calls_of_part g n s (λ z. omega arith),
          counted_none g.code g.len (gt_bytes g n s) f,
          part_narrow g n s cs g₁ s₁ p (omega arith) f,
          part_narrow g n s ds g₂ s₂ q (omega arith) f,
          nobody_together 0 0,
        )
    by_size (suc len) (suc w) e f =
        let i : 0 < g.len = omega arith in
        let j : 0 < width_of g.code = omega arith in
        let k = all_there g n s cs ds g₁ s₁ g₂ s₂ d p q in
        let r : n * (g.len * width_of g.code) ≤ length (gt_bytes g n s) = rw (k, mul_assoc n g.len (width_of g.code)) (omega arith) in
        rw (
          calls_of_part g n s (λ z. omega arith),
          counted_people g.code g.len n (gt_bytes g n s) i j k,
          part_calls g n s cs g₁ s₁ p i j r d.first,
          part_calls g n s ds g₂ s₂ q i j r d.second,
        )
        (people_tally_divided g.code (width_of g.code) g.len n cs ds (gt_bytes g n s) d r)

-- the tally of an accepted record with at most 64 alleles
pub tallied_accepted : (f : Facts) (s : List ℕ) (t : Site) (g : Gt) → reading f s ≡ accepted_as t g → t.alleles ≤ 64
    → tallied f s ≡ record { answer = Ok t; calls = calls_of g t.people s }
unfolding tallied
tallied_accepted f s t g h q = rw (h, le-ltb 64 t.alleles q)

-- the two tallies add up to the whole record's, where the records of the two choices are accepted with their parts of GT
pub tallied_divided : (f : Facts) (s : List ℕ) (t : Site) (g : Gt) (cs ds : List ℕ) (g₁ g₂ : Gt) → reading f s ≡ accepted_as t g → t.alleles ≤ 64
    → Division t.people cs ds → reading (for_people (length cs) f) (chosen_record t cs s) ≡ accepted_as (released_site cs s t) g₁
    → reading (for_people (length ds) f) (chosen_record t ds s) ≡ accepted_as (released_site ds s t) g₂ → Part g t.people s cs g₁ (chosen_record t cs s)
    → Part g t.people s ds g₂ (chosen_record t ds s)
    → (tallied f s).calls
    ≡ together (tallied (for_people (length cs) f) (chosen_record t cs s)).calls (tallied (for_people (length ds) f) (chosen_record t ds s)).calls
tallied_divided f s t g cs ds g₁ g₂ h a d h₁ h₂ p₁ p₂ =
    rw (
      tallied_accepted f s t g h a,
      tallied_accepted (for_people (length cs) f) (chosen_record t cs s) (released_site cs s t) g₁ h₁ a,
      tallied_accepted (for_people (length ds) f) (chosen_record t ds s) (released_site ds s t) g₂ h₂ a,
    )
    (calls_of_divided g t.people s cs ds g₁ (chosen_record t cs s) g₂ (chosen_record t ds s) d p₁ p₂)
