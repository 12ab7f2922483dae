-- The slots of an accepted record's GT, and its tally by them. Before the first end of vector and no end of vector are the same there, since after an
-- end only ends follow. Rests on proofs/Gt and on the laws of calls.
use mathlib.Core.Path.{◌≡◌, refl, sym, ◌∙◌, ap}
use mathlib.Core.List.{List, [], ◌∷◌, map}
use mathlib.Core.Bool.{Bool, true, false}
use Prim.Native.Nat.{ℕ, zero, suc, ◌+◌, ◌*◌, ◌<◌, ◌≤◌}
use native.Mathlib.Omega.{arith}
use native.Mathlib.Nat.{mul-div_cancel}
use lib.Dec.{ltb}
use lib.ListN.{length, drop, replicate, length-append}
use Rattle.words.specs.Pick.{pick}
use Rattle.types.specs.Rows.{width_of}
use Rattle.types.specs.Elements.{kind}
use Rattle.types.specs.declared.Element.{Element}
use Rattle.types.specs.declared.Element.TheVariants.{Plain, Missing, End, Reserved}
use Rattle.vectors.specs.Sound.{code_most}
use Rattle.vectors.specs.Vectors.{numbers, element_turn, follow, vector, vectors, judged, Sound}
use Rattle.genotypes.specs.Formats.{gt_part}
use Rattle.genotypes.specs.declared.Gt.{Gt}
use Rattle.calls.specs.Calls.{before, slots, alleles, people, called, no_slot, without, people_tally, people_of}
use Rattle.calls.specs.Totals.{total, slot_count}
use Rattle.calls.proofs.Sound.{refused, both_sound, sound_slots}
use Rattle.calls.proofs.Laws.{length_people}
use Rattle.calls.proofs.Counters.{raised_none, raised_zeros}
use Rattle.tally.specs.Tally.{calls_of, nobody}
use Rattle.tally.proofs.Parts.{calls_of_none, calls_of_part}
use Rattle.choose_laws.proofs.Divided.{counted_people}
use Rattle.tally_laws.specs.Slots.{gt_people, is_slot, slots_of, all_slots, is_some, count}
use Rattle.std.specs.Prelude.{Err, Ok}
use Rattle.tally_laws.proofs.Gt.{GtSound, length_gt_part}

-- in a vector that is sound nothing but ends follows an end
ended_none : (most t w at : ℕ) (xs : List ℕ) → vector most t w at true xs ≡ Sound → slots_of t xs ≡ []
unfolding vector slots_of
ended_none most t w at [] h = refl
ended_none most t w at (x ∷ xs) h = by_kind (kind t x) h (ended_none most t w (at + w) xs)
  where
    by_kind : (k : Element) → follow at (element_turn most true k x) (λ b. vector most t w (at + w) b xs) ≡ Sound
        → (vector most t w (at + w) true xs ≡ Sound → slots_of t xs ≡ []) → pick (is_slot k) (x ∷ slots_of t xs) (slots_of t xs) ≡ []
    by_kind End e on = on e
    by_kind Reserved e on = refused _ e
    by_kind Missing e on = refused _ e
    by_kind Plain e on = refused _ e

-- so the elements before the first end are those that are no ends
vector_slots : (most t w at : ℕ) (xs : List ℕ) → vector most t w at false xs ≡ Sound → slots t xs ≡ slots_of t xs
unfolding vector slots slots_of
vector_slots most t w at [] h = refl
vector_slots most t w at (x ∷ xs) h = by_kind (kind t x) h (λ e. ap (λ ys. x ∷ ys) (vector_slots most t w (at + w) xs e))
  where
    Rest : Type 0
    Rest = vector most t w (at + w) false xs ≡ Sound → x ∷ slots t xs ≡ x ∷ slots_of t xs

    by_most : (b : Bool) → follow at (pick b (Err 10) (Ok false)) (λ b. vector most t w (at + w) b xs) ≡ Sound → Rest → x ∷ slots t xs ≡ x ∷ slots_of t xs
    by_most true e on = refused _ e
    by_most false e on = on e

    by_kind : (k : Element) → follow at (element_turn most false k x) (λ b. vector most t w (at + w) b xs) ≡ Sound → Rest
        → before k x (slots t xs) ≡ pick (is_slot k) (x ∷ slots_of t xs) (slots_of t xs)
    by_kind End e on = sym (ended_none most t w (at + w) xs e)
    by_kind Reserved e on = refused _ e
    by_kind Missing e on = on e
    by_kind Plain e on = by_most (ltb most x) e on

people_slots : (most t w len n at : ℕ) (l : List ℕ) → vectors most t w len n at l ≡ Sound
    → map (slots t) (people w len n l) ≡ map (slots_of t) (people w len n l)
unfolding vectors people
people_slots most t w len zero at l h = refl
people_slots most t w len (suc n) at l h =
    let b = both_sound (vector most t w at false (numbers w len l)) _ h in
    rw (
      vector_slots most t w at (numbers w len l) b.0,
      people_slots most t w len n (at + len * w) (drop (len * w) l) b.1,
    )

-- what is counted over people by the one, by the other
slot_count_slots : (t : ℕ) (ps : List (List ℕ)) → map (slots t) ps ≡ map (slots_of t) ps → slot_count t ps ≡ length (all_slots t ps)
unfolding slot_count all_slots
slot_count_slots t [] h = refl
slot_count_slots t (p ∷ ps) h =
    let first : slots t p ≡ slots_of t p = cc in
    let rest : map (slots t) ps ≡ map (slots_of t) ps = cc in
    rw (first, length-append, slot_count_slots t ps rest)

without_slots : (t : ℕ) (ps : List (List ℕ)) → map (slots t) ps ≡ map (slots_of t) ps
    → count (λ p. is_some (slots_of t p)) ps + without t ps ≡ length ps
unfolding without count
without_slots t [] h = refl
without_slots t (p ∷ ps) h =
    let first : slots t p ≡ slots_of t p = cc in
    let rest : map (slots t) ps ≡ map (slots_of t) ps = cc in
    let e = without_slots t ps rest in
    rw first (by_slots (slots_of t p) e)
  where
    by_slots : (xs : List ℕ) → count (λ p. is_some (slots_of t p)) ps + without t ps ≡ length ps
        → pick (is_some xs) 1 0 + count (λ p. is_some (slots_of t p)) ps + (no_slot xs + without t ps) ≡ suc (length ps)
    by_slots [] e = omega arith
    by_slots (x ∷ xs) e = omega arith

-- people of no elements
pub people_none : (w n : ℕ) (l : List ℕ) → people w 0 n l ≡ replicate n []
unfolding people numbers
people_none w zero l = refl
people_none w (suc n) l = rw (people_none w n (drop (0 * w) l))

tally_none : (t n : ℕ) → people_tally t (replicate n []) ≡ nobody n
unfolding people_tally without called alleles slots
tally_none t n = rw (without-none n, called-none n, sym (raised_zeros 65 0 []), raised_none 0 (replicate 65 0))
  where
    without-none : (n : ℕ) → without t (replicate n []) ≡ n
    without-none zero = refl
    without-none (suc n) = rw (without-none n) (omega arith)

    called-none : (n : ℕ) → called t (replicate n []) ≡ []
    called-none zero = refl
    called-none (suc n) = called-none n

-- the tally of an accepted record's GT is that of each person's elements
pub tally_people : (n alleles : ℕ) (s : List ℕ) (g : Gt) → GtSound n alleles s g → calls_of g n s ≡ people_tally g.code (gt_people g n s)
unfolding gt_people
tally_people n alleles s g h = by_length g.len refl
  where
    by_length : (len : ℕ) → g.len ≡ len → calls_of g n s ≡ people_tally g.code (gt_people g n s)
    by_length zero e = calls_of_none g n s e ∙ sym (rw (e, people_none) (tally_none g.code n))
    by_length (suc len) e =
        let k = length_gt_part n alleles s g h in
        calls_of_part g n s (λ z. omega arith) ∙ counted_people g.code g.len n (gt_part n g s) (omega arith) (h.wide (omega arith)) k

no_slots : (t n : ℕ) → map (slots t) (replicate n []) ≡ map (slots_of t) (replicate n [])
unfolding slots slots_of
no_slots t zero = refl
no_slots t (suc n) = rw (no_slots t n)

-- before the first end, and no end, are the same of every person
pub slots_people : (n alleles : ℕ) (s : List ℕ) (g : Gt) → GtSound n alleles s g
    → map (slots g.code) (gt_people g n s) ≡ map (slots_of g.code) (gt_people g n s)
unfolding gt_people judged
slots_people n alleles s g h = by_length g.len refl
  where
    by_length : (len : ℕ) → g.len ≡ len → map (slots g.code) (gt_people g n s) ≡ map (slots_of g.code) (gt_people g n s)
    by_length zero e = rw (e, people_none) (no_slots g.code n)
    by_length (suc len) e =
        let k = length_gt_part n alleles s g h in
        let p : 0 < g.len = omega arith in
        people_slots (code_most alleles g.code) g.code (width_of g.code) g.len n 0 (gt_part n g s)
        (rw (k, mul-div_cancel (n * g.len) (h.wide p), mul-div_cancel n p) at h.codes)

slot_count_none : (t n : ℕ) → slot_count t (replicate n []) ≡ 0
unfolding slot_count slots
slot_count_none t zero = refl
slot_count_none t (suc n) = rw (slot_count_none t n)

-- missing and called together are the slots that are no ends of vector
pub tally_slots : (n alleles : ℕ) (s : List ℕ) (g : Gt) → alleles ≤ 64 → GtSound n alleles s g
    → total (calls_of g n s).counts ≡ length (all_slots g.code (gt_people g n s))
unfolding gt_people people_of total
tally_slots n alleles s g a h = by_length g.len refl ∙ slot_count_slots g.code (gt_people g n s) (slots_people n alleles s g h)
  where
    by_length : (len : ℕ) → g.len ≡ len → total (calls_of g n s).counts ≡ slot_count g.code (gt_people g n s)
    by_length zero e = rw (calls_of_none g n s e, e, people_none, slot_count_none g.code n)
    by_length (suc len) e =
        let k = length_gt_part n alleles s g h in
        let p : 0 < g.len = omega arith in
        rw (calls_of_part g n s (λ z. omega arith))
        (rw (k, mul-div_cancel (n * g.len) (h.wide p), mul-div_cancel n p) at (sound_slots alleles g.code g.len (gt_part n g s) a h.codes))

-- people are those with a slot and those without
pub tally_with : (n alleles : ℕ) (s : List ℕ) (g : Gt) → GtSound n alleles s g
    → count (λ p. is_some (slots_of g.code p)) (gt_people g n s) + (calls_of g n s).without ≡ n
unfolding people_tally gt_people
tally_with n alleles s g h =
    rw (tally_people n alleles s g h) (without_slots g.code (gt_people g n s) (slots_people n alleles s g h) ∙ many)
  where
    many : length (gt_people g n s) ≡ n
    many = length_people (width_of g.code) g.len n (gt_part n g s)
