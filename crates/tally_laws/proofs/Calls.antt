-- What each counter of an accepted record's tally counts: the slots whose code says that allele, or a missing one. Rests on proofs/Gt and proofs/Slots,
-- and on what a code of GT says.
use mathlib.Core.Path.{◌≡◌, refl, sym, ◌∙◌, ap}
use mathlib.Core.Logic.{◌⊎◌, inl, inr}
use mathlib.Core.List.{List, [], ◌∷◌, ◌++◌, map}
use mathlib.Core.Bool.{Bool, true, false}
use Prim.Native.Nat.{ℕ, zero, suc, ◌+◌, ◌-◌, ◌*◌, ◌/◌, ◌%◌, ◌<◌, ◌≤◌}
use native.Mathlib.Omega.{arith}
use native.Mathlib.Nat.{zero-add, mul-div_cancel}
use lib.Dec.{eqb, ltb}
use lib.IntN.{pos}
use lib.ListN.{drop, get_or, replicate}
use mir.Syntax.{w32}
use mir.Val.{to_z, of_z}
use mir.Facts.{to_z_pos, of_z-to_z}
use borrow.Author.Tests.{eqb-true, eqb-false, eq-eqb, ne_eqb, lt-ltb, ltb-false}
use Rattle.words.specs.Pick.{pick}
use Rattle.types.specs.Rows.{width_of}
use Rattle.types.specs.Elements.{kind, marked, shown, widened}
use Rattle.types.specs.declared.Element.{Element}
use Rattle.types.specs.declared.Element.TheVariants.{Plain, Missing as MissingMark, End as EndMark, Reserved}
use Rattle.vectors.specs.Sound.{highest, code_most}
use Rattle.vectors.specs.Vectors.{numbers, element_turn, follow, vector, vectors, judged, Sound}
use Rattle.vectors.proofs.Codes.{code_sound}
use Rattle.genotypes.specs.declared.Gt.{Gt}
use Rattle.elements.specs.Elements.{shown_by, code_call}
use Rattle.elements.specs.declared.Call.{Call}
use Rattle.elements.specs.declared.Call.TheVariants.{Allele, Missing}
use Rattle.calls.specs.Calls.{slots, allele_of, alleles, people, called, how_many, counters, people_tally}
use Rattle.calls.proofs.Counters.{how_many_append}
use Rattle.calls.proofs.Sound.{refused, both_sound}
use Rattle.tally.specs.Tally.{calls_of}
use Rattle.tally_laws.specs.Slots.{gt_people, is_slot, slots_of, all_slots, count, slot_call, is_missing, is_allele}
use Rattle.genotypes.specs.Formats.{gt_part}
use Rattle.tally_laws.proofs.Gt.{GtSound, length_gt_part}
use Rattle.std.specs.Prelude.{Option, Some, Err, Ok}
use Rattle.tally_laws.proofs.Slots.{people_none, slots_people, tally_people}

-- a type of integers, one by one
by_integers : (P : ℕ → Type 0) → P 1 → P 2 → P 3 → (t : ℕ) → 0 < t → t < 4 → P t
by_integers P a b c zero h k = absurd (omega arith)
by_integers P a b c (suc zero) h k = a
by_integers P a b c (suc (suc zero)) h k = b
by_integers P a b c (suc (suc (suc zero))) h k = c
by_integers P a b c (suc (suc (suc (suc t)))) h k = absurd (omega arith)

-- a number below its type's sign bit is shown as it is
shown_low : (t x : ℕ) → 0 < t → t < 4 → x ≤ highest t → shown t x ≡ x
unfolding shown widened highest
shown_low t x a b h =
    by_integers (λ t. x ≤ highest t → shown t x ≡ x) (λ h. rw (lt-ltb x 0x80 (omega arith))) (λ h. rw (lt-ltb x 0x8000 (omega arith))) (λ h. refl) t a b h

highest_low : (t : ℕ) → 0 < t → t < 4 → highest t ≤ 0x7FFFFFFF
unfolding highest
highest_low t a b = by_integers (λ t. highest t ≤ 0x7FFFFFFF) (omega arith) (omega arith) (omega arith) t a b

-- so a code that is no mark and not negative is called by its number
plain_call : (t x : ℕ) → 0 < t → t < 4 → x ≤ highest t → slot_call t x ≡ Some (code_call (pos x))
unfolding shown_by kind marked
plain_call t x a b h =
    let l = highest_low t a b in
    let q : x < 2147483648 = omega arith in
    let z : to_z w32 x ≡ pos x = to_z_pos w32 q in
    let back : of_z w32 (pos x) ≡ x = ap (of_z w32) (sym z) ∙ of_z-to_z {w = w32} (record { fits = omega arith }) in
    rw (shown_low t x a b h, ne_eqb t 5 (λ e. omega arith), ne_eqb t 7 (λ e. omega arith), z, back, lt-ltb x 0x80000000 q)

-- the missing mark of any width says a missing allele
marked_missing : (missing last x : ℕ) → marked missing last x ≡ MissingMark → x ≡ missing
unfolding marked
marked_missing missing last x h = by_tests (ltb x missing) (ltb last x) (eqb x missing) (eqb (x - missing) 1) refl h
  where
    by_tests : (a b c d : Bool) → eqb x missing ≡ c → pick a Plain (pick b Plain (pick c MissingMark (pick d EndMark Reserved))) ≡ MissingMark → x ≡ missing
    by_tests true b c d e h = let z : ◌≡◌ {A = ℕ} 0 1 = cc in absurd (omega arith)
    by_tests false true c d e h = let z : ◌≡◌ {A = ℕ} 0 1 = cc in absurd (omega arith)
    by_tests false false true d e h = eqb-true x missing e
    by_tests false false false true e h = let z : ◌≡◌ {A = ℕ} 0 1 = cc in absurd (omega arith)
    by_tests false false false false e h = let z : ◌≡◌ {A = ℕ} 0 1 = cc in absurd (omega arith)

missing_call : (t x : ℕ) → 0 < t → t < 4 → kind t x ≡ MissingMark → slot_call t x ≡ Some (Missing false)
unfolding kind marked shown widened shown_by
missing_call t x a b h =
    by_integers (λ t. kind t x ≡ MissingMark → slot_call t x ≡ Some (Missing false)) (λ h. rw (marked_missing 0x80 0x87 x h))
    (λ h. rw (marked_missing 0x8000 0x8007 x h)) (λ h. rw (marked_missing 0x80000000 0x80000007 x h)) t a b h

-- what a counter counts: 0 missing alleles, 1 + i the allele i
abbrev pub says : ℕ → Option Call → Bool
says zero c = is_missing c
says (suc i) c = is_allele i c

one_less : (h i : ℕ) (b : Bool) → eqb (suc h - 1) i ≡ b → b ≡ eqb (suc i) (suc h)
one_less h i true e = let q = eqb-true (suc h - 1) i e in sym (eq-eqb (suc i) (suc h) (omega arith))
one_less h i false e = let q = eqb-false (suc h - 1) i e in sym (ne_eqb (suc i) (suc h) (λ z. q (omega arith)))

code_says : (k x : ℕ) → says k (Some (code_call (pos x))) ≡ eqb k (x / 2)
unfolding code_call
code_says zero x = by_half (x / 2)
  where
    by_half : (h : ℕ) → is_missing (Some (pick (eqb h 0) (Missing (eqb (x % 2) 1)) (Allele (h - 1) (eqb (x % 2) 1)))) ≡ eqb 0 h
    by_half zero = refl
    by_half (suc h) = rw (ne_eqb (suc h) 0 (λ e. omega arith), ne_eqb 0 (suc h) (λ e. omega arith))
code_says (suc i) x = by_half (x / 2)
  where
    by_half : (h : ℕ) → is_allele i (Some (pick (eqb h 0) (Missing (eqb (x % 2) 1)) (Allele (h - 1) (eqb (x % 2) 1)))) ≡ eqb (suc i) h
    by_half zero = rw (ne_eqb (suc i) 0 (λ e. omega arith))
    by_half (suc h) = rw (ne_eqb (suc h) 0 (λ e. omega arith)) (one_less h i (eqb (suc h - 1) i) refl)

-- so of a slot that was judged sound, what it says is the allele that is counted
slot_says : (alleles t k x : ℕ) → 0 < t → t < 4 → (kind t x ≡ MissingMark) ⊎ ((kind t x ≡ Plain) × (x ≤ code_most alleles t))
    → says k (slot_call t x) ≡ eqb k (allele_of t x)
unfolding allele_of
slot_says alleles t k x a b (inl h) = rw (missing_call t x a b h, h) (mark-says k)
  where
    mark-says : (k : ℕ) → says k (Some (Missing false)) ≡ eqb k 0
    mark-says zero = refl
    mark-says (suc i) = rw (ne_eqb (suc i) 0 (λ e. omega arith))
slot_says alleles t k x a b (inr h) =
    rw (plain_call t x a b (code_sound alleles t x h.1).0, h.0) (code_says k x)

-- how many of two lists, and of the slots of sound codes by two tests that agree on them
count_append : {A : Type 0} (test : A → Bool) (xs ys : List A) → count test (xs ++ ys) ≡ count test xs + count test ys
unfolding count
count_append test [] ys = rw (zero-add (count test ys))
count_append test (x ∷ xs) ys = rw (count_append test xs ys) (omega arith)

none_counted : (f g : ℕ → Bool) → count f [] ≡ count g []
unfolding count
none_counted f g = refl

all_slots_none : (t n : ℕ) → all_slots t (replicate n []) ≡ []
unfolding all_slots slots_of
all_slots_none t zero = refl
all_slots_none t (suc n) = all_slots_none t n

-- tests that agree on every slot that is judged sound
abbrev Agree : ℕ → ℕ → (ℕ → Bool) → (ℕ → Bool) → Type 0
Agree most t f g = (x : ℕ) → (kind t x ≡ MissingMark) ⊎ ((kind t x ≡ Plain) × (x ≤ most)) → f x ≡ g x

vector_count : (most t w at : ℕ) (e : Bool) (f g : ℕ → Bool) (xs : List ℕ) → Agree most t f g → vector most t w at e xs ≡ Sound
    → count f (slots_of t xs) ≡ count g (slots_of t xs)
unfolding vector slots_of count
vector_count most t w at e f g [] a h = refl
vector_count most t w at e f g (x ∷ xs) a h = by_kind (kind t x) e refl h (λ b. vector_count most t w (at + w) b f g xs a)
  where
    Rest : Type 0
    Rest = (b : Bool) → vector most t w (at + w) b xs ≡ Sound → count f (slots_of t xs) ≡ count g (slots_of t xs)

    counted : f x ≡ g x → count f (slots_of t xs) ≡ count g (slots_of t xs) → count f (x ∷ slots_of t xs) ≡ count g (x ∷ slots_of t xs)
    counted p q = rw (p, q)

    by_most : (q : Bool) → ltb most x ≡ q → kind t x ≡ Plain → follow at (pick q (Err 10) (Ok false)) (λ b. vector most t w (at + w) b xs) ≡ Sound → Rest
        → count f (x ∷ slots_of t xs) ≡ count g (x ∷ slots_of t xs)
    by_most true p k r on = refused _ r
    by_most false p k r on = counted (a x (inr (k, ltb-false most x p))) (on false r)

    by_kind : (k : Element) (b : Bool) → kind t x ≡ k → follow at (element_turn most b k x) (λ b. vector most t w (at + w) b xs) ≡ Sound → Rest
        → count f (pick (is_slot k) (x ∷ slots_of t xs) (slots_of t xs)) ≡ count g (pick (is_slot k) (x ∷ slots_of t xs) (slots_of t xs))
    by_kind EndMark b k r on = on true r
    by_kind Reserved b k r on = refused _ r
    by_kind MissingMark true k r on = refused _ r
    by_kind MissingMark false k r on = counted (a x (inl k)) (on false r)
    by_kind Plain true k r on = refused _ r
    by_kind Plain false k r on = by_most (ltb most x) refl k r on

people_count : (most t w len n at : ℕ) (f g : ℕ → Bool) (l : List ℕ) → Agree most t f g → vectors most t w len n at l ≡ Sound
    → count f (all_slots t (people w len n l)) ≡ count g (all_slots t (people w len n l))
unfolding vectors people all_slots count
people_count most t w len zero at f g l a h = refl
people_count most t w len (suc n) at f g l a h =
    let b = both_sound (vector most t w at false (numbers w len l)) _ h in
    rw (
      count_append f (slots_of t (numbers w len l)) (all_slots t (people w len n (drop (len * w) l))),
      count_append g (slots_of t (numbers w len l)) (all_slots t (people w len n (drop (len * w) l))),
      vector_count most t w at false f g (numbers w len l) a b.0,
      people_count most t w len n (at + len * w) f g (drop (len * w) l) a b.1,
    )

-- how often an allele is called, by the slots
how_many_map : (t k : ℕ) (xs : List ℕ) → how_many k (map (allele_of t) xs) ≡ count (λ x. eqb k (allele_of t x)) xs
unfolding how_many count
how_many_map t k [] = refl
how_many_map t k (x ∷ xs) = rw (how_many_map t k xs)

how_many_slots : (t k : ℕ) (ps : List (List ℕ)) → map (slots t) ps ≡ map (slots_of t) ps
    → how_many k (called t ps) ≡ count (λ x. eqb k (allele_of t x)) (all_slots t ps)
unfolding called all_slots alleles
how_many_slots t k [] h = how_many_map t k []
how_many_slots t k (p ∷ ps) h =
    let first : slots t p ≡ slots_of t p = cc in
    let rest : map (slots t) ps ≡ map (slots_of t) ps = cc in
    rw (
      how_many_append k (map (allele_of t) (slots t p)) (called t ps),
      first,
      count_append (λ x. eqb k (allele_of t x)) (slots_of t p) (all_slots t ps),
      how_many_slots t k ps rest,
      how_many_map t k (slots_of t p),
    )

get_or_counters : (n k j : ℕ) (xs : List ℕ) → j < n → get_or (counters n k xs) j 0 ≡ how_many (k + j) xs
unfolding counters
get_or_counters zero k j xs h = absurd (omega arith)
get_or_counters (suc n) k zero xs h = ap (λ i. how_many i xs) (omega arith)
get_or_counters (suc n) k (suc j) xs h = get_or_counters n (suc k) j xs (omega arith) ∙ ap (λ i. how_many i xs) (omega arith)

-- two tests that agree on sound slots count the same of an accepted record's
sound_count : (n alleles : ℕ) (s : List ℕ) (g : Gt) (f f' : ℕ → Bool) → GtSound n alleles s g → (0 < g.len → Agree (code_most alleles g.code) g.code f f')
    → count f (all_slots g.code (gt_people g n s)) ≡ count f' (all_slots g.code (gt_people g n s))
unfolding gt_people judged
sound_count n alleles s g f f' h a = by_length g.len refl
  where
    by_length : (len : ℕ) → g.len ≡ len → count f (all_slots g.code (gt_people g n s)) ≡ count f' (all_slots g.code (gt_people g n s))
    by_length zero e = rw (e, people_none, all_slots_none g.code n) (none_counted f f')
    by_length (suc len) e =
        let p : 0 < g.len = omega arith in
        people_count (code_most alleles g.code) g.code (width_of g.code) g.len n 0 f f' (gt_part n g s) (a p)
        (rw (length_gt_part n alleles s g h, mul-div_cancel (n * g.len) (h.wide p), mul-div_cancel n p) at h.codes)

-- each counter counts the slots that say what it counts
pub tally_says : (n alleles : ℕ) (s : List ℕ) (g : Gt) (k : ℕ) → GtSound n alleles s g → k < 65
    → get_or (calls_of g n s).counts k 0 ≡ count (λ x. says k (slot_call g.code x)) (all_slots g.code (gt_people g n s))
unfolding people_tally
tally_says n alleles s g k h q =
    rw (tally_people n alleles s g h) (get_or_counters 65 0 k (called g.code (gt_people g n s)) q ∙ ap (λ i. how_many i (called g.code (gt_people g n s))) (zero-add k)
    ∙ how_many_slots g.code k (gt_people g n s) (slots_people n alleles s g h)
    ∙ sym (sound_count n alleles s g _ _ h (λ p. λ x. slot_says alleles g.code k x (h.integers p).0 (h.integers p).1)))
