-- Reading at the front of what is written: integers, descriptors, values with all their elements, and the steps through a site block. Rests on
-- proofs/Widths, proofs/Elements and on the definitions of encode, values and site.
use mathlib.Core.Path.{◌≡◌, refl, ◌∙◌}
use mathlib.Core.List.{List, [], ◌∷◌, ◌++◌, append_assoc, append-nil}
use mathlib.Core.Bool.{Bool, true, false}
use Prim.Native.Nat.{ℕ, zero, suc, ◌+◌, ◌-◌, ◌*◌, ◌/◌, ◌%◌, ◌<◌, ◌≤◌}
use native.Mathlib.Omega.{arith}
use native.Mathlib.Nat.{mul-div_cancel, le-mul_of_pos_right}
use lib.Dec.{ltb, leb}
use lib.ListN.{length, take, drop, length-append}
use lib.Seq.{take_at, drop_at}
use borrow.Author.Tests.{ltb-false, leb-false, le-ltb, le-leb, lt-leb}
use Rattle.words.specs.Lists.{among}
use Rattle.words.specs.Pick.{pick}
use Rattle.words.specs.Words.{bytes, outside}
use Rattle.words.proofs.Words.{length_bytes}
use Rattle.types.specs.Rows.{integer_row, row_of, width_of, allowed}
use Rattle.types.specs.Elements.{narrowest}
use Rattle.types.specs.declared.Use.{Use}
use Rattle.types.specs.declared.Use.TheVariants.{Id, Allele, Filter, Integer as IntegerUse, Info, Format, Gt}
use Rattle.values.proofs.Stand.{may_stand_wide}
use Rattle.values.specs.Values.{integer, true_length, keyed, described, present}
use Rattle.vectors.specs.Sound.{most_of, sound}
use Rattle.vectors.specs.Vectors.{unsound, Sound}
use Rattle.fixed.specs.Layout.{most_bytes}
use Rattle.site.specs.Alleles.{allele_bytes, allele}
use Rattle.site.specs.Filters.{filters, filtered, filter}
use Rattle.site.specs.Site.{info}
use Rattle.site.specs.Steps.{value_step}
use Rattle.shown.specs.Shown.{Kind, integers, floats, text, Pair}
use Rattle.encode.specs.Encode.{integer_bytes, descriptor_bytes, widest, narrowed, elements_bytes, value_bytes}
use Rattle.build_given.specs.Given.{number_of, filters_number, allele_number}
use Rattle.shown.specs.Values.{written_as, given_bytes, pair_bytes}
use Rattle.build_rules.specs.Rules.{key_number}
use Rattle.build_rules.specs.Values.{any, given_as, given_number}
use Rattle.build_laws.specs.Records.{Fit, KeepsAllele, KeepsInfo}
use Rattle.shown.specs.Records.{text_bytes, info_bytes}
use Rattle.build_laws.proofs.Widths.{narrowest_types, shown_narrowest, widest_types, held_written}
use Rattle.std.specs.Prelude.{Ok}
use Rattle.values.specs.declared.Value.{Value}
use Rattle.values.specs.Answers.{one, typed, Answer, whole}
use Rattle.build_laws.proofs.Elements.{length_elements_bytes, shown_numbers_elements, judged_elements}

-- types 1 to 3, one by one
pub by_type : (P : ℕ → Type 0) → P 1 → P 2 → P 3 → (t : ℕ) → 0 < t → t ≤ 3 → P t
by_type P a b c zero h k = absurd (omega arith)
by_type P a b c (suc zero) h k = a
by_type P a b c (suc (suc zero)) h k = b
by_type P a b c (suc (suc (suc zero))) h k = c
by_type P a b c (suc (suc (suc (suc t)))) h k = absurd (omega arith)

-- the integer types have the same uses
same_uses : (w v : ℕ) (role : Use) → allowed (integer_row w) role ≡ allowed (integer_row v) role
same_uses w v Id = refl
same_uses w v Allele = refl
same_uses w v Filter = refl
same_uses w v IntegerUse = refl
same_uses w v Info = refl
same_uses w v Format = refl
same_uses w v Gt = refl

pub allowed_integers : (role : Use) (t : ℕ) → 0 < t → t ≤ 3 → allowed (row_of 3) role ≡ true → allowed (row_of t) role ≡ true
unfolding row_of
allowed_integers role t h k e = by_type (λ t. allowed (row_of t) role ≡ true) (same_uses 1 4 role ∙ e) (same_uses 2 4 role ∙ e) e t h k

-- one integer
pub integer_bytes_lem : (at x : ℕ) (m : List ℕ) → x < 4294967296 → integer at (integer_bytes x ++ m) ≡ one x (at + length (integer_bytes x))
unfolding integer integer_bytes row_of
integer_bytes_lem at x m h =
    let t = narrowest x in
    let n = narrowest_types x in
    let b = length_bytes (width_of t) x in
    let low : (16 + t) % 16 ≡ t = omega arith in
    let one : (16 + t) / 16 ≡ 1 = omega arith in
    let room : ltb (length (bytes (width_of t) x ++ m)) (width_of t) ≡ false =
    le-ltb (length (bytes (width_of t) x ++ m)) (width_of t) (rw length-append (omega arith)) in
    let next : at + 1 + width_of t ≡ at + suc (length (bytes (width_of t) x)) = omega arith in
    rw (low, one, allowed_integers IntegerUse t n.0 n.1 refl, room, shown_narrowest x m h, next)

-- a true length
pub true_length_bytes : (at n : ℕ) (m : List ℕ) → 15 ≤ n → n < 2147483648
    → true_length at (integer_bytes n ++ m) ≡ one n (at + length (integer_bytes n))
unfolding true_length row_of
true_length_bytes at n m l h =
    rw (integer_bytes_lem at n m (omega arith), le-ltb n 15 l, lt-leb 2147483648 n h)

-- a descriptor
pub described_bytes : (role : Use) (at t n : ℕ) (m : List ℕ) → allowed (row_of t) role ≡ true → (t < 16) × (0 < width_of t) → n < 2147483648
    → described role at (descriptor_bytes t n ++ m) ≡ typed t n (at + length (descriptor_bytes t n))
unfolding described descriptor_bytes
described_bytes role at t n m e k h = by-test (ltb n 15) refl
  where
    by-test : (b : Bool) → ltb n 15 ≡ b
        → described role at (pick b ((n * 16 + t % 16) ∷ []) ((0xF0 + t % 16) ∷ integer_bytes n) ++ m)
        ≡ typed t n (at + length (pick b ((n * 16 + t % 16) ∷ []) ((0xF0 + t % 16) ∷ integer_bytes n)))
    by-test true s =
        let low : (n * 16 + t % 16) % 16 ≡ t = omega arith in
        let high : (n * 16 + t % 16) / 16 ≡ n = omega arith in
        rw (low, high, may_stand_wide role t n e k.1, s)
    by-test false s =
        let low : (0xF0 + t % 16) % 16 ≡ t = omega arith in
        let high : (0xF0 + t % 16) / 16 ≡ 15 = omega arith in
        let next : at + 1 + length (integer_bytes n) ≡ at + suc (length (integer_bytes n)) = omega arith in
        rw (low, high, may_stand_wide role t 15 e k.1, true_length_bytes (at + 1) n m (ltb-false n 15 s) h, next)

-- a value that is there
pub present_bytes : (vectors : ℕ) (role : Use) (at t n : ℕ) (xs m : List ℕ) → allowed (row_of t) role ≡ true → (t < 16) × (0 < width_of t)
    → n < 2147483648
    → length xs ≡ vectors * n
    → present vectors role at (value_bytes t n xs ++ m) ≡ whole t n (at + length (descriptor_bytes t n)) (at + length (value_bytes t n xs))
unfolding present value_bytes
present_bytes vectors role at t n xs m e k h c =
    let d = descriptor_bytes t n in
    let els = elements_bytes t xs in
    let size : length els ≡ vectors * n * width_of t = rw (length_elements_bytes t xs, c) in
    let whole : length (d ++ els) ≡ length d + vectors * n * width_of t = rw (length-append, size) in
    let stop : at + length d + vectors * n * width_of t ≡ at + length (d ++ els) = omega arith in
    let room : leb (at + length (d ++ els)) (at + length (d ++ els ++ m)) ≡ true =
    le-leb (at + length (d ++ els)) (at + length (d ++ els ++ m)) (rw (length-append (d ++ els) m) (omega arith)) in
    rw (append_assoc d els m, described_bytes role at t n (els ++ m) e k h, stop, ← append_assoc d els m, room)

-- the type that a value is written in, of the uses of the type that it was given as
pub written_type : (k : Kind) (xs : List ℕ) → (written_as k xs < 16) × (0 < width_of (written_as k xs))
unfolding width_of row_of
written_type integers xs =
    let h = widest_types xs in
    (omega (arith, h.1), by_type (λ t. 0 < width_of t) (omega arith) (omega arith) (omega arith) (widest xs) h.0 h.1)
written_type floats xs = (omega arith, omega arith)
written_type text xs = (omega arith, omega arith)

allowed_written : (k : Kind) (xs : List ℕ) (role : Use) → allowed (row_of (given_as k)) role ≡ true → allowed (row_of (written_as k xs)) role ≡ true
allowed_written integers xs role h = let e = widest_types xs in allowed_integers role (widest xs) e.0 e.1 h
allowed_written floats xs role h = h
allowed_written text xs role h = h

-- a value has as many bytes as elements, or more
pub length_given : (k : Kind) (n : ℕ) (xs : List ℕ) → length xs ≤ length (given_bytes k n xs)
unfolding given_bytes value_bytes
length_given k n xs =
    let t = written_as k xs in
    let a : length xs ≤ length xs * width_of t = le-mul_of_pos_right (length xs) (written_type k xs).1 in
    rw (length-append, length_elements_bytes t xs) (omega arith)

-- where a value that was given stands: its type, its length, its first element and the place after it
abbrev pub given_value : Kind → ℕ → List ℕ → ℕ → Answer Value
given_value k n xs at =
    whole (written_as k xs) n (at + length (descriptor_bytes (written_as k xs) n)) (at + length (given_bytes k n xs))

pub present_given : (vectors : ℕ) (role : Use) (at : ℕ) (k : Kind) (n : ℕ) (xs m : List ℕ) → allowed (row_of (given_as k)) role ≡ true
    → n < 2147483648 → length xs ≡ vectors * n → present vectors role at (given_bytes k n xs ++ m) ≡ given_value k n xs at
unfolding given_bytes
present_given vectors role at k n xs m e h c =
    present_bytes vectors role at (written_as k xs) n xs m (allowed_written k xs role e) (written_type k xs) h c

-- what follows bytes, from any place on
pub drop_front : (at : ℕ) (b m : List ℕ) → drop (at + length b - at) (b ++ m) ≡ m
drop_front at b m = drop_at b m (at + length b - at) (omega arith)

-- the elements' bytes in a value
pub elements_drop : (at t n : ℕ) (xs m : List ℕ) → drop (at + length (descriptor_bytes t n) - at) (value_bytes t n xs ++ m) ≡ elements_bytes t xs ++ m
unfolding value_bytes
elements_drop at t n xs m =
    rw (append_assoc (descriptor_bytes t n) (elements_bytes t xs) m) (drop_front at (descriptor_bytes t n) (elements_bytes t xs ++ m))

pub elements_size : (at t n : ℕ) (xs : List ℕ)
    → at + length (value_bytes t n xs) - (at + length (descriptor_bytes t n)) ≡ length (elements_bytes t xs)
unfolding value_bytes
elements_size at t n xs = rw (length-append (descriptor_bytes t n) (elements_bytes t xs)) (omega arith)

elements_part : (at t n : ℕ) (xs m : List ℕ)
    → take (at + length (value_bytes t n xs) - (at + length (descriptor_bytes t n))) (drop (at + length (descriptor_bytes t n) - at) (value_bytes t n xs ++ m))
    ≡ elements_bytes t xs
elements_part at t n xs m =
    rw (elements_drop at t n xs m, elements_size at t n xs) (take_at (elements_bytes t xs) m (length (elements_bytes t xs)) refl)

-- a value that is sound
pub sound_given : (vectors alleles : ℕ) (role : Use) (at : ℕ) (k : Kind) (n : ℕ) (xs m : List ℕ) → allowed (row_of (given_as k)) role ≡ true
    → n < 2147483648 → length xs ≡ vectors * n → Fit k xs → given_number (most_of role alleles (given_as k)) k n xs ≡ 0
    → sound vectors alleles role at (given_bytes k n xs ++ m) ≡ given_value k n xs at
unfolding sound given_bytes given_number
sound_given vectors alleles role at k n xs m e h c f r =
    let t = written_as k xs in
    let j = judged_elements t (given_as k) n alleles role xs (held_written k xs f) (written_type k xs).1 r in
    rw (present_bytes vectors role at t n xs m (allowed_written k xs role e) (written_type k xs) h c, elements_part at t n xs m, j)

-- one vector has the length of its elements
pub one_vector : (k : Kind) (xs : List ℕ) → length (given_bytes k (length xs) xs) ≤ most_bytes → length xs < 2147483648
one_vector k xs h = let e = length_given k (length xs) xs in omega arith

-- ID
pub id_given_lem : (at : ℕ) (xs m : List ℕ) → Fit text xs → given_number any text (length xs) xs ≡ 0 → length (text_bytes xs) ≤ most_bytes
    → value_step (sound 1 0 Id at (text_bytes xs ++ m)) ≡ Ok (at + length (text_bytes xs))
unfolding row_of
id_given_lem at xs m f r h = rw (sound_given 1 0 Id at text (length xs) xs m refl (one_vector text xs h) (omega arith) f r)

-- text is written as its bytes
elements_text : (xs : List ℕ) → Fit text xs → elements_bytes 7 xs ≡ xs
unfolding elements_bytes narrowed width_of row_of bytes
elements_text [] h = refl
elements_text (x ∷ xs) h = let e : x % 256 ≡ x = omega (arith, h.0) in rw (e, elements_text xs h.1)

-- an allele
number_allele : (at at' : ℕ) (xs : List ℕ) → number_of (allele_bytes at xs) ≡ 0 → allele_bytes at' xs ≡ Sound
unfolding allele_bytes
number_allele at at' [] h = refl
number_allele at at' (b ∷ bs) h = by_tests (ltb b 0x21) (ltb 0x7E b) h (number_allele (at + 1) (at' + 1) bs)
  where
    by_tests : (x y : Bool) → number_of (pick x (unsound 9 at) (pick y (unsound 9 at) (allele_bytes (at + 1) bs))) ≡ 0
        → (number_of (allele_bytes (at + 1) bs) ≡ 0 → allele_bytes (at' + 1) bs ≡ Sound)
        → pick x (unsound 9 at') (pick y (unsound 9 at') (allele_bytes (at' + 1) bs)) ≡ Sound
    by_tests true y s on = absurd (omega arith)
    by_tests false true s on = absurd (omega arith)
    by_tests false false s on = on s

pub allele_given_lem : (at : ℕ) (xs m : List ℕ) → KeepsAllele xs → length (text_bytes xs) ≤ most_bytes
    → allele at (text_bytes xs ++ m) ≡ Ok (at + length (text_bytes xs))
unfolding allele row_of given_bytes allele_number
allele_given_lem at xs m k h =
    rw (
      present_given 1 Allele at text (length xs) xs m refl (one_vector text xs h) (omega arith),
      k.some,
      elements_part at 7 (length xs) xs m,
      elements_text xs k.fit,
      number_allele 0 0 xs k.rules,
    )

-- FILTER
pub number_filters : (strings w w' at at' : ℕ) (earlier xs : List ℕ) → number_of (filters strings w at earlier xs) ≡ 0
    → filters strings w' at' earlier xs ≡ Sound
unfolding filters
number_filters strings w w' at at' earlier [] h = refl
number_filters strings w w' at at' earlier (x ∷ xs) h =
    by_tests (outside strings x) (among x earlier) h (number_filters strings w w' (at + w) (at' + w') (x ∷ earlier) xs)
  where
    given : Answer (Unit {0})
    given = filters strings w (at + w) (x ∷ earlier) xs

    held : Answer (Unit {0})
    held = filters strings w' (at' + w') (x ∷ earlier) xs

    by_tests : (a b : Bool) → number_of (pick a (unsound 8 at) (pick b (unsound 11 at) given)) ≡ 0 → (number_of given ≡ 0 → held ≡ Sound)
        → pick a (unsound 8 at') (pick b (unsound 11 at') held) ≡ Sound
    by_tests true b s on = absurd (omega arith)
    by_tests false true s on = absurd (omega arith)
    by_tests false false s on = on s

filtered_elements : (strings : ℕ) (k : Kind) (xs : List ℕ) → Fit k xs → filters_number strings xs ≡ 0
    → filtered strings (written_as k xs) (elements_bytes (written_as k xs) xs) ≡ Sound
unfolding filtered filters_number
filtered_elements strings k xs f r =
    let t = written_as k xs in
    let e : length (elements_bytes t xs) / width_of t ≡ length xs =
    rw (length_elements_bytes t xs) (mul-div_cancel (length xs) (written_type k xs).1) in
    let s = rw (append-nil (elements_bytes t xs)) at (shown_numbers_elements t (given_as k) xs [] (held_written k xs f)) in
    rw (e, s) (number_filters strings 0 (width_of t) 0 0 [] xs r)

pub filter_given_lem : (strings at : ℕ) (xs m : List ℕ) → Fit integers xs → filters_number strings xs ≡ 0
    → length (given_bytes integers (length xs) xs) ≤ most_bytes
    → filter strings at (given_bytes integers (length xs) xs ++ m) ≡ Ok (at + length (given_bytes integers (length xs) xs))
unfolding filter row_of given_bytes
filter_given_lem strings at xs m f r h =
    rw (
      present_given 1 Filter at integers (length xs) xs m refl (one_vector integers xs h) (omega arith),
      elements_part at (widest xs) (length xs) xs m,
      filtered_elements strings integers xs f r,
    )

-- a key: below the dictionary's size, so no negative number
key_inside : (strings key : ℕ) → key_number strings key ≡ 0 → outside strings key ≡ false
unfolding key_number
key_inside strings key h = by-test (outside strings key) h
  where
    by-test : (b : Bool) → pick {A = ℕ} b 8 0 ≡ 0 → b ≡ false
    by-test true e = absurd (omega arith)
    by-test false e = refl

pub key_bits : (strings key : ℕ) → key_number strings key ≡ 0 → key < 4294967296
unfolding outside
key_bits strings key h = by-test (leb 0x80000000 key) refl (key_inside strings key h)
  where
    by-test : (b : Bool) → leb 0x80000000 key ≡ b → pick b true (leb strings key) ≡ false → key < 4294967296
    by-test true e z = let y : ◌≡◌ {A = ℕ} 0 1 = cc in absurd (omega arith)
    by-test false e z = omega (arith, leb-false 0x80000000 key e)

pub keyed_bytes : (strings at key : ℕ) (m : List ℕ) → key_number strings key ≡ 0
    → keyed strings at (integer_bytes key ++ m) ≡ one key (at + length (integer_bytes key))
unfolding keyed row_of
keyed_bytes strings at key m k = rw (integer_bytes_lem at key m (key_bits strings key k), key_inside strings key k)

-- every use of a value in INFO and FORMAT is allowed
pub allowed_info : (k : Kind) → allowed (row_of (given_as k)) Info ≡ true
unfolding row_of
allowed_info integers = refl
allowed_info floats = refl
allowed_info text = refl

-- an INFO pair
pub info_given_lem : (strings at : ℕ) (p : Pair) (m : List ℕ) → KeepsInfo strings p → length (info_bytes p) ≤ most_bytes
    → info strings at (info_bytes p ++ m) ≡ Ok (at + length (info_bytes p))
unfolding info pair_bytes
info_given_lem strings at p m k h =
    let key = p.key in
    let xs = p.value.elements in
    let b = integer_bytes key in
    let v = given_bytes p.value.kind (length xs) xs in
    let l : length (b ++ v) ≡ length b + length v = length-append b v in
    let e : at + length b + length v ≡ at + length (b ++ v) = omega arith in
    let s = sound_given 1 0 Info (at + length b) p.value.kind (length xs) xs m (allowed_info p.value.kind)
    (one_vector p.value.kind xs (omega arith)) (omega arith) k.fit k.rules in
    rw (append_assoc b v m, keyed_bytes strings at key (v ++ m) k.inside, drop_front at b (v ++ m), s) (rw e)
