-- What stands at the front of a list depends neither on what follows it nor on its label: integers, descriptors, values, fields, numbers,
-- fixed fields. Rests on the definitions of values, vectors and the layout, on fetch/proofs/Inside, and on proofs/Present and Bytes.
use mathlib.Core.Path.{◌≡◌, refl, sym, ◌∙◌, ap}
use mathlib.Core.List.{List, [], ◌∷◌, ◌++◌, append_assoc, map}
use mathlib.Core.Bool.{Bool, true, false}
use Prim.Native.Nat.{ℕ, zero, suc, ◌+◌, ◌-◌, ◌*◌, ◌/◌, ◌%◌, ◌≤◌}
use native.Mathlib.Nat.{suc-mul, suc-add, zero-add}
use native.Mathlib.Omega.{arith}
use lib.Dec.{ltb, leb, eqb}
use lib.ListN.{length, take, drop, length-append}
use lib.Seq.{length-take-le, take_at, drop_at, take-add, take-take, take-nil, take-append-le}
use borrow.Author.Tests.{ltb-false, le-ltb, le-leb}
use Rattle.words.specs.Pick.{pick}
use Rattle.words.specs.Words.{number, outside}
use Rattle.types.specs.Rows.{row_of, width_of, allowed}
use Rattle.types.specs.Elements.{shown}
use Rattle.types.specs.declared.Use.{Use}
use Rattle.types.specs.declared.Use.TheVariants.{Integer as IntegerUse}
use Rattle.values.specs.Answers.{no_integer, one, no_descriptor, typed, IntegerInside, Answer, whole}
use Rattle.values.specs.Values.{integer, long_enough, true_length, in_dictionary, keyed, with_length, may_stand, described, present}
use Rattle.vectors.specs.Vectors.{numbers, shown_numbers}
use Rattle.fixed.specs.Layout.{field}
use Rattle.fetch.specs.Fields.{paired, found_field}
use Rattle.fetch_laws.proofs.Bytes.{part_of_lem}
use Rattle.values.proofs.Held.{same_one, same_typed}
use Rattle.fetch.proofs.Inside.{integer_inside}
use Rattle.std.specs.Prelude.{Err, Ok}
use Rattle.values.specs.declared.Integer.{Integer}
use Rattle.fetch_laws.proofs.Present.{present_typed, paired_keyed}

-- the number at the front of a list is that of its bytes, whatever follows
number_front : (w : ℕ) (l m : List ℕ) → w ≤ length l → number w (take w l ++ m) ≡ number w l
unfolding number
number_front w l m h = rw (take_at (take w l) m w (length-take-le w l h))

pub integer_front : (at at' : ℕ) (l m : List ℕ) (x next : ℕ) → integer at l ≡ one x next
    → integer at' (take (next - at) l ++ m) ≡ one x (at' + (next - at))
unfolding integer
integer_front at at' [] m x next h = cc
integer_front at at' (d ∷ rest) m x next h =
    by_tests (allowed (row_of (d % 16)) IntegerUse) (eqb (d / 16) 1) (ltb (length rest) (width_of (d % 16))) refl refl refl h
  where
    w : ℕ
    w = width_of (d % 16)

    by_tests : (a b c : Bool) → allowed (row_of (d % 16)) IntegerUse ≡ a → eqb (d / 16) 1 ≡ b → ltb (length rest) w ≡ c
        → pick a (pick b (pick c (no_integer 3 (at + 1 + length rest)) (one (shown (d % 16) (number w rest)) (at + 1 + w))) (no_integer 6 at)) (no_integer 6 at)
        ≡ one x next
        → integer at' (take (next - at) (d ∷ rest) ++ m) ≡ one x (at' + (next - at))
    by_tests false b c p q r e = cc
    by_tests true false c p q r e = cc
    by_tests true true true p q r e = cc
    by_tests true true false p q r e =
        let y = same_one e in
        let i = y.1 in
        let j = y.0 in
        let k : w ≤ length rest = ltb-false (length rest) w r in
        let o : next - at ≡ suc w = omega arith in
        let z : ltb (length (take w rest ++ m)) w ≡ false =
        le-ltb (length (take w rest ++ m)) w (rw (length-append, length-take-le w rest k) (omega arith)) in
        let u : at' + 1 + w ≡ at' + suc w = omega arith in
        rw (o, p, q, z, number_front w rest m k, j, u)

-- a true length, or a key, is an integer that passed its tests
true_length_front : (at at' : ℕ) (l m : List ℕ) (x next : ℕ) → true_length at l ≡ one x next
    → true_length at' (take (next - at) l ++ m) ≡ one x (at' + (next - at))
unfolding true_length
true_length_front at at' l m x next h = by-integer (integer at l) refl h
  where
    by_tests : (y q : ℕ) (a b : Bool) → integer at l ≡ one y q → ltb y 15 ≡ a → leb 0x80000000 y ≡ b
        → pick a (no_integer 7 at) (pick b (no_integer 7 at) (one y q)) ≡ one x next
        → long_enough at' (integer at' (take (next - at) l ++ m)) ≡ one x (at' + (next - at))
    by_tests y q true b i u v e = cc
    by_tests y q false true i u v e = cc
    by_tests y q false false i u v e =
        let k = (same_one e).0 in
        let j : integer at l ≡ one x next = rw (i, k, (same_one e).1) in
        let u' : ltb x 15 ≡ false = rw k at u in
        let v' : leb 0x80000000 x ≡ false = rw k at v in
        rw (integer_front at at' l m x next j, u', v')

    by-integer : (i : Answer Integer) → integer at l ≡ i → long_enough at i ≡ one x next
        → long_enough at' (integer at' (take (next - at) l ++ m)) ≡ one x (at' + (next - at))
    by-integer (Err r) p e = cc
    by-integer (Ok i) p e = by_tests i.bits i.next (ltb i.bits 15) (leb 0x80000000 i.bits) p refl refl e

pub keyed_front : (strings at at' : ℕ) (l m : List ℕ) (x next : ℕ) → keyed strings at l ≡ one x next
    → keyed strings at' (take (next - at) l ++ m) ≡ one x (at' + (next - at))
unfolding keyed
keyed_front strings at at' l m x next h = by-integer (integer at l) refl h
  where
    by-test : (y q : ℕ) (a : Bool) → integer at l ≡ one y q → outside strings y ≡ a
        → pick a (no_integer 8 (at + 1)) (one y q) ≡ one x next
        → in_dictionary strings at' (integer at' (take (next - at) l ++ m)) ≡ one x (at' + (next - at))
    by-test y q true i u e = cc
    by-test y q false i u e =
        let k = (same_one e).0 in
        let j : integer at l ≡ one x next = rw (i, k, (same_one e).1) in
        let u' : outside strings x ≡ false = rw k at u in
        rw (integer_front at at' l m x next j, u')

    by-integer : (i : Answer Integer) → integer at l ≡ i → in_dictionary strings at i ≡ one x next
        → in_dictionary strings at' (integer at' (take (next - at) l ++ m)) ≡ one x (at' + (next - at))
    by-integer (Err r) p e = cc
    by-integer (Ok i) p e = by-test i.bits i.next (outside strings i.bits) p refl e

-- a true length comes to a place after its descriptor
true_length_later : (at : ℕ) (l : List ℕ) (x next : ℕ) → true_length at l ≡ one x next → at ≤ next
unfolding true_length
true_length_later at l x next h = by-integer (integer at l) (integer_inside at l) h
  where
    by_tests : (y q : ℕ) (a b : Bool) → at ≤ q → pick a (no_integer 7 at) (pick b (no_integer 7 at) (one y q)) ≡ one x next → at ≤ next
    by_tests y q true b i e = let z : ◌≡◌ {A = ℕ} 0 1 = cc in absurd (omega arith)
    by_tests y q false true i e = let z : ◌≡◌ {A = ℕ} 0 1 = cc in absurd (omega arith)
    by_tests y q false false i e = let k = (same_one e).1 in omega arith

    by-integer : (i : Answer Integer) → IntegerInside at (at + length l) i → long_enough at i ≡ one x next → at ≤ next
    by-integer (Err r) p e = let z : ◌≡◌ {A = ℕ} 0 1 = cc in absurd (omega arith)
    by-integer (Ok i) p e = by_tests i.bits i.next (ltb i.bits 15) (leb 0x80000000 i.bits) (omega arith) e

pub described_front : (role : Use) (at at' : ℕ) (l m : List ℕ) (t n first : ℕ) → described role at l ≡ typed t n first
    → described role at' (take (first - at) l ++ m) ≡ typed t n (at' + (first - at))
unfolding described
described_front role at at' [] m t n first h = cc
described_front role at at' (d ∷ rest) m t n first h =
    by_tests (may_stand role (d % 16) (d / 16)) (ltb (d / 16) 15) (true_length (at + 1) rest) refl refl refl h
  where
    by_tests : (a b : Bool) (i : Answer Integer) → may_stand role (d % 16) (d / 16) ≡ a → ltb (d / 16) 15 ≡ b → true_length (at + 1) rest ≡ i
        → pick a (pick b (typed (d % 16) (d / 16) (at + 1)) (with_length (d % 16) i)) (no_descriptor 6 at) ≡ typed t n first
        → described role at' (take (first - at) (d ∷ rest) ++ m) ≡ typed t n (at' + (first - at))
    by_tests false b i p q r e = cc
    by_tests true true i p q r e =
        let k = same_typed e in
        let j = k.2 in
        let u : first - at ≡ 1 = omega arith in
        rw (u, p, q, k.0, k.1)
    by_tests true false (Err x) p q r e = cc
    by_tests true false (Ok i) p q r e =
        let k = same_typed e in
        let g : true_length (at + 1) rest ≡ one n first = rw (r, k.1, k.2) in
        let v = true_length_later (at + 1) rest n first g in
        let o : first - at ≡ suc (first - (at + 1)) = omega arith in
        let u : at' + 1 + (first - (at + 1)) ≡ at' + suc (first - (at + 1)) = omega arith in
        rw (o, p, q, true_length_front (at + 1) (at' + 1) rest m n first g, k.0, u)

-- a value's descriptor before the elements of so many vectors
pub present_front : (vectors k : ℕ) (role : Use) (at at' : ℕ) (l els m : List ℕ) (t n first stop : ℕ)
    → present vectors role at l ≡ whole t n first stop → length els ≡ k * n * width_of t
    → present k role at' (take (first - at) l ++ (els ++ m)) ≡ whole t n (at' + (first - at)) (at' + (first - at) + k * n * width_of t)
unfolding present
present_front vectors k role at at' l els m t n first stop h e =
    let i = present_typed vectors role at l t n first stop h in
    let a = i.ends in
    let b = i.later in
    let c = i.inside in
    let q : at' + (first - at) + k * n * width_of t ≤ at' + length (take (first - at) l ++ (els ++ m)) =
    rw (length-append, length-take-le (first - at) l (omega arith), length-append, e) (omega arith) in
    rw (described_front role at at' l (els ++ m) t n first i.descriptor, le-leb _ _ q)

-- a key and a descriptor are the key, and then the descriptor
pub take_past : (l : List ℕ) (at p q : ℕ) → at ≤ p → p ≤ q → take (q - at) l ≡ take (p - at) l ++ take (q - p) (drop (p - at) l)
take_past l at p q h k = let e : q - at ≡ p - at + (q - p) = omega arith in rw e (take-add (p - at) (q - p) l)

-- a field's key and descriptor before the elements of so many vectors
pub paired_front : (vectors k : ℕ) (role : Use) (at at' : ℕ) (l els m : List ℕ) (key t n first stop : ℕ)
    → paired vectors role at l ≡ found_field key t n first stop → length els ≡ k * n * width_of t
    → paired k role at' (take (first - at) l ++ (els ++ m)) ≡ found_field key t n (at' + (first - at)) (at' + (first - at) + k * n * width_of t)
unfolding paired
paired_front vectors k role at at' l els m key t n first stop h e =
    let r = paired_keyed vectors role at l key t n first stop h in
    let a = r.later in
    let b = r.inside in
    let q = r.next in
    let i = present_typed vectors role q (drop (q - at) l) t n first stop r.value in
    let c = i.later in
    let rest = take (first - q) (drop (q - at) l) ++ (els ++ m) in
    let split : take (first - at) l ++ (els ++ m) ≡ take (q - at) l ++ rest = rw (take_past l at q first a c, append_assoc) in
    let j : drop (at' + (q - at) - at') (take (q - at) l ++ rest) ≡ rest =
    drop_at (take (q - at) l) rest (at' + (q - at) - at') (rw (length-take-le (q - at) l (omega arith)) (omega arith)) in
    let u : at' + (q - at) + (first - q) ≡ at' + (first - at) = omega arith in
    rw (split, integer_front at at' l rest key q r.number, j, present_front vectors k role q (at' + (q - at)) (drop (q - at) l) els m t n first stop r.value e, u)

-- past the front of a part that goes on behind it
drop_take : {A : Type 0} (w k : ℕ) (l : List A) → drop w (take (w + k) l) ≡ take k (drop w l)
drop_take zero k l = rw (zero-add k)
drop_take {A} (suc w) k [] = rw (take-nil {A = A} (suc w + k), take-nil {A = A} k)
drop_take (suc w) k (x ∷ l) = rw (suc-add w k) (drop_take w k l)

-- numbers depend on their own bytes only
pub numbers_take : (w n : ℕ) (l m : List ℕ) → take (n * w) l ≡ take (n * w) m → numbers w n l ≡ numbers w n m
unfolding numbers number
numbers_take w zero l m h = refl
numbers_take w (suc n) l m h =
    let e : suc n * w ≡ w + n * w = omega (arith, suc-mul n w) in
    let k : take (w + n * w) l ≡ take (w + n * w) m = rw e at h in
    let front : take w l ≡ take w m =
    sym (take-take w (w + n * w) l (omega arith)) ∙ ap (take w) k ∙ take-take w (w + n * w) m (omega arith) in
    let rest : take (n * w) (drop w l) ≡ take (n * w) (drop w m) = sym (drop_take w (n * w) l) ∙ ap (drop w) k ∙ drop_take w (n * w) m in
    rw (front, numbers_take w n (drop w l) (drop w m) rest)

pub shown_numbers_numbers : (t w n : ℕ) (l : List ℕ) → shown_numbers t w n l ≡ map (shown t) (numbers w n l)
unfolding shown_numbers numbers
shown_numbers_numbers t w zero l = refl
shown_numbers_numbers t w (suc n) l = rw (shown_numbers_numbers t w n (drop w l))

-- a field is its four bytes
pub field_part : (p : ℕ) (l m : List ℕ) → take 4 (drop p l) ≡ take 4 (drop p m) → field p l ≡ field p m
unfolding field number
field_part p l m h = rw h

pub field_take : (p n : ℕ) (l : List ℕ) → p + 4 ≤ n → field p (take n l) ≡ field p l
field_take p n l h = field_part p (take n l) l (part_of_lem l p 4 n h)

pub field_append : (p : ℕ) (l m : List ℕ) → p + 4 ≤ length l → field p (l ++ m) ≡ field p l
field_append p l m h =
    sym (field_take p (p + 4) (l ++ m) (omega arith)) ∙ ap (field p) (take-append-le (p + 4) l m h) ∙ field_take p (p + 4) l (omega arith)
