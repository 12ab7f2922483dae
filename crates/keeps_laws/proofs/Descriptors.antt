-- Keys, true lengths and descriptors that are there: they are written in no more bytes than they stand in, and a key is an offset. Rests on
-- proofs/Elements, on the table's rule, and on fetch_laws' laws of what is there.
use mathlib.Core.Path.{◌≡◌, refl, ◌∙◌, sym}
use mathlib.Core.List.{List, [], ◌∷◌}
use mathlib.Core.Bool.{Bool, true, false}
use Prim.Native.Nat.{ℕ, ◌+◌, ◌-◌, ◌/◌, ◌%◌, ◌<◌, ◌≤◌}
use native.Mathlib.Omega.{arith}
use lib.Dec.{ltb, leb, eqb}
use lib.ListN.{length, drop, length-drop}
use borrow.Author.Tests.{ltb-false, leb-true, leb-false}
use Rattle.words.specs.Pick.{pick}
use Rattle.words.specs.Words.{number, Bytes, outside}
use Rattle.types.specs.Rows.{row_of, width_of, unused, allowed}
use Rattle.types.specs.Elements.{shown, narrowest}
use Rattle.types.specs.declared.Use.{Use}
use Rattle.types.specs.declared.Use.TheVariants.{Id, Allele, Filter, Integer as IntegerUse, Info, Format, Gt}
use Rattle.types.proofs.Table.{whole, rows_rule}
use Rattle.values.specs.Answers.{no_integer, one, no_descriptor, typed, Answer}
use Rattle.values.specs.Values.{integer, long_enough, true_length, in_dictionary, keyed, with_length, may_stand, described}
use Rattle.values.proofs.Stand.{may_stand_zero}
use Rattle.encode.specs.Encode.{integer_bytes, descriptor_bytes}
use Rattle.encode.proofs.Lengths.{length_integer_bytes, length_descriptor_bytes}
use Rattle.build_rules.specs.Rules.{key_number}
use Rattle.fetch.proofs.Inside.{integer_inside}
use Rattle.fetch_laws.proofs.FormatFields.{keyed_integer}
use Rattle.build_laws.proofs.Widths.{narrowest_types}
use Rattle.keeps_laws.proofs.Elements.{Code, bare, wide, free, code, narrowest_shown, width_under}
use Rattle.std.specs.Prelude.{Err, Ok}
use Rattle.values.specs.declared.Integer.{Integer}
use Rattle.keeps_laws.proofs.Vectors.{number_bound}
use Rattle.values.proofs.Held.{same_one, same_typed}

-- keys and true lengths are integers
pub whole_types : (t : ℕ) → whole t ≡ true → (0 < t) × (t ≤ 3)
whole_types t h = by_tests (leb 1 t) (leb t 3) refl refl h
  where
    by_tests : (a b : Bool) → leb 1 t ≡ a → leb t 3 ≡ b → pick a b false ≡ true → (0 < t) × (t ≤ 3)
    by_tests true true p q e = (leb-true 1 t p, leb-true t 3 q)
    by_tests true false p q e = let z : ◌≡◌ {A = ℕ} 0 1 = cc in absurd (omega arith)
    by_tests false b p q e = let z : ◌≡◌ {A = ℕ} 0 1 = cc in absurd (omega arith)

integer_types : (t : ℕ) → t < 16 → allowed (row_of t) IntegerUse ≡ true → (0 < t) × (t ≤ 3)
integer_types t h e = whole_types t (sym (rows_rule t h).integer ∙ e)

-- an integer that is not negative is written in no more bytes than it stands in
integer_long : (at : ℕ) (l : List ℕ) (x next : ℕ) → integer at l ≡ one x next → Bytes l → x < 0x80000000
    → at + length (integer_bytes x) ≤ next
unfolding integer
integer_long at [] x next h b k = let z : ◌≡◌ {A = ℕ} 0 1 = cc in absurd (omega arith)
integer_long at (d ∷ rest) x next h b k =
    by_tests (allowed (row_of t) IntegerUse) (eqb (d / 16) 1) (ltb (length rest) w) refl refl h
  where
    t : ℕ
    t = d % 16

    w : ℕ
    w = width_of t

    by_tests : (a c e : Bool) → allowed (row_of t) IntegerUse ≡ a → ltb (length rest) w ≡ e
        → pick a (pick c (pick e (no_integer 3 (at + 1 + length rest)) (one (shown t (number w rest)) (at + 1 + w))) (no_integer 6 at)) (no_integer 6 at)
        ≡ one x next
        → at + length (integer_bytes x) ≤ next
    by_tests false c e p q i = let z : ◌≡◌ {A = ℕ} 0 1 = cc in absurd (omega arith)
    by_tests true false e p q i = let z : ◌≡◌ {A = ℕ} 0 1 = cc in absurd (omega arith)
    by_tests true true true p q i = let z : ◌≡◌ {A = ℕ} 0 1 = cc in absurd (omega arith)
    by_tests true true false p q i =
        let y = number w rest in
        let same = (same_one i).0 in
        let ends = (same_one i).1 in
        let types = integer_types t (omega arith) p in
        let bound = number_bound w rest b.1 (ltb-false (length rest) w q) in
        let narrow : narrowest x ≤ t = rw same at (narrowest_shown t types.0 types.1 y bound (rw same k)) in
        let size = width_under (narrowest x) t (narrowest_types x).0 narrow types.1 in
        rw (length_integer_bytes x) (omega arith)

-- a key: below the dictionary's size, so not negative
pub not_outside : (strings x : ℕ) → outside strings x ≡ false → x < 0x80000000
unfolding outside
not_outside strings x h = by-test (leb 0x80000000 x) refl h
  where
    by-test : (b : Bool) → leb 0x80000000 x ≡ b → pick b true (leb strings x) ≡ false → x < 0x80000000
    by-test true e z = let y : ◌≡◌ {A = ℕ} 0 1 = cc in absurd (omega arith)
    by-test false e z = leb-false 0x80000000 x e

keyed_offset : (strings at : ℕ) (l : List ℕ) (x next : ℕ) → keyed strings at l ≡ one x next → outside strings x ≡ false
unfolding keyed
keyed_offset strings at l x next h = by-integer (integer at l) h
  where
    by-test : (y q : ℕ) (a : Bool) → outside strings y ≡ a → pick a (no_integer 8 (at + 1)) (one y q) ≡ one x next → outside strings x ≡ false
    by-test y q true p e = cc
    by-test y q false p e = rw (same_one e).0 at p

    by-integer : (i : Answer Integer) → in_dictionary strings at i ≡ one x next → outside strings x ≡ false
    by-integer (Err r) e = cc
    by-integer (Ok i) e = by-test i.bits i.next (outside strings i.bits) refl e

pub record KeyKeeps (strings at : ℕ) (l : List ℕ) (x next : ℕ) : Type 0 where
  pub bits : x < 4294967296
  pub inside : key_number strings x ≡ 0
  pub long : length (integer_bytes x) + length (drop (next - at) l) ≤ length l

pub key_keeps : (strings at : ℕ) (l : List ℕ) (x next : ℕ) → keyed strings at l ≡ one x next → Bytes l → KeyKeeps strings at l x next
unfolding key_number
key_keeps strings at l x next h b =
    let o = keyed_offset strings at l x next h in
    let k = not_outside strings x o in
    let there = keyed_integer strings at l x next h in
    let i = rw there at (integer_inside at l) in
    let long = integer_long at l x next there b k in
    record { bits = omega arith; inside = rw o; long = rw length-drop (omega (arith, i.0, i.1)) }

-- a true length
record Long (at : ℕ) (l : List ℕ) (x next : ℕ) : Type 0 where
  there : integer at l ≡ one x next
  bits : x < 0x80000000

long_enough_lem : (at : ℕ) (l : List ℕ) (x next : ℕ) → true_length at l ≡ one x next → Long at l x next
unfolding true_length
long_enough_lem at l x next h = by-integer (integer at l) refl h
  where
    by_tests : (y q : ℕ) (a b : Bool) → integer at l ≡ one y q → leb 0x80000000 y ≡ b
        → pick a (no_integer 7 at) (pick b (no_integer 7 at) (one y q)) ≡ one x next → Long at l x next
    by_tests y q true b i p e = let z : ◌≡◌ {A = ℕ} 0 1 = cc in absurd (omega arith)
    by_tests y q false true i p e = let z : ◌≡◌ {A = ℕ} 0 1 = cc in absurd (omega arith)
    by_tests y q false false i p e =
        record { there = i ∙ e; bits = rw (same_one e).0 at (leb-false 0x80000000 y p) }

    by-integer : (i : Answer Integer) → integer at l ≡ i → long_enough at i ≡ one x next → Long at l x next
    by-integer (Err r) p e = let z : ◌≡◌ {A = ℕ} 0 1 = cc in absurd (omega arith)
    by-integer (Ok i) p e = by_tests i.bits i.next (ltb i.bits 15) (leb 0x80000000 i.bits) p refl e

-- a descriptor is written in no more bytes than it stands in, and its type has a width, or it is a bare 00
descriptor_short : (u n : ℕ) → length (descriptor_bytes u n) ≤ 1 + length (integer_bytes n)
descriptor_short u n = rw (length_descriptor_bytes u n) (by_length (ltb n 15))
  where
    by_length : (b : Bool) → pick b 1 (1 + length (integer_bytes n)) ≤ 1 + length (integer_bytes n)
    by_length true = omega arith
    by_length false = omega arith

no_use : (role : Use) → allowed unused role ≡ false
no_use Id = refl
no_use Allele = refl
no_use Filter = refl
no_use IntegerUse = refl
no_use Info = refl
no_use Format = refl
no_use Gt = refl

pub data Stands (t n : ℕ) : Type 0 where
  empty : t ≡ 0 → n ≡ 0 → Stands t n
  filled : 0 < width_of t → Stands t n

stands : (role : Use) (t n : ℕ) → may_stand role t n ≡ true → Stands t n
unfolding may_stand
stands role t n h = by_code (code t) h
  where
    by_code : Code t → may_stand role t n ≡ true → Stands t n
    by_code (bare e) k = empty e (may_stand_zero role n (rw e at k)).1
    by_code (wide w) k = filled w
    by_code (free e) k = let y = rw (e, no_use role) at k in let z : ◌≡◌ {A = ℕ} 0 1 = cc in absurd (omega arith)

-- a type that may stand is one that the use allows
stands_use : (role : Use) (t n : ℕ) → may_stand role t n ≡ true → allowed (row_of t) role ≡ true
unfolding may_stand
stands_use role t n h = by-test (allowed (row_of t) role) (pick (eqb t 0) (eqb n 0) true) h
  where
    by-test : (a b : Bool) → pick a b false ≡ true → a ≡ true
    by-test true b e = refl
    by-test false b e = e

pub record Described (role : Use) (at : ℕ) (t n first : ℕ) : Type 0 where
  pub code : t < 16
  pub fits : allowed (row_of t) role ≡ true
  pub there : Stands t n
  pub long : (u : ℕ) → at + length (descriptor_bytes u n) ≤ first

pub described_long : (role : Use) (at : ℕ) (l : List ℕ) (t n first : ℕ) → described role at l ≡ typed t n first → Bytes l
    → Described role at t n first
unfolding described
described_long role at [] t n first h b = let z : ◌≡◌ {A = ℕ} 0 1 = cc in absurd (omega arith)
described_long role at (d ∷ rest) t n first h b =
    by_tests (may_stand role (d % 16) (d / 16)) (ltb (d / 16) 15) (true_length (at + 1) rest) refl refl refl h
  where
    one_byte : (u m : ℕ) → ltb m 15 ≡ true → length (descriptor_bytes u m) ≡ 1
    one_byte u m e = rw (length_descriptor_bytes u m, e)

    by_tests : (a c : Bool) (i : Answer Integer) → may_stand role (d % 16) (d / 16) ≡ a → ltb (d / 16) 15 ≡ c → true_length (at + 1) rest ≡ i
        → pick a (pick c (typed (d % 16) (d / 16) (at + 1)) (with_length (d % 16) i)) (no_descriptor 6 at) ≡ typed t n first → Described role at t n first
    by_tests false c i p q s e = let z : ◌≡◌ {A = ℕ} 0 1 = cc in absurd (omega arith)
    by_tests true true i p q s e =
        let k = same_typed e in
        let type = k.0 in
        let len = k.1 in
        let next = k.2 in
        record {
          code = omega arith;
          fits = rw type at (stands_use role (d % 16) (d / 16) p);
          there = rw (type, len) at (stands role (d % 16) (d / 16) p);
          long = λ u. rw (one_byte u n (rw len at q)) (omega arith);
        }
    by_tests true false (Err r) p q s e = let z : ◌≡◌ {A = ℕ} 0 1 = cc in absurd (omega arith)
    by_tests true false (Ok i) p q s e =
        let same = same_typed e in
        let type = same.0 in
        let len = same.1 in
        let ends = same.2 in
        let k = long_enough_lem (at + 1) rest i.bits i.next s in
        let size = rw (len, ends) at (integer_long (at + 1) rest i.bits i.next k.there b.1 k.bits) in
        record {
          code = omega arith;
          fits = rw type at (stands_use role (d % 16) (d / 16) p);
          there = by-stands (rw type at (stands role (d % 16) (d / 16) p)) (ltb-false (d / 16) 15 q);
          long = λ u. omega (arith, descriptor_short u n);
        }
      where
        by-stands : Stands t (d / 16) → 15 ≤ d / 16 → Stands t n
        by-stands (empty y z) f = absurd (omega arith)
        by-stands (filled w) f = filled w
