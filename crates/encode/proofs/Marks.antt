-- The low bytes of an element of a narrow type, which are those of a number put together with no branch, and of any other. Rests on the
-- definitions of specs/Encode and specs/Engine.
use Rattle.std.proofs.Common.{◌≡◌, ◌≢◌, ℕ, ◌+◌, ◌≤◌, Bool, true, false, refl, arith, eqb}
use borrow.Author.Tests.{eqb-true, ne_eqb, eq-eqb, eqb-false}
use Rattle.words.specs.Pick.{pick}
use Rattle.words.specs.Words.{bytes}
use Rattle.types.specs.Rows.{width_of, row_of}
use Rattle.encode.specs.Encode.{marked_as, narrowed}
use Rattle.encode.specs.Engine.{is_mark}
use native.Mathlib.Nat.{add-mul-mod_self_right, add_comm}
use Prim.Native.Nat.{◌%◌, ◌*◌, ◌/◌}
use mathlib.Core.Path.{◌∙◌}

-- what holds of both marks holds of a mark
by_mark : (P : ℕ → Type 0) → P 0x80000000 → P 0x80000001 → (x : ℕ) → is_mark x ≡ true → P x
unfolding is_mark
by_mark P p q x h = by_tests (eqb x 0x80000000) (eqb x 0x80000001) refl refl h
  where
    by_tests : (a b : Bool) → eqb x 0x80000000 ≡ a → eqb x 0x80000001 ≡ b → pick a true b ≡ true → P x
    by_tests true b d e h = rw (eqb-true _ _ d) p
    by_tests false true d e h = rw (eqb-true _ _ e) q
    by_tests false false d e h = cc

pub mark_most : (x : ℕ) → is_mark x ≡ true → x ≤ 0x80000001
mark_most = by_mark (λ x. x ≤ 0x80000001) (omega arith) (omega arith)

-- the end of vector is one more than missing, in every type
pub byte_marked : (t x : ℕ) → t ≡ 1 → is_mark x ≡ true → bytes (width_of t) (x + 0x80) ≡ bytes (width_of t) (narrowed t x)
unfolding bytes width_of row_of narrowed marked_as
byte_marked t x e = rw e (by_mark (λ x. bytes (width_of 1) (x + 0x80) ≡ bytes (width_of 1) (narrowed 1 x)) refl refl x)

pub pair_marked : (t x : ℕ) → t ≡ 2 → is_mark x ≡ true → bytes (width_of t) (x + 0x8000) ≡ bytes (width_of t) (narrowed t x)
unfolding bytes width_of row_of narrowed marked_as
pair_marked t x e = rw e (by_mark (λ x. bytes (width_of 2) (x + 0x8000) ≡ bytes (width_of 2) (narrowed 2 x)) refl refl x)

-- both marks of type 3 have the same half, and no other number has it
pub mark_half : (x : ℕ) → eqb (x / 2) 0x40000000 ≡ is_mark x
unfolding is_mark
mark_half x = by_tests (eqb x 0x80000000) (eqb x 0x80000001) refl refl
  where
    by_tests : (a b : Bool) → eqb x 0x80000000 ≡ a → eqb x 0x80000001 ≡ b → eqb (x / 2) 0x40000000 ≡ pick a true b
    by_tests true b p q = let e : x ≡ 0x80000000 = eqb-true _ _ p in eq-eqb (x / 2) 0x40000000 (omega arith)
    by_tests false true p q = let e : x ≡ 0x80000001 = eqb-true _ _ q in eq-eqb (x / 2) 0x40000000 (omega arith)
    by_tests false false p q =
        let e : x ≢ 0x80000000 = eqb-false _ _ p in
        let f : x ≢ 0x80000001 = eqb-false _ _ q in
        ne_eqb (x / 2) 0x40000000 (λ h. omega (arith, e, f, h))

-- the end of vector is one more than missing, in every type
marked_step : (missing x : ℕ) → marked_as missing x ≡ pick (is_mark x) (missing + x % 2) x
unfolding marked_as is_mark
marked_step missing x = by_tests (eqb x 0x80000000) (eqb x 0x80000001) refl refl
  where
    by_tests : (a b : Bool) → eqb x 0x80000000 ≡ a → eqb x 0x80000001 ≡ b
        → pick a missing (pick b (missing + 1) x) ≡ pick (pick a true b) (missing + x % 2) x
    by_tests true b p q = let e : x ≡ 0x80000000 = eqb-true _ _ p in omega arith
    by_tests false true p q = let e : x ≡ 0x80000001 = eqb-true _ _ q in omega arith
    by_tests false false p q = refl

-- the byte of type 1, and the number of the two bytes of type 2
pub byte_narrowed : (x : ℕ) → x % 256 + pick (is_mark x) 0x80 0 ≡ narrowed 1 x % 256
unfolding narrowed
byte_narrowed x = rw (marked_step 0x80 x) (by-mark (is_mark x) refl)
  where
    by-mark : (b : Bool) → is_mark x ≡ b → x % 256 + pick b 0x80 0 ≡ pick b (0x80 + x % 2) x % 256
    by-mark true h = let d : x / 2 ≡ 0x40000000 = eqb-true _ _ (mark_half x ∙ h) in omega arith
    by-mark false h = omega arith

pub pair_narrowed : (x : ℕ) → x % 65536 + pick (is_mark x) 0x8000 0 ≡ narrowed 2 x % 65536
unfolding narrowed
pair_narrowed x = rw (marked_step 0x8000 x) (by-mark (is_mark x) refl)
  where
    by-mark : (b : Bool) → is_mark x ≡ b → x % 65536 + pick b 0x8000 0 ≡ pick b (0x8000 + x % 2) x % 65536
    by-mark true h = let d : x / 2 ≡ 0x40000000 = eqb-true _ _ (mark_half x ∙ h) in omega arith
    by-mark false h = omega arith

-- two bytes show no more of a number
pub pair_bytes_lem : (v : ℕ) → bytes 2 (v % 65536) ≡ bytes 2 v
unfolding bytes
pair_bytes_lem v =
    let l : v % 65536 % 256 ≡ v % 256 = omega arith in
    let d : v / 256 ≡ v / 65536 * 256 + v % 65536 / 256 = omega arith in
    let h : v % 65536 / 256 % 256 ≡ v / 256 % 256 = rw (d, add_comm (v / 65536 * 256) (v % 65536 / 256), add-mul-mod_self_right) in
    rw (l, h)

-- a number that is no mark, and any of a type that is not narrow, keeps its bytes
pub unmarked : (t x : ℕ) → is_mark x ≡ false → narrowed t x ≡ x
unfolding narrowed marked_as is_mark
unmarked t x h = by_tests (eqb t 1) (eqb t 2) (eqb x 0x80000000) (eqb x 0x80000001) h
  where
    by_tests : (a b d e : Bool) → pick d true e ≡ false
        → pick a (pick d 0x80 (pick e (0x80 + 1) x)) (pick b (pick d 0x8000 (pick e (0x8000 + 1) x)) x) ≡ x
    by_tests a b true e h = cc
    by_tests a b false true h = cc
    by_tests true b false false h = refl
    by_tests false true false false h = refl
    by_tests false false false false h = refl

pub other_narrowed : (t x : ℕ) → t ≢ 1 → t ≢ 2 → narrowed t x ≡ x
unfolding narrowed
other_narrowed t x p q = rw (ne_eqb t 1 p, ne_eqb t 2 q)
