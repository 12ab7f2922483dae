-- The table's rule: one test over all sixteen rows, computed, and one law that carries it to each code. Rests on specs/Rows.
use mathlib.Core.Path.{◌≡◌, refl}
use mathlib.Core.Logic.{◌≢◌}
use mathlib.Core.List.{List, [], ◌∷◌}
use mathlib.Core.Bool.{Bool, true, false}
use Prim.Native.Nat.{ℕ, zero, suc, ◌+◌, ◌≤◌, ◌<◌}
use native.Mathlib.Nat.{add-zero, zero-add, add-suc, suc-add}
use native.Mathlib.Omega.{arith}
use lib.Dec.{ltb, leb, eqb}
use lib.ListN.{length, get_or, get_or-eq_default}
use borrow.Author.Tests.{leb-true, eqb-false, ltb-true, ltb-false}
use Rattle.words.specs.Pick.{pick}
use Rattle.types.specs.Rows.{rows, row_of, width_of, unused}
use Rattle.types.specs.declared.Row.{Row}

abbrev both : Bool → Bool → Bool
both a b = pick a b false

-- the test passes at each entry of a list and its place, counted from i
abbrev every : {A : Type 0} → (ℕ → A → Bool) → ℕ → List A → Bool
every f i [] = true
every f i (x ∷ xs) = both (f i x) (every f (suc i) xs)

left : (a b : Bool) → both a b ≡ true → a ≡ true
left true b h = refl
left false b h = h

right : (a b : Bool) → both a b ≡ true → b ≡ true
right true b h = h
right false b h = cc

each : {A : Type 0} (f : ℕ → A → Bool) (xs : List A) (d : A) (i : ℕ) → every f i xs ≡ true
    → (k : ℕ) → k < length xs → f (i + k) (get_or xs k d) ≡ true
each f [] d i h k q = absurd (omega arith)
each f (x ∷ xs) d i h zero q = rw (add-zero i) (left (f i x) (every f (suc i) xs) h)
each f (x ∷ xs) d i h (suc k) q =
    rw (add-suc i k, ← suc-add i k) (each f xs d (suc i) (right (f i x) (every f (suc i) xs) h) k (omega arith))

-- two tests that agree
abbrev same : Bool → Bool → Bool
same true b = b
same false b = pick b false true

agree : (a b : Bool) → same a b ≡ true → a ≡ b
agree true true h = refl
agree true false h = cc
agree false true h = cc
agree false false h = refl

-- the codes of integers
abbrev pub whole : ℕ → Bool
whole t = both (leb 1 t) (leb t 3)

-- the codes that a test takes, and type 0
abbrev pub or_bare : ℕ → Bool → Bool
or_bare t b = pick (eqb t 0) true b

-- the rule for the row of a code: text for ID and alleles; integers for keys and true lengths; integers and type 0 for FILTER and GT; type 0
-- and any type with a width for INFO and FORMAT values; a width of 0, 1, 2 or 4, of type 0 none
pub record Rule (t : ℕ) (r : Row) : Type 0 where
  pub id : r.id ≡ eqb t 7
  pub allele : r.allele ≡ eqb t 7
  pub filter : r.filter ≡ or_bare t (whole t)
  pub integer : r.integer ≡ whole t
  pub gt : r.gt ≡ or_bare t (whole t)
  pub info : r.info ≡ or_bare t (ltb 0 r.width)
  pub format : r.format ≡ or_bare t (ltb 0 r.width)
  pub most : leb r.width 4 ≡ true
  pub three : eqb r.width 3 ≡ false
  pub none : pick (eqb t 0) (eqb r.width 0) true ≡ true

abbrev ruled : ℕ → Row → Bool
ruled t r =
    both (same r.id (eqb t 7))
    (both (same r.allele (eqb t 7))
    (both (same r.filter (or_bare t (whole t)))
    (both (same r.integer (whole t))
    (both (same r.gt (or_bare t (whole t)))
    (both (same r.info (or_bare t (ltb 0 r.width)))
    (both (same r.format (or_bare t (ltb 0 r.width)))
    (both (leb r.width 4)
    (both (same (eqb r.width 3) false)
    (pick (eqb t 0) (eqb r.width 0) true)))))))))

rule : (t : ℕ) (r : Row) → ruled t r ≡ true → Rule t r
rule t r h =
    let h1 = right (same r.id (eqb t 7)) _ h in
    let h2 = right (same r.allele (eqb t 7)) _ h1 in
    let h3 = right (same r.filter (or_bare t (whole t))) _ h2 in
    let h4 = right (same r.integer (whole t)) _ h3 in
    let h5 = right (same r.gt (or_bare t (whole t))) _ h4 in
    let h6 = right (same r.info (or_bare t (ltb 0 r.width))) _ h5 in
    let h7 = right (same r.format (or_bare t (ltb 0 r.width))) _ h6 in
    let h8 = right (leb r.width 4) _ h7 in
    record {
      id = agree _ _ (left _ _ h);
      allele = agree _ _ (left _ _ h1);
      filter = agree _ _ (left _ _ h2);
      integer = agree _ _ (left _ _ h3);
      gt = agree _ _ (left _ _ h4);
      info = agree _ _ (left _ _ h5);
      format = agree _ _ (left _ _ h6);
      most = left _ _ h7;
      three = agree (eqb r.width 3) false (left _ _ h8);
      none = right (same (eqb r.width 3) false) _ h8;
    }

-- the rule holds of every low half
pub rows_rule : (t : ℕ) → t < 16 → Rule t (row_of t)
unfolding row_of
rows_rule t h = rule t _ (rw (zero-add t) at (each ruled rows unused 0 refl t h))

-- a number that is no low half has the row of an unused code
pub rows_past : (t : ℕ) → 16 ≤ t → row_of t ≡ unused
unfolding row_of
rows_past t h = get_or-eq_default rows unused h

-- the width of any code
pub widths : (t : ℕ) → (width_of t ≤ 4) × (width_of t ≢ 3)
unfolding width_of
widths t = by_code (ltb t 16) refl
  where
    by_code : (b : Bool) → ltb t 16 ≡ b → ((row_of t).width ≤ 4) × ((row_of t).width ≢ 3)
    by_code true e =
        let r = rows_rule t (ltb-true t 16 e) in
        (leb-true _ _ r.most, eqb-false _ _ r.three)
    by_code false e = rw (rows_past t (ltb-false t 16 e)) (omega arith, omega arith)
