-- A window's bits say which of its offsets are among some numbers. Rests on specs/Engine and proofs/Bits.
use mathlib.Core.Path.{◌≡◌, refl, sym, ◌∙◌}
use mathlib.Core.Logic.{◌≢◌}
use mathlib.Core.List.{List, [], ◌∷◌}
use mathlib.Core.Bool.{Bool, true, false}
use Prim.Native.Nat.{ℕ, ◌+◌, ◌*◌, ◌/◌, ◌%◌, ◌^◌, ◌<◌}
use native.Mathlib.Omega.{arith}
use native.Mathlib.Nat.{zero-div}
use native.Mathlib.Numerals.{add-one}
use lib.Dec.{eqb}
use lib.ListN.{length, get_or, replicate, get_or-replicate}
use lib.Seq.{get_or-set_same, get_or-set_other}
use borrow.Author.Count.{below_more}
use borrow.Author.Tests.{eq-eqb, ne_eqb, eqb-true, eqb-false}
use Rattle.words.specs.Lists.{among}
use Rattle.words.specs.Pick.{pick}
use Rattle.repeats.specs.Engine.{earlier, stood, Fresh, held, with_bit, noted, noting}
use Rattle.repeats.proofs.Bits.{set_same, set_other}

-- the bits of a window that has noted some numbers
abbrev pub Notes : ℕ → List ℕ → List ℕ → Type 0
Notes window bits ys =
    (j : ℕ) → j < 4194304 → held bits j ≡ among (window * 4194304 + j) ys

pub notes_none : (window n : ℕ) → n ≡ 131072 → Notes window (replicate n 0) []
unfolding held among
notes_none window n e j h =
    rw (get_or-replicate {A = ℕ} n (j / 32) 0 0 (omega arith), zero-div (2 ^ (j % 32)))

-- an offset that is set is held, and no other one is that was not
pub with_bit_same : (bits : List ℕ) (y : ℕ) → y / 32 < length bits → held bits y ≡ false → held (with_bit bits y) y ≡ true
unfolding held with_bit
with_bit_same bits y h e =
    let v = get_or bits (y / 32) 0 in
    let n = eqb-false (v / 2 ^ (y % 32) % 2) 1 e in
    let z : v / 2 ^ (y % 32) % 2 ≡ 0 = omega (arith, n) in
    rw (get_or-set_same bits (y / 32) (v + 2 ^ (y % 32)) 0 h, set_same v (y % 32) z)

pub with_bit_other : (bits : List ℕ) (y j : ℕ) → y / 32 < length bits → held bits y ≡ false → j ≢ y → held (with_bit bits y) j ≡ held bits j
unfolding held with_bit
with_bit_other bits y j h e d = by_word (eqb (j / 32) (y / 32)) refl
  where
    v : ℕ
    v = get_or bits (y / 32) 0

    z : v / 2 ^ (y % 32) % 2 ≡ 0
    z = let n = eqb-false (v / 2 ^ (y % 32) % 2) 1 e in omega (arith, n)

    by_word : (c : Bool) → eqb (j / 32) (y / 32) ≡ c → held (with_bit bits y) j ≡ held bits j
    by_word true c =
        let q = eqb-true (j / 32) (y / 32) c in
        rw (q, get_or-set_same bits (y / 32) (v + 2 ^ (y % 32)) 0 h, set_other v (y % 32) (j % 32) (λ s. d (omega (arith, q, s))) z)
    by_word false c =
        let q = eqb-false (j / 32) (y / 32) c in
        rw (get_or-set_other bits (y / 32) (j / 32) (v + 2 ^ (y % 32)) 0 q)

-- an offset of the window is noted where it is among the numbers; another one is not
pub noted_among : (window x : ℕ) (bits ys : List ℕ) → Notes window bits ys → x / 4194304 ≡ window → noted window x bits ≡ among x ys
unfolding noted
noted_among window x bits ys n e =
    let s : window * 4194304 + x % 4194304 ≡ x = omega arith in
    rw (eq-eqb _ _ e) (n (x % 4194304) (omega arith) ∙ rw s)

pub noted_only : (window x : ℕ) (bits : List ℕ) → noted window x bits ≡ true → x / 4194304 ≡ window
unfolding noted
noted_only window x bits h = by-test (eqb (x / 4194304) window) refl h
  where
    by-test : (c : Bool) → eqb (x / 4194304) window ≡ c → pick c (held bits (x % 4194304)) false ≡ true → x / 4194304 ≡ window
    by-test true e k = eqb-true _ _ e
    by-test false e k = let z : ◌≡◌ {A = ℕ} 0 1 = cc in absurd (omega arith)

-- one more number, that was not noted
pub notes_more : (window x : ℕ) (bits ys : List ℕ) → length bits ≡ 131072 → Notes window bits ys → noted window x bits ≡ false
    → Notes window (noting window x bits) (x ∷ ys)
unfolding noted noting among
notes_more window x bits ys l n f j h = by-window (eqb (x / 4194304) window) refl f
  where
    by-window : (c : Bool) → eqb (x / 4194304) window ≡ c → pick c (held bits (x % 4194304)) false ≡ false
        → held (pick c (pick (held bits (x % 4194304)) bits (with_bit bits (x % 4194304))) bits) j
        ≡ pick (eqb x (window * 4194304 + j)) true (among (window * 4194304 + j) ys)
    by-window true e k = by-offset (eqb j (x % 4194304)) refl
      where
        w : x / 4194304 ≡ window
        w = eqb-true _ _ e

        by-offset : (d : Bool) → eqb j (x % 4194304) ≡ d
            → held (pick (held bits (x % 4194304)) bits (with_bit bits (x % 4194304))) j
            ≡ pick (eqb x (window * 4194304 + j)) true (among (window * 4194304 + j) ys)
        by-offset true g =
            let s : j ≡ x % 4194304 = eqb-true _ _ g in
            let t : x ≡ window * 4194304 + j = omega (arith, w, s) in
            rw (k, eq-eqb _ _ t, s) (with_bit_same bits (x % 4194304) (omega arith) k)
        by-offset false g =
            let s = eqb-false j (x % 4194304) g in
            rw (k, ne_eqb x (window * 4194304 + j) (λ t. s (omega (arith, t)))) (with_bit_other bits (x % 4194304) j (omega arith) k s ∙ n j h)
    by-window false e k =
        let s = eqb-false (x / 4194304) window e in
        rw (ne_eqb x (window * 4194304 + j) (λ t. s (omega (arith, t)))) (n j h)

-- the sweep of a window: the next number stood earlier where it is noted, and else its notes and what is known go on
pub sweep_stop : (xs bits : List ℕ) (window i : ℕ) → Notes window bits (earlier i xs) → noted window (get_or xs i 0) bits ≡ true → stood xs i ≡ true
unfolding stood
sweep_stop xs bits window i n h =
    sym (noted_among window (get_or xs i 0) bits (earlier i xs) n (noted_only window (get_or xs i 0) bits h)) ∙ h

pub sweep_fresh : (xs bits : List ℕ) (window i : ℕ) → Notes window bits (earlier i xs) → Fresh window xs i
    → noted window (get_or xs i 0) bits ≡ false → Fresh window xs (i + 1)
unfolding stood
sweep_fresh xs bits window i n f h =
    below_more (λ j. get_or xs j 0 / 4194304 ≡ window → stood xs j ≡ false) i f
    (λ e. sym (noted_among window (get_or xs i 0) bits (earlier i xs) n e) ∙ h)

pub sweep_notes : (xs bits : List ℕ) (window i : ℕ) → length bits ≡ 131072 → Notes window bits (earlier i xs)
    → noted window (get_or xs i 0) bits ≡ false → Notes window (noting window (get_or xs i 0) bits) (earlier (i + 1) xs)
unfolding earlier
sweep_notes xs bits window i l n h =
    rw (add-one i) (notes_more window (get_or xs i 0) bits (earlier i xs) l n h)
