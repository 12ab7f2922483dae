-- Pieces put one after the other: the place after them is exact where a buffer can reach, a piece past the buffer's end changes nothing, and two pieces put
-- in turn are both put at once. Rests on specs/Pieces and on the kit's `sets`.
use mathlib.Core.Path.{◌≡◌, refl, sym, ◌∙◌}
use mathlib.Core.Bool.{Bool, true, false}
use mathlib.Core.List.{List, [], ◌∷◌, ◌++◌}
use Prim.Native.Nat.{ℕ, zero, suc, ◌+◌, ◌-◌, ◌<◌, ◌≤◌, min}
use native.Mathlib.Omega.{arith}
use lib.Dec.{ltb}
use lib.ListN.{length, set, take, length-append, length-set}
use lib.Seq.{sets, length-sets, set_out}
use borrow.Author.Tests.{lt-ltb, le-ltb, ltb-true, ltb-false}
use Rattle.stores.specs.Stores.{filled}
use Rattle.stores.proofs.Room.{filled_front}
use Rattle.words.proofs.Stores.{sets_append}
use Rattle.pieces.specs.Pieces.{after}

pub after_over : (at n : ℕ) → 18446744073709551615 < at + n → after at n ≡ 18446744073709551615
unfolding after
after_over at n h = rw (lt-ltb 18446744073709551615 (at + n) h)

pub after_under : (at n : ℕ) → at + n ≤ 18446744073709551615 → after at n ≡ at + n
unfolding after
after_under at n h = rw (le-ltb 18446744073709551615 (at + n) h)

-- it is the sum, or the largest number where the sum is past it
pub data After (at n : ℕ) : Type 0 where
  under : at + n ≤ 18446744073709551615 → after at n ≡ at + n → After at n
  over : 18446744073709551615 < at + n → after at n ≡ 18446744073709551615 → After at n

pub after_either : (at n : ℕ) → After at n
after_either at n = by-test (ltb 18446744073709551615 (at + n)) refl
  where
    by-test : (b : Bool) → ltb 18446744073709551615 (at + n) ≡ b → After at n
    by-test true e = let q = ltb-true 18446744073709551615 (at + n) e in over q (after_over at n q)
    by-test false e = let q = ltb-false 18446744073709551615 (at + n) e in under q (after_under at n q)

pub after_min : (at n : ℕ) → after at n ≡ min 18446744073709551615 (at + n)
after_min at n = by-either (after_either at n)
  where
    by-either : After at n → after at n ≡ min 18446744073709551615 (at + n)
    by-either (under h e) = rw e (omega arith)
    by-either (over h e) = rw e (omega arith)

pub after_most : (at n : ℕ) → after at n ≤ 18446744073709551615
after_most at n = by-either (after_either at n)
  where
    by-either : After at n → after at n ≤ 18446744073709551615
    by-either (under h e) = rw e h
    by-either (over h e) = rw e (omega arith)

pub after_none : (at : ℕ) → at ≤ 18446744073709551615 → after at 0 ≡ at
after_none at h = rw (after_under at 0 (omega arith)) (omega arith)

-- one piece after another is both
pub after_again : (at m n : ℕ) → after (after at m) n ≡ after at (m + n)
after_again at m n = by_first (after_either at m)
  where
    by_both : After (at + m) n → After at (m + n) → after (at + m) n ≡ after at (m + n)
    by_both (under h e) (under g d) = rw (e, d) (omega arith)
    by_both (under h e) (over g d) = absurd (omega arith)
    by_both (over h e) (under g d) = absurd (omega arith)
    by_both (over h e) (over g d) = rw (e, d)

    by_last : After 18446744073709551615 n → after 18446744073709551615 n ≡ 18446744073709551615
    by_last (under h e) = rw e (omega arith)
    by_last (over h e) = e

    by_first : After at m → after (after at m) n ≡ after at (m + n)
    by_first (under h e) = rw e (by_both (after_either (at + m) n) (after_either at (m + n)))
    by_first (over h e) = rw (e, after_over at (m + n) (omega arith)) (by_last (after_either 18446744073709551615 n))

-- past the buffer's end nothing is stored
pub sets_past : (l : List ℕ) (i : ℕ) (xs : List ℕ) → length l ≤ i → sets l i xs ≡ l
sets_past l i [] h = refl
sets_past l i (x ∷ xs) h = rw (set_out l i x h) (sets_past l (suc i) xs (omega arith))

-- and of a piece only what the buffer reaches
pub sets_cut : (l : List ℕ) (i : ℕ) (xs : List ℕ) → sets l i (take (length l - i) xs) ≡ sets l i xs
sets_cut l i [] = by-room (length l - i)
  where
    by-room : (k : ℕ) → sets l i (take k []) ≡ l
    by-room zero = refl
    by-room (suc k) = refl
sets_cut l i (x ∷ xs) = by-room (length l - i) refl (sets_cut (set l i x) (suc i) xs)
  where
    by-room : (k : ℕ) → length l - i ≡ k → sets (set l i x) (suc i) (take (length (set l i x) - suc i) xs) ≡ sets (set l i x) (suc i) xs
        → sets l i (take k (x ∷ xs)) ≡ sets (set l i x) (suc i) xs
    by-room zero e on = sym (sets_past l i (x ∷ xs) (omega arith))
    by-room (suc k) e on =
        let q : length (set l i x) - suc i ≡ k = rw (length-set l i x) (omega arith) in
        rw q at on

pub filled_cut : (l : List ℕ) (i : ℕ) (xs : List ℕ) → filled l i (take (min (length l - i) (length xs)) xs) ≡ sets l i xs
filled_cut l i xs = filled_front l i xs ∙ sets_cut l i xs

-- so the capped place does as well as the sum
pub sets_after : (l : List ℕ) (at n : ℕ) (xs : List ℕ) → length l ≤ 18446744073709551615 → sets l (after at n) xs ≡ sets l (at + n) xs
sets_after l at n xs h = by-either (after_either at n)
  where
    by-either : After at n → sets l (after at n) xs ≡ sets l (at + n) xs
    by-either (under g e) = rw e
    by-either (over g e) = rw (e, sets_past l 18446744073709551615 xs h, sets_past l (at + n) xs (omega arith))

-- what putting a piece promises: the place after it, and the buffer with it
abbrev pub Put : List ℕ → ℕ → List ℕ → ℕ → List ℕ → Type 0
Put buf at xs next left = (next ≡ after at (length xs)) × (left ≡ sets buf at xs)

-- two pieces in turn
pub then_put : (buf : List ℕ) (at : ℕ) (xs : List ℕ) {m : ℕ} {mid : List ℕ} (ys : List ℕ) {next : ℕ} {left : List ℕ}
    → length buf ≤ 18446744073709551615 → Put buf at xs m mid → Put mid m ys next left → Put buf at (xs ++ ys) next left
then_put buf at xs {m} {mid} ys {next} {left} h p q =
    let e : after m (length ys) ≡ after at (length (xs ++ ys)) = rw (p.0, length-append xs ys) (after_again at (length xs) (length ys)) in
    let k : length (sets buf at xs) ≤ 18446744073709551615 = rw length-sets h in
    let s : sets mid m ys ≡ sets buf at (xs ++ ys) =
    rw (p.0, p.1, sets_after (sets buf at xs) at (length xs) ys k, sets_append xs ys buf at) in
    (q.0 ∙ e, q.1 ∙ s)

-- nothing put
pub none_put : (buf : List ℕ) (at : ℕ) → at ≤ 18446744073709551615 → Put buf at [] at buf
none_put buf at h = (sym (after_none at h), refl)

-- a loop's turn: what is still to be put from here makes the whole from where it began
pub record ToPut (buf : List ℕ) (at : ℕ) (whole : List ℕ) (mid : List ℕ) (next : ℕ) (rest : List ℕ) : Type 0 where
  pub place : after next (length rest) ≡ after at (length whole)
  pub bytes : sets mid next rest ≡ sets buf at whole
  pub size : length mid ≡ length buf
  pub here : next ≤ 18446744073709551615

pub all_to_put : (buf : List ℕ) (at : ℕ) (whole : List ℕ) → at ≤ 18446744073709551615 → ToPut buf at whole buf at whole
all_to_put buf at whole h = record { place = refl; bytes = refl; size = refl; here = h }

pub put_some : (buf : List ℕ) (at : ℕ) (whole : List ℕ) (mid : List ℕ) (next : ℕ) (xs rest : List ℕ) {on : ℕ} {left : List ℕ}
    → length buf ≤ 18446744073709551615 → ToPut buf at whole mid next (xs ++ rest) → Put mid next xs on left → ToPut buf at whole left on rest
put_some buf at whole mid next xs rest {on} {left} h t p =
    let k : length mid ≤ 18446744073709551615 = rw t.size h in
    record {
      place = rw (p.0, after_again next (length xs) (length rest), ← length-append xs rest) t.place;
      bytes = rw (p.1, p.0, sets_after (sets mid next xs) next (length xs) rest (rw length-sets k), ← sets_append xs rest mid next) t.bytes;
      size = rw (p.1, length-sets) t.size;
      here = rw p.0 (after_most next (length xs));
    }

pub put_all : (buf : List ℕ) (at : ℕ) (whole : List ℕ) (mid : List ℕ) (next : ℕ) → ToPut buf at whole mid next [] → Put buf at whole next mid
put_all buf at whole mid next t = (sym (after_none next t.here) ∙ t.place, t.bytes)

-- and the last piece
pub put_last : (buf : List ℕ) (at : ℕ) (whole : List ℕ) (mid : List ℕ) (next : ℕ) (xs : List ℕ) {on : ℕ} {left : List ℕ}
    → ToPut buf at whole mid next xs → Put mid next xs on left → Put buf at whole on left
put_last buf at whole mid next xs t p = (p.0 ∙ t.place, p.1 ∙ t.bytes)
