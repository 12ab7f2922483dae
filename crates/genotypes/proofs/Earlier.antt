-- A key among some: looked for in parts, or in the keys backwards. Rests on `among`.
use Rattle.std.proofs.Common.{◌≡◌, refl, sym, ap, ◌∙◌, ℕ, ◌+◌, ◌-◌, ◌%◌, ◌<◌, ◌≤◌, Bool, true, false, ◌||◌, eqb, List, [], ◌∷◌, ◌++◌, length, get_or, take, drop, reverse, arith, add-one, suc}
use Rattle.std.specs.List.{list_any}
use Rattle.std.proofs.Math.Seq.{drop-cons, take-add}
use Rattle.std.proofs.lemmas.List.{nil_from_length, reverse-append, take-append-drop}
use Rattle.std.proofs.lemmas.List.Folds.{list_any-append}
use Rattle.words.specs.Lists.{among}
use Rattle.words.specs.Pick.{pick}
use Rattle.words.proofs.Pick.{pick_test}

-- of two tests either may be asked first
either : (a b c : Bool) → pick a true (pick b true c) ≡ pick b true (pick a true c)
either false b c = refl
either true true c = refl
either true false c = refl

-- among two lists, the later looked at first
among_append : (key : ℕ) (xs ys : List ℕ) → among key (xs ++ ys) ≡ pick (among key ys) true (among key xs)
unfolding among
among_append key [] ys = sym (pick_test (among key ys))
among_append key (x ∷ xs) ys = rw (among_append key xs ys) (either (eqb x key) (among key ys) (among key xs))

pub among_cut : (key : ℕ) (all xs ys : List ℕ) → all ≡ xs ++ ys → among key all ≡ pick (among key ys) true (among key xs)
among_cut key all xs ys e = rw e (among_append key xs ys)

pub among_split : (keys : List ℕ) (key from : ℕ) → among key keys ≡ pick (among key (drop from keys)) true (among key (take from keys))
among_split keys key from = among_cut key keys (take from keys) (drop from keys) (sym (take-append-drop from keys))

-- among the first ones, of which those from a place on are looked at first
pub nearest : (keys : List ℕ) (key from to : ℕ) → from ≤ to
    → among key (take to keys) ≡ pick (among key (take (to - from) (drop from keys))) true (among key (take from keys))
nearest keys key from to h =
    let parts : to ≡ from + (to - from) = omega arith in
    among_cut key (take to keys) (take from keys) (take (to - from) (drop from keys)) (ap (λ n. take n keys) parts ∙ take-add from (to - from) keys)

-- whole rows of four: nothing stands before them, and nothing is left
pub rows_whole : (rows before rest : List ℕ) → rows ≡ before ++ rest → length before ≡ length rows % 4 → length rows % 4 ≡ 0 → rest ≡ rows
rows_whole rows before rest e n w =
    let none : before ≡ [] = nil_from_length before (omega arith) in
    sym (rw none at e)

pub among_none : (key : ℕ) (keys : List ℕ) → length keys < 4 → length keys % 4 ≡ 0 → among key keys ≡ false
unfolding among
among_none key keys h e = rw (nil_from_length keys (omega arith)) refl

-- met already or among those left of a row, where some are
pub among_turn : (row : List ℕ) (key i : ℕ) (met : Bool) → i < length row
    → pick met true (among key (drop i row)) ≡ pick (met || eqb (get_or row i 0) key) true (among key (drop (i + 1) row))
unfolding among
among_turn row key i true h = refl
among_turn row key i false h = rw (drop-cons row i 0 h, add-one) refl

-- met already or among those left of a row, where some are
pub sweep_turn : (row : List ℕ) (key i : ℕ) (met : Bool) → i < length row
    → pick met true (among key (drop i row)) ≡ pick (eqb (get_or row i 0) key) true (pick met true (among key (drop (i + 1) row)))
unfolding among
sweep_turn row key i met h = rw (drop-cons row i 0 h, add-one) (either met (eqb (get_or row i 0) key) (among key (drop (suc i) row)))

later : (a b : Bool) → (b || (a || false)) ≡ pick a true b
later true true = refl
later true false = refl
later false true = refl
later false false = refl

-- the last looked at first
pub among_reversed : (key : ℕ) (xs : List ℕ) → list_any (λ k. eqb k key) (reverse xs) ≡ among key xs
unfolding among
among_reversed key [] = refl
among_reversed key (x ∷ xs) =
    ap (list_any (λ k. eqb k key)) (reverse-append (x ∷ []) xs)
    ∙ rw (list_any-append, among_reversed key xs) (later (eqb x key) (among key xs))
