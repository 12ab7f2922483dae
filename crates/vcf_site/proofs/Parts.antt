-- Lists made field by field and element by element, as the loops come to them: the bytes of alleles, and the names of offsets. Rests on specs/Columns.
use mathlib.Core.Path.{◌≡◌, refl, ◌∙◌}
use mathlib.Core.Bool.{Bool, true, false}
use mathlib.Core.Logic.{◌≢◌}
use mathlib.Core.List.{List, [], ◌∷◌, ◌++◌, map}
use Prim.Native.Nat.{ℕ, zero, suc, ◌+◌, ◌-◌, ◌/◌, ◌<◌, ◌≤◌}
use native.Mathlib.Omega.{arith}
use native.Mathlib.Numerals.{add-one, sub-one}
use native.Mathlib.Nat.{add-div_left, div-eq_of_lt, div-zero}
use lib.Dec.{ltb}
use borrow.Author.Tests.{ltb-true, ltb-false}
use lib.ListN.{length, length-append, length-drop, take, drop}
use lib.Seq.{drop-append_seam}
use Rattle.std.proofs.lemmas.List.{take-append-le}
use Rattle.words.specs.Words.{number}
use Rattle.words.proofs.Places.{drop_on}
use Rattle.types.specs.Rows.{width_of}
use Rattle.types.specs.Elements.{shown}
use Rattle.values.specs.declared.Refusal.{Refusal}
use Rattle.vectors.specs.Vectors.{shown_numbers, elements_of}
use Rattle.fetch.specs.Account.{fields_of}
use Rattle.fetch.specs.Fields.{field_at, found_field}
use Rattle.fetch.specs.declared.Kind.TheVariants.{Allele}
use Rattle.pieces.specs.Pieces.{followed, joined_by, dot, listed, or_dot}
use Rattle.std.specs.Prelude.{Err}
use Rattle.vcf_site.specs.Columns.{allele_parts}

-- alleles: none, where none are left or none stands whole; else the first, and those from its end on
pub no_alleles : (people : ℕ) (block : List ℕ) (at : ℕ) → allele_parts people block at 0 ≡ []
unfolding allele_parts fields_of
no_alleles people block at = refl

pub alleles_refused : (people : ℕ) (block : List ℕ) (at n : ℕ) (r : Refusal) → field_at Allele people at (drop at block) ≡ Err r
    → allele_parts people block at n ≡ []
unfolding allele_parts fields_of
alleles_refused people block at zero r e = refl
alleles_refused people block at (suc n) r e = rw e

pub alleles_on : (people : ℕ) (block : List ℕ) (at n key code len place stop : ℕ) → 0 < n → at ≤ stop
    → field_at Allele people at (drop at block) ≡ found_field key code len place stop
    → allele_parts people block at n ≡ take (stop - place) (drop place block) ∷ allele_parts people block stop (n - 1)
unfolding allele_parts fields_of
alleles_on people block at zero key code len place stop h k e = absurd (omega arith)
alleles_on people block at (suc n) key code len place stop h k e = rw (e, sub-one, drop_on block at stop k)

-- pieces with a separator before each, and joined
pub none_followed : (c : ℕ) → followed c [] ≡ []
unfolding followed
none_followed c = refl

pub followed_on : (c : ℕ) (x : List ℕ) (xs : List (List ℕ)) → followed c (x ∷ xs) ≡ c ∷ (x ++ followed c xs)
unfolding followed
followed_on c x xs = refl

pub none_listed : (c : ℕ) → listed c [] ≡ dot
unfolding listed
none_listed c = refl

pub listed_on : (c : ℕ) (x : List ℕ) (xs : List (List ℕ)) → listed c (x ∷ xs) ≡ x ++ followed c xs
unfolding listed joined_by
listed_on c x xs = refl

-- names: the first offset's, and those of the others
pub no_names_lem : (string : ℕ → List ℕ) (t w : ℕ) (l : List ℕ) → map string (shown_numbers t w 0 l) ≡ []
unfolding shown_numbers
no_names_lem string t w l = refl

pub names_on : (string : ℕ → List ℕ) (t w n : ℕ) (l : List ℕ) → 0 < n
    → map string (shown_numbers t w n l) ≡ string (shown t (number w l)) ∷ map string (shown_numbers t w (n - 1) (drop w l))
unfolding shown_numbers
names_on string t w zero l h = absurd (omega arith)
names_on string t w (suc n) l h = rw sub-one

-- the same of all the elements that bytes are
pub names_none : (string : ℕ → List ℕ) (t w : ℕ) (s : List ℕ) → w ≡ width_of t → length s / w ≡ 0 → map string (elements_of t (length s) s) ≡ []
unfolding elements_of shown_numbers
names_none string t w s e h = rw (← e, h)

pub names_first : (string : ℕ → List ℕ) (t w : ℕ) (s : List ℕ) → w ≡ width_of t → 0 < w → w ≤ length s
    → map string (elements_of t (length s) s) ≡ string (shown t (number w s)) ∷ map string (elements_of t (length (drop w s)) (drop w s))
unfolding elements_of shown_numbers
names_first string t w s e p h =
    let n : w + length (drop w s) ≡ length s = rw length-drop (omega arith) in
    let d : length s / w ≡ suc (length (drop w s) / w) = rw n at (add-div_left (length (drop w s)) p) ∙ add-one _ in
    rw (← e, d)

-- what stands at the front of a list taken by chunks
pub chunk_front : (w : ℕ) (s x rest : List ℕ) → s ≡ x ++ rest → length x ≡ w → (number w s ≡ number w x) × (drop w s ≡ rest) × (w ≤ length s)
unfolding number
chunk_front w s x rest e h =
    let k : w ≤ length x = omega arith in
    (rw (e, take-append-le w x rest k), rw e (rw h at (drop-append_seam x rest)), rw (e, length-append) (omega arith))

-- where there is an element, it has a width, and stands whole
pub some_first : (m w : ℕ) → m / w ≢ 0 → (0 < w) × (w ≤ m)
some_first m w h = by_width (ltb 0 w) refl
  where
    by_width : (b : Bool) → ltb 0 w ≡ b → (0 < w) × (w ≤ m)
    by_width true q =
        by_most (ltb m w) refl
      where
        by_most : (b : Bool) → ltb m w ≡ b → (0 < w) × (w ≤ m)
        by_most true r = absurd (h (div-eq_of_lt (ltb-true m w r)))
        by_most false r = (ltb-true 0 w q, ltb-false m w r)
    by_width false q =
        let z : w ≡ 0 = let g = ltb-false 0 w q in omega arith in
        absurd (h (rw z (div-zero m)))

-- text: a dot where there is none
pub dot_none : (xs : List ℕ) → length xs ≡ 0 → or_dot xs ≡ dot
unfolding or_dot
dot_none [] h = refl
dot_none (x ∷ xs) h = absurd (omega arith)

pub dot_some : (xs : List ℕ) → length xs ≢ 0 → or_dot xs ≡ xs
unfolding or_dot
dot_some [] h = absurd (h refl)
dot_some (x ∷ xs) h = refl
