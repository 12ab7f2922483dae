-- One turn of each loop: of a vector's elements, and of vectors. Rests on specs/Given and on vectors' rule for one vector.
use Rattle.std.proofs.Common.{◌≡◌, refl, ap, ◌∙◌, ℕ, suc, ◌+◌, ◌/◌, ◌<◌, ◌≤◌, List, [], ◌∷◌, ◌++◌, map, false, length, get_or, take, drop, arith, add-one, length-append}
use Rattle.std.proofs.Math.Nat.{mul-add-div_right, div-eq_of_lt, div-zero}
use Rattle.std.proofs.Math.ListN.{drop_of_length-le}
use Rattle.std.proofs.Math.Seq.{drop-cons, take-append_seam, drop-append_seam}
use Rattle.std.proofs.lemmas.List.{length-map, map-append}
use Rattle.vectors.specs.Vectors.{vector, and_then, Sound}
use Rattle.std.specs.Prelude.{Err}
use Rattle.values.specs.Answers.{Answer}
use Rattle.build_given.specs.Given.{number_of, vectors_given, elements_number}

-- the numbers of what is left, where an element is, and where none is
pub map_turn : {A : Type 0} (f : A → ℕ) (xs : List A) (i : ℕ) (x : A) → i < length xs → x ≡ get_or xs i x → map f (drop i xs) ≡ f x ∷ map f (drop (i + 1) xs)
map_turn f xs i x h e = rw (drop-cons xs i x h, ← e, add-one) refl

pub map_end : {A : Type 0} (f : A → ℕ) (xs : List A) (i : ℕ) → length xs ≤ i → map f (drop i xs) ≡ []
map_end f xs i h = rw (drop_of_length-le xs {i = i} h) refl

-- the number of what is wrong first
abbrev pub or_else : Answer (Unit {0}) → ℕ → ℕ
or_else Sound n = n
or_else (Err r) n = r.number

number_or : (a b : Answer (Unit {0})) → number_of (and_then a b) ≡ or_else a (number_of b)
number_or Sound b = refl
number_or (Err r) b = refl

-- a vector, and the others
pub elements_chunk : {A : Type 0} (f : A → ℕ) (most t len : ℕ) (all x rest : List A) → 0 < len → all ≡ x ++ rest → length x ≡ len
    → elements_number most t len (map f all) ≡ or_else (vector most t 0 0 false (map f x)) (elements_number most t len (map f rest))
unfolding elements_number vectors_given
elements_chunk f most t len all x rest p e l =
    let m : length (map f x) ≡ len = length-map x f ∙ l in
    let n : length (map f all) / len ≡ suc (length (map f rest) / len) =
    rw (e, map-append, length-append, m) (ap (λ k. k / len) (omega arith) ∙ mul-add-div_right p 1 (length (map f rest)) ∙ omega arith) in
    let front : take len (map f x ++ map f rest) ≡ map f x = rw m at (take-append_seam {A = ℕ} (map f x) (map f rest)) in
    let back : drop len (map f x ++ map f rest) ≡ map f rest = rw m at (drop-append_seam {A = ℕ} (map f x) (map f rest)) in
    rw (n, e, map-append, front, back) (number_or (vector most t 0 0 false (map f x)) (vectors_given most t len (length (map f rest) / len) (map f rest)))

-- less than a vector, or vectors of no elements
pub elements_none : {A : Type 0} (f : A → ℕ) (most t len : ℕ) (xs : List A) → length xs < len → elements_number most t len (map f xs) ≡ 0
unfolding elements_number vectors_given
elements_none f most t len xs h = rw (length-map, div-eq_of_lt h) refl

pub elements_empty : (most t len : ℕ) (xs : List ℕ) → len ≡ 0 → elements_number most t len xs ≡ 0
unfolding elements_number vectors_given
elements_empty most t len xs h = rw (h, div-zero) refl
