-- The rules of a value, as reading judges it, on elements that are given as numbers: 32 bits of an integer or a float, or a byte of text.
-- What is wrong is told by its number; 0 says that nothing is. Rests on vectors' rule for one vector and on site's rules for FILTER and
-- alleles.
use Rattle.std.specs.Prelude.{ℕ, zero, suc, ◌/◌, List, [], length, take, drop, false, Err}
use Rattle.vectors.specs.Vectors.{vector, and_then, Sound}
use Rattle.site.specs.Alleles.{allele_bytes}
use Rattle.values.specs.Answers.{Answer}
use Rattle.site.specs.Filters.{filters}

-- the number of what is wrong
abbrev pub number_of : Answer (Unit {0}) → ℕ
number_of Sound = 0
number_of (Err r) = r.number

-- n vectors of len elements each, one after the other; a builder's places are 0
unfoldable pub vectors_given : ℕ → ℕ → ℕ → ℕ → List ℕ → Answer (Unit {0})
vectors_given most t len zero xs = Sound
vectors_given most t len (suc n) xs =
    let on = vectors_given most t len n (drop len xs) in
    and_then (vector most t 0 0 false (take len xs)) on

-- elements of type t as vectors of len each: 9 and 10 by element
unfoldable pub elements_number : ℕ → ℕ → ℕ → List ℕ → ℕ
elements_number most t len xs = number_of (vectors_given most t len (length xs / len) xs)

-- FILTER: by element 8, then 11
unfoldable pub filters_number : ℕ → List ℕ → ℕ
filters_number strings xs = number_of (filters strings 0 0 [] xs)

-- an allele's bytes: 9
unfoldable pub allele_number : List ℕ → ℕ
allele_number xs = number_of (allele_bytes 0 xs)
