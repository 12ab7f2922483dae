-- What is wrong with a turn, as the number of its refusal, in 01's order 12, 5, 8, 11, 6, 7, then 9 and 10 by element. How far the build is
-- counts the last turn taken, in the order begin, ID, allele, FILTER, INFO, FORMAT, end. Rests on build_append, build_front and build_given.
use Rattle.std.specs.Prelude.{ℕ, ◌*◌, List, Bool, ltb, leb, eqb, length}
use Rattle.words.specs.Lists.{among}
use Rattle.words.specs.Pick.{pick}
use Rattle.words.specs.Words.{outside}
use Rattle.fixed.specs.Layout.{id_at, filled_to}
use Rattle.facts.specs.declared.Facts.{Facts}
use Rattle.shown.specs.Shown.{text}
use Rattle.build_append.specs.Append.{first_of}
use Rattle.build_front.specs.Front.{fields_number}
use Rattle.build_given.specs.Given.{filters_number, allele_number}
use Rattle.build_rules.specs.Values.{any, given_number}

-- 12 for a turn that may come only after a turn from one to another
unfoldable pub ordered : ℕ → ℕ → ℕ → ℕ
ordered low high rank = pick (leb low rank) (pick (leb rank high) 0 12) 12

-- 5 for one more than the most of a count
unfoldable pub count_number : ℕ → ℕ → ℕ
count_number count most = pick (ltb count most) 0 5

-- 13 for a buffer that does not reach a place
unfoldable pub reach_number : ℕ → ℕ → ℕ
reach_number room stop = pick (ltb room stop) 13 0

-- a key that is an offset below the dictionary's size
unfoldable pub key_number : ℕ → ℕ → ℕ
key_number strings key = pick (outside strings key) 8 0

-- 5 without people, 11 for a key that stood earlier, 6 for GT in something else than integers, 7 for a list that isn't people times length
unfoldable pub people_number : ℕ → ℕ
people_number people = pick (eqb people 0) 5 0

unfoldable pub repeat_number : List ℕ → ℕ → ℕ
repeat_number earlier key = pick (among key earlier) 11 0

unfoldable pub gt_number : ℕ → ℕ → Bool → ℕ
gt_number gt key whole = pick (eqb key gt) (pick whole 0 6) 0

unfoldable pub list_number : ℕ → ℕ → ℕ → ℕ
list_number people len count = pick (eqb (people * len) count) 0 7

-- begin: its fields, and room for the first bytes
unfoldable pub wrong_begin : ℕ → ℕ → Facts → ℕ → ℕ → ℕ → ℕ → ℕ
wrong_begin rank room f chrom pos rlen qual =
    first_of (ordered 0 0 rank) (first_of (fields_number f chrom pos rlen qual) (reach_number room id_at))

-- ID: any text
unfoldable pub wrong_id : ℕ → List ℕ → ℕ
wrong_id rank xs = first_of (ordered 1 1 rank) (given_number any text (length xs) xs)

-- an allele: not over 65,535 of them, not empty, each byte from 21 to 7E
unfoldable pub wrong_allele : ℕ → ℕ → List ℕ → ℕ
wrong_allele rank alleles xs =
    first_of (ordered 2 3 rank)
    (first_of (count_number alleles 65535)
    (first_of (pick (eqb (length xs) 0) 7 0) (allele_number xs)))

-- FILTER: by element 8, then 11
unfoldable pub wrong_filter : ℕ → ℕ → List ℕ → ℕ
wrong_filter rank strings xs = first_of (ordered 3 3 rank) (filters_number strings xs)

-- INFO, before its value is looked at: the count and the key
unfoldable pub wrong_info : ℕ → ℕ → ℕ → ℕ → ℕ
wrong_info rank infos strings key = first_of (ordered 4 5 rank) (first_of (count_number infos 65535) (key_number strings key))

-- FORMAT: its order, people and count; its key; its kind and length
unfoldable pub format_order : ℕ → ℕ → ℕ → ℕ
format_order rank people formats = first_of (ordered 4 6 rank) (first_of (people_number people) (count_number formats 255))

unfoldable pub format_key : ℕ → List ℕ → ℕ → ℕ
format_key strings earlier key = first_of (key_number strings key) (repeat_number earlier key)

unfoldable pub format_shape : ℕ → ℕ → Bool → ℕ → ℕ → ℕ → ℕ
format_shape gt key whole people len count = first_of (gt_number gt key whole) (list_number people len count)

-- FORMAT, before its elements are looked at
unfoldable pub wrong_format : ℕ → Facts → ℕ → List ℕ → ℕ → Bool → ℕ → ℕ → ℕ
wrong_format rank f formats earlier key whole len count =
    first_of (format_order rank f.people formats)
    (first_of (format_key f.strings earlier key) (format_shape f.gt key whole f.people len count))

-- end: room for the lengths and counts
unfoldable pub wrong_end : ℕ → ℕ → ℕ
wrong_end rank room = first_of (ordered 4 6 rank) (reach_number room filled_to)
