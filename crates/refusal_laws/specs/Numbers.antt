-- The numbers of 01's table, as 02 lengthens it, that a refusal may carry, function by function, in the order in which they are judged. Rests on nothing.
use Rattle.std.specs.Prelude.{ℕ, List, [], ◌∷◌, ◌++◌}

-- reading: the lengths, the fixed fields, and then everything in byte order
abbrev pub reading_gives : List ℕ
reading_gives = 1 ∷ 2 ∷ 3 ∷ 4 ∷ 5 ∷ 6 ∷ 7 ∷ 8 ∷ 9 ∷ 10 ∷ 11 ∷ []

-- after reading: fetching, the tally, choosing and a VCF line have these of their own
abbrev pub fetching_gives : List ℕ
fetching_gives = 16 ∷ []

abbrev pub tally_gives : List ℕ
tally_gives = 15 ∷ []

abbrev pub choosing_gives : List ℕ
choosing_gives = 14 ∷ 13 ∷ []

abbrev pub line_gives : List ℕ
line_gives = 17 ∷ 18 ∷ 13 ∷ []

-- the turns of building
abbrev pub begin_gives : List ℕ
begin_gives = 12 ∷ 5 ∷ 13 ∷ []

abbrev pub id_gives : List ℕ
id_gives = 12 ∷ 9 ∷ 2 ∷ 13 ∷ []

abbrev pub allele_gives : List ℕ
allele_gives = 12 ∷ 5 ∷ 7 ∷ 9 ∷ 2 ∷ 13 ∷ []

abbrev pub filter_gives : List ℕ
filter_gives = 12 ∷ 8 ∷ 11 ∷ 2 ∷ 13 ∷ []

abbrev pub info_gives : List ℕ
info_gives = 12 ∷ 5 ∷ 8 ∷ 9 ∷ 2 ∷ 13 ∷ []

abbrev pub format_gives : List ℕ
format_gives = 12 ∷ 5 ∷ 8 ∷ 11 ∷ 6 ∷ 7 ∷ 9 ∷ 10 ∷ 2 ∷ 13 ∷ []

abbrev pub end_gives : List ℕ
end_gives = 12 ∷ 13 ∷ []

-- where an answer is told in numbers: a lent slice too short for them
abbrev pub telling_gives : List ℕ
telling_gives = 13 ∷ []

-- all of these together; and 01's table, with 17 and 18 of Req 04
abbrev pub all_give : List ℕ
all_give =
    reading_gives ++ fetching_gives ++ tally_gives ++ choosing_gives ++ line_gives ++ begin_gives ++ id_gives ++ allele_gives ++ filter_gives ++ info_gives
    ++ format_gives ++ end_gives ++ telling_gives

abbrev pub table : List ℕ
table = 1 ∷ 2 ∷ 3 ∷ 4 ∷ 5 ∷ 6 ∷ 7 ∷ 8 ∷ 9 ∷ 10 ∷ 11 ∷ 12 ∷ 13 ∷ 14 ∷ 15 ∷ 16 ∷ 17 ∷ 18 ∷ []
