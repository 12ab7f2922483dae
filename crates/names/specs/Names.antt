-- A list of names, lent as one text and a list of ends. Total on any text and any ends: ends that fall, ends past the text and numbers past the list give
-- what is there, or nothing. Rests on words' `pick`.
use Rattle.std.specs.Prelude.{ℕ, zero, suc, ◌-◌, min, List, [], ◌∷◌, eqb, length, get_or, take, drop}
use Rattle.words.specs.Pick.{pick}

-- text stops at its first zero byte
unfoldable pub before_zero : List ℕ → List ℕ
before_zero [] = []
before_zero (b ∷ bs) = let rest = before_zero bs in pick (eqb b 0) [] (b ∷ rest)

-- a name begins where the one before it ends, the first at 0
abbrev pub begin_of : List ℕ → ℕ → ℕ
begin_of ends zero = 0
begin_of ends (suc i) = get_or ends i 0

-- the stretch of a name: from its begin to its end, as far as the text goes; nothing where the ends fall, or past the list
unfoldable pub stretch_of : List ℕ → List ℕ → ℕ → List ℕ
stretch_of text ends i = take (get_or ends i 0 - begin_of ends i) (drop (begin_of ends i) text)

-- the name: its stretch up to the first zero byte
unfoldable pub name_of : List ℕ → List ℕ → ℕ → List ℕ
name_of text ends i = before_zero (stretch_of text ends i)

-- where it stands in the text: at its begin, or at the text's end
unfoldable pub name_at : List ℕ → List ℕ → ℕ → ℕ
name_at text ends i = min (begin_of ends i) (length text)
