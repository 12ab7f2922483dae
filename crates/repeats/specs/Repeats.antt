-- Where a list of numbers first breaks a rule of offsets: one that is not below a size, or one that stood earlier. Rests on words' lists, and
-- on vectors for the elements of a part.
use Rattle.std.specs.Prelude.{ℕ, suc, ◌/◌, List, [], ◌∷◌, length}
use Rattle.words.specs.Lists.{among}
use Rattle.words.specs.Pick.{pick}
use Rattle.words.specs.Words.{outside}
use Rattle.types.specs.Rows.{width_of}
use Rattle.vectors.specs.Vectors.{shown_numbers}

-- the elements of a part of type t, as they are shown
unfoldable pub shown_elements : ℕ → List ℕ → List ℕ
shown_elements t l = shown_numbers t (width_of t) (length l / width_of t) l

-- the index of the first number that is no offset below a size; their count where each is one
unfoldable pub first_outside : ℕ → List ℕ → ℕ
first_outside size [] = 0
first_outside size (x ∷ xs) =
    let on = suc (first_outside size xs) in
    pick (outside size x) 0 on

-- the index of the first number that is among those before it or among some earlier ones; their count where none is
unfoldable pub repeat_after : List ℕ → List ℕ → ℕ
repeat_after earlier [] = 0
repeat_after earlier (x ∷ xs) =
    let on = suc (repeat_after (x ∷ earlier) xs) in
    pick (among x earlier) 0 on

unfoldable pub first_repeat : List ℕ → ℕ
first_repeat xs = repeat_after [] xs
