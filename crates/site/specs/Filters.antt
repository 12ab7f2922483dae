-- FILTER: integers, each an offset below the dictionary's size, none twice; marks are no offsets, and a bare 00 has none. Rests on values.
use Rattle.std.specs.Prelude.{ℕ, ◌+◌, ◌-◌, ◌/◌, List, [], ◌∷◌, length, take, drop, Err, Ok}
use Rattle.words.specs.Lists.{among}
use Rattle.words.specs.Pick.{pick}
use Rattle.words.specs.Words.{outside}
use Rattle.types.specs.Rows.{width_of}
use Rattle.types.specs.declared.Use.TheVariants.{Filter}
use Rattle.values.specs.Values.{present}
use Rattle.vectors.specs.Vectors.{shown_numbers, unsound, Sound}
use Rattle.values.specs.declared.Value.{Value}
use Rattle.values.specs.Answers.{Answer}
use Rattle.site.specs.Steps.{judged_step}

-- by element: 8 where it is no offset below the dictionary's size, then 11 where it stood earlier
unfoldable pub filters : ℕ → ℕ → ℕ → List ℕ → List ℕ → Answer (Unit {0})
filters strings w at earlier [] = Sound
filters strings w at earlier (x ∷ xs) =
    let on = filters strings w (at + w) (x ∷ earlier) xs in
    pick (outside strings x) (unsound 8 at) (pick (among x earlier) (unsound 11 at) on)

-- the elements of a part; places count from its start
unfoldable pub filtered : ℕ → ℕ → List ℕ → Answer (Unit {0})
filtered strings t l = filters strings (width_of t) 0 [] (shown_numbers t (width_of t) (length l / width_of t) l)

abbrev pub filter_value : ℕ → ℕ → List ℕ → Answer Value → Answer ℕ
filter_value strings at l (Err r) = Err r
filter_value strings at l (Ok v) = judged_step v.first v.stop (filtered strings v.code (take (v.stop - v.first) (drop (v.first - at) l)))

unfoldable pub filter : ℕ → ℕ → List ℕ → Answer ℕ
filter strings at l = filter_value strings at l (present 1 Filter at l)
