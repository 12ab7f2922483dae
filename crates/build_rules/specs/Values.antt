-- Values as a builder is given them: by which rules they are judged. Rests on build_given, and on the kinds that a record shows.
use Rattle.std.specs.Prelude.{ℕ, List}
use Rattle.build_given.specs.Given.{elements_number}
use Rattle.shown.specs.Shown.{Kind, integers, floats, text}

-- integers are judged as those of type 3, floats as those of type 5, text as that of type 7
abbrev pub given_as : Kind → ℕ
given_as integers = 3
given_as floats = 5
given_as text = 7

-- any plain element
abbrev pub any : ℕ
any = 0xFFFFFFFF

-- what is wrong with a value, whose plain elements may be so large at most
unfoldable pub given_number : ℕ → Kind → ℕ → List ℕ → ℕ
given_number most k n xs = elements_number most (given_as k) n xs
