-- Numbers as decimal text, and what is answered where a text is put. Rests on nothing but the choice by a test.
use Rattle.std.specs.Prelude.{ℕ, zero, suc, ◌+◌, ◌-◌, ◌*◌, ◌/◌, ◌%◌, ◌^◌, ◌≤◌, List, [], ◌∷◌, ◌++◌, Option, Some, None, ltb, length}
use Rattle.words.specs.Pick.{pick}

-- the character of a digit, 0x30 for 0 to 0x39 for 9
abbrev pub figure : ℕ → ℕ
figure d = 0x30 + d

-- the text of a number: its last digit, after the text of its tenth where that is not 0; k digits may stand before the last
unfoldable pub in_decimal : ℕ → ℕ → List ℕ
in_decimal zero n = figure n ∷ []
in_decimal (suc k) n =
    let before = in_decimal k (n / 10) in
    pick (ltb n 10) (figure n ∷ []) (before ++ (figure (n % 10) ∷ []))

-- the decimal text of a number, which has at most n digits before its last
unfoldable pub decimal : ℕ → List ℕ
decimal n = in_decimal n n

-- the number that a decimal text says, high digit first
unfoldable pub value : List ℕ → ℕ
value [] = 0
value (c ∷ cs) = (c - 0x30) * 10 ^ length cs + value cs

-- what is answered where a text is put at a place of a buffer of so many bytes: the place after it, where it has room
unfoldable pub placed : ℕ → ℕ → List ℕ → Option ℕ
placed room at text = pick (ltb room (at + length text)) None (Some (at + length text))

-- the place after a text lies in a buffer of so many bytes, or at its end
abbrev pub PlaceInside : ℕ → Option ℕ → Type 0
PlaceInside room (Some q) = q ≤ room
PlaceInside room None = Unit {0}

-- a text that was put, in 01's terms, its number and its value: number 0 and the place after the text; 13 at place 0 where it has no room
abbrev pub put_told : Option ℕ → ℕ × ℕ
put_told (Some q) = (0, q)
put_told None = (13, 0)
