-- The elements of a vector, judged one after the other, and vectors in turn. Rests on types' kinds of element.
use Rattle.std.specs.Prelude.{ℕ, zero, suc, ◌+◌, ◌*◌, ◌/◌, ◌≤◌, List, [], ◌∷◌, Bool, true, false, ltb, length, drop, Err, Result, Ok}
use Rattle.words.specs.Pick.{pick}
use Rattle.words.specs.Words.{number}
use Rattle.types.specs.Rows.{width_of}
use Rattle.types.specs.Elements.{kind, shown}
use Rattle.types.specs.declared.Element.{Element}
use Rattle.types.specs.declared.Element.TheVariants.{Plain, Missing, End, Reserved}
use Rattle.values.specs.Answers.{refusal, Says, refuses, holds, Answer}

-- elements: all sound, or the number and the place of the first that is refused
pattern abbrev pub Sound : Answer (Unit {0})
Sound = Ok tt

abbrev pub unsound : ℕ → ℕ → Answer (Unit {0})
unsound n p = Err (refusal n p)

abbrev pub judged_says : Answer (Unit {0}) → Says
judged_says (Err r) = refuses r
judged_says Sound = holds []

-- an element at a place: refused there, or passed, with 1 where the vector has ended and 0 where it has not
abbrev pub turn_says : ℕ → Result Bool ℕ → Says
turn_says at (Err n) = refuses (refusal n at)
turn_says at (Ok ended) = holds (pick ended 1 0 ∷ [])

-- the place of a refusal lies in a part of so many bytes
abbrev pub JudgedInside : ℕ → Answer (Unit {0}) → Type 0
JudgedInside end (Err r) = r.place ≤ end
JudgedInside end Sound = Unit {0}

-- the first n numbers of w bytes each
unfoldable pub numbers : ℕ → ℕ → List ℕ → List ℕ
numbers w zero l = []
numbers w (suc n) l = number w l ∷ numbers w n (drop w l)

-- the same, as they are shown
unfoldable pub shown_numbers : ℕ → ℕ → ℕ → List ℕ → List ℕ
shown_numbers t w zero l = []
shown_numbers t w (suc n) l = shown t (number w l) ∷ shown_numbers t w n (drop w l)

-- the elements of type t in so many bytes at the front of a list, as they are shown
unfoldable pub elements_of : ℕ → ℕ → List ℕ → List ℕ
elements_of t size l = shown_numbers t (width_of t) (size / width_of t) l

-- an element whose number is x, after an end of vector or not: refused, 9 where it is reserved or stands after an end of vector,
-- 10 where it is plain and above the most that the vector may hold; else on, with whether the vector has ended
abbrev pub element_turn : ℕ → Bool → Element → ℕ → Result Bool ℕ
element_turn most ended Reserved x = Err 9
element_turn most ended End x = Ok true
element_turn most ended Missing x = pick ended (Err 9) (Ok false)
element_turn most ended Plain x = pick ended (Err 9) (pick (ltb most x) (Err 10) (Ok false))

-- after an element at a place: stopped there, or on to the rest
abbrev pub follow : ℕ → Result Bool ℕ → (Bool → Answer (Unit {0})) → Answer (Unit {0})
follow at (Err n) rest = unsound n at
follow at (Ok ended) rest = rest ended

-- the elements of one vector of type t and width w, given as numbers; `at` is the first one's place
unfoldable pub vector : ℕ → ℕ → ℕ → ℕ → Bool → List ℕ → Answer (Unit {0})
vector most t w at ended [] = Sound
vector most t w at ended (x ∷ xs) = follow at (element_turn most ended (kind t x) x) (λ e. vector most t w (at + w) e xs)

-- the first refusal of the two
abbrev pub and_then : Answer (Unit {0}) → Answer (Unit {0}) → Answer (Unit {0})
and_then (Err r) next = Err r
and_then Sound next = next

-- n vectors of len elements each at the front of a list of bytes, one after the other
unfoldable pub vectors : ℕ → ℕ → ℕ → ℕ → ℕ → ℕ → List ℕ → Answer (Unit {0})
vectors most t w len zero at l = Sound
vectors most t w len (suc n) at l =
    let on = vectors most t w len n (at + len * w) (drop (len * w) l) in
    and_then (vector most t w at false (numbers w len l)) on

-- a part that is vectors of type t, len elements each; places count from its start
unfoldable pub judged : ℕ → ℕ → ℕ → List ℕ → Answer (Unit {0})
judged most t len l = vectors most t (width_of t) len (length l / width_of t / len) 0 l
