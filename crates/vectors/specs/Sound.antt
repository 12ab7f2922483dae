-- A value that is sound: all its elements are there, and each is judged by the value's use. Rests on values and on vectors.
use Rattle.std.specs.Prelude.{ℕ, ◌+◌, ◌-◌, ◌*◌, ◌/◌, List, ltb, eqb, take, drop, Err, Ok}
use Rattle.words.specs.Pick.{pick}
use Rattle.types.specs.declared.Use.{Use}
use Rattle.types.specs.declared.Use.TheVariants.{Id, Allele, Filter, Integer, Info, Format, Gt}
use Rattle.values.specs.Answers.{refusal, Answer, whole}
use Rattle.values.specs.Values.{present}
use Rattle.values.specs.declared.Value.{Value}
use Rattle.vectors.specs.Vectors.{judged, Sound}

-- the largest number of an integer type
unfoldable pub highest : ℕ → ℕ
highest t = pick (eqb t 1) 0x7F (pick (eqb t 2) 0x7FFF 0x7FFFFFFF)

-- the largest code v of GT that is not negative and whose allele, (v / 2) − 1, is below the count
unfoldable pub code_most : ℕ → ℕ → ℕ
code_most alleles t = pick (ltb alleles (highest t / 2)) (alleles * 2 + 1) (highest t)

-- the most that a plain element may be: GT's codes have their own, other values' elements are any 32 bits
abbrev pub most_of : Use → ℕ → ℕ → ℕ
most_of Gt alleles t = code_most alleles t
most_of Id alleles t = 0xFFFFFFFF
most_of Allele alleles t = 0xFFFFFFFF
most_of Filter alleles t = 0xFFFFFFFF
most_of Integer alleles t = 0xFFFFFFFF
most_of Info alleles t = 0xFFFFFFFF
most_of Format alleles t = 0xFFFFFFFF

-- elements that were judged from `first` on: the value stands, or the refusal at its place in the block
abbrev pub judged_from : ℕ → Answer Value → Answer (Unit {0}) → Answer Value
judged_from first v Sound = v
judged_from first v (Err r) = Err (refusal r.number (first + r.place))

abbrev pub soundly : ℕ → Use → ℕ → List ℕ → Answer Value → Answer Value
soundly alleles role at l (Err r) = Err r
soundly alleles role at l (Ok v) =
    judged_from v.first (whole v.code v.len v.first v.stop) (judged (most_of role alleles v.code) v.code v.len (take (v.stop - v.first) (drop (v.first - at) l)))

-- a value at the front of a list: so many vectors of its length, all there and sound
unfoldable pub sound : ℕ → ℕ → Use → ℕ → List ℕ → Answer Value
sound vectors alleles role at l = soundly alleles role at l (present vectors role at l)
