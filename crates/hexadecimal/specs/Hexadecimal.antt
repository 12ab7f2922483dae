-- Lines of hexadecimal digits, as lists of character codes: the first line's facts, the people of a choice's line, and the bytes of a
-- record's line.
-- Rests on facts, and on the choice by a test.
use Rattle.std.specs.Prelude.{ℕ, zero, suc, ◌+◌, ◌-◌, ◌*◌, ◌/◌, ◌%◌, ◌^◌, ◌≤◌, List, [], ◌∷◌, Bool, true, false, Option as StdOption, Some, None, Result, Ok, Err, leb, ltb, eqb, length, take, drop}
use Rattle.std.proofs.Math.Option.{Option, none, some}
use Rattle.std.proofs.lemmas.List.Edits.{sets}
use Rattle.words.specs.Pick.{pick}
use Rattle.facts.specs.declared.Facts.{Facts}
use Rattle.hexadecimal.specs.declared.LineError.{LineError}
use Rattle.hexadecimal.specs.declared.LineError.TheVariants.{Bad, NoRoom}

-- a character is one of those from a first to a last
abbrev pub in_range : ℕ → ℕ → ℕ → Bool
in_range first last c = pick (leb first c) (leb c last) false

-- the value of a character as a digit: 0 to 9, A to F or a to f; 16 for any other character
unfoldable pub digit : ℕ → ℕ
digit c =
    pick (in_range 0x30 0x39 c) (c - 0x30)
    (pick (in_range 0x41 0x46 c) (c - 0x41 + 10)
    (pick (in_range 0x61 0x66 c) (c - 0x61 + 10)
    16))

-- the values of n characters, from c on
unfoldable pub values_from : ℕ → ℕ → List ℕ
values_from c zero = []
values_from c (suc n) = digit c ∷ values_from (suc c) n

-- each character is a digit
unfoldable pub digits : List ℕ → Bool
digits [] = true
digits (c ∷ cs) = pick (leb 16 (digit c)) false (digits cs)

-- the byte of two digits, the high one first
unfoldable pub byte : ℕ → ℕ → ℕ
byte h l = digit h * 16 + digit l

-- the bytes of a line of digits, two digits a byte; an odd last digit is no byte
unfoldable pub line_bytes : List ℕ → List ℕ
line_bytes [] = []
line_bytes (h ∷ []) = []
line_bytes (h ∷ l ∷ rest) = byte h l ∷ line_bytes rest

-- the number of a list of digits, high digit first
unfoldable pub big : List ℕ → ℕ
big [] = 0
big (c ∷ cs) = digit c * 16 ^ length cs + big cs

-- the first line is 32 digits: strings, contigs, people and GT offset, eight digits each
abbrev pub facts_in : List ℕ → Facts
facts_in l =
    record {
      strings = big (take 8 l);
      contigs = big (take 8 (drop 8 l));
      people = big (take 8 (drop 16 l));
      gt = big (take 8 (drop 24 l));
    }

unfoldable pub facts_of : List ℕ → StdOption Facts
facts_of l = pick (eqb (length l) 32) (pick (digits l) (Some (facts_in l)) None) None

-- the first so many numbers of a line of digits, eight digits each
unfoldable pub eights : ℕ → List ℕ → List ℕ
eights zero l = []
eights (suc n) l = big (take 8 l) ∷ eights n (drop 8 l)

-- what is answered to a line that says some bytes or is bad, where there is room for so many bytes
abbrev pub answered : ℕ → Option (List ℕ) → Result ℕ LineError
answered room none = Err Bad
answered room (some bs) = pick (ltb room (length bs)) (Err NoRoom) (Ok (length bs))

-- the bytes that were stored lie in a buffer of so many
abbrev pub BytesInside : ℕ → Result ℕ LineError → Type 0
BytesInside room (Ok n) = n ≤ room
BytesInside room (Err e) = Unit {0}

-- a choice's line: none where it is bad, being over 240,000 digits, not eight digits a person, or with another character; else its people
unfoldable pub choice_of : List ℕ → Option (List ℕ)
choice_of l =
    pick (ltb 240000 (length l)) none (pick (eqb (length l % 8) 0) (pick (digits l) (some (eights (length l / 8) l)) none) none)

-- what is answered to a choice's line, where there is room for so many people
abbrev pub choice_answered : ℕ → Option (List ℕ) → Result ℕ LineError
choice_answered = answered

-- the people that were stored lie in a buffer of so many
abbrev pub PeopleInside : ℕ → Result ℕ LineError → Type 0
PeopleInside = BytesInside

-- a record's line: none where it is bad, being over 60,000 digits, of odd length, or with another character; else its bytes
unfoldable pub frame_of : List ℕ → Option (List ℕ)
frame_of l = pick (ltb 60000 (length l)) none (pick (eqb (length l % 2) 1) none (pick (digits l) (some (line_bytes l)) none))

-- the buffer after a line: its bytes or people from the start on, where they have room
abbrev pub stored : List ℕ → Option (List ℕ) → List ℕ
stored buf none = buf
stored buf (some bs) = pick (ltb (length buf) (length bs)) buf (sets buf 0 bs)

-- what is counted of a line of at most so many digits, so many of them a value, where there is room for so many values
unfoldable pub counted : ℕ → ℕ → ℕ → List ℕ → Result ℕ LineError
counted most width room l =
    let n = length l / width in
    pick (ltb most (length l)) (Err Bad)
    (pick (eqb (length l % width) 0) (pick (digits l) (pick (ltb room n) (Err NoRoom) (Ok n)) (Err Bad)) (Err Bad))
