-- Reading back what was written: a line of capitals gives its bytes, and eight digits their number. Rests on specs/Capitals and on
-- hexadecimal.
use mathlib.Core.Path.{◌≡◌, refl}
use mathlib.Core.List.{List, [], ◌∷◌, ◌++◌}
use mathlib.Core.Bool.{Bool, true, false}
use mathlib.Core.Option.{some}
use Prim.Native.Nat.{ℕ, zero, suc, ◌+◌, ◌*◌, ◌/◌, ◌%◌, ◌^◌, ◌<◌, ◌≤◌}
use native.Mathlib.Omega.{arith}
use lib.Dec.{ltb}
use lib.ListN.{length, get_or}
use borrow.Author.Tests.{le-leb, lt-leb, ltb-true, ltb-false}
use Rattle.words.specs.Pick.{pick}
use Rattle.hexadecimal.specs.Hexadecimal.{digit, digits, byte, line_bytes, big, frame_of}
use Rattle.hexadecimal.proofs.Frames.{frame_good}
use Rattle.capitals.specs.Capitals.{capital, capitals, high_first, eight}
use Rattle.capitals.proofs.Turns.{length_capitals}

-- each number of a list is a byte
abbrev pub Bytes : List ℕ → Type 0
Bytes bs = (i : ℕ) → i < length bs → get_or bs i 0 < 256

rest : (b : ℕ) (bs : List ℕ) → Bytes (b ∷ bs) → Bytes bs
rest b bs h i l = h (suc i) (omega arith)

-- the value of a digit's character is the digit
pub digit_capital : (d : ℕ) → d < 16 → digit (capital d) ≡ d
unfolding digit capital
digit_capital d h = by_ten (ltb d 10) refl
  where
    by_ten : (t : Bool) → ltb d 10 ≡ t → digit (pick t (0x30 + d) (0x37 + d)) ≡ d
    by_ten true e =
        let l = ltb-true d 10 e in
        rw (le-leb 0x30 (0x30 + d) (omega arith), le-leb (0x30 + d) 0x39 (omega arith)) (omega arith)
    by_ten false e =
        let l = ltb-false d 10 e in
        rw (le-leb 0x30 (0x37 + d) (omega arith), lt-leb (0x37 + d) 0x39 (omega arith), le-leb 0x41 (0x37 + d) (omega arith), le-leb (0x37 + d) 0x46 (omega arith)) (omega arith)

pub digits_capitals : (bs : List ℕ) → Bytes bs → digits (capitals bs) ≡ true
unfolding digits capitals
digits_capitals [] h = refl
digits_capitals (b ∷ bs) h =
    let q : b < 256 = h 0 (omega arith) in
    let hi : b / 16 < 16 = omega arith in
    let lo : b % 16 < 16 = omega arith in
    rw (digit_capital (b / 16) hi, digit_capital (b % 16) lo, lt-leb 16 (b / 16) hi, lt-leb 16 (b % 16) lo) (digits_capitals bs (rest b bs h))

line_bytes_capitals : (bs : List ℕ) → Bytes bs → line_bytes (capitals bs) ≡ bs
unfolding line_bytes capitals byte
line_bytes_capitals [] h = refl
line_bytes_capitals (b ∷ bs) h =
    let q : b < 256 = h 0 (omega arith) in
    let hi : b / 16 < 16 = omega arith in
    let lo : b % 16 < 16 = omega arith in
    let e : b / 16 * 16 + b % 16 ≡ b = omega arith in
    rw (digit_capital (b / 16) hi, digit_capital (b % 16) lo, e, line_bytes_capitals bs (rest b bs h))

-- the line of at most 30,000 bytes gives those bytes
pub reads_back : (bs : List ℕ) → length bs ≤ 30000 → Bytes bs → frame_of (capitals bs) ≡ some bs
reads_back bs l h =
    let n = length_capitals bs in
    let g = frame_good (capitals bs) (omega arith) (λ o. omega arith) (digits_capitals bs h) in
    rw (line_bytes_capitals bs h) at g

-- the four bytes of a number are bytes
next : (b : ℕ) (bs : List ℕ) → b < 256 → Bytes bs → Bytes (b ∷ bs)
next b bs h k zero l = h
next b bs h k (suc i) l = k i (omega arith)

pub bytes_high : (n : ℕ) (bs : List ℕ) → n < 2 ^ 32 → Bytes bs → Bytes (high_first n ++ bs)
unfolding high_first
bytes_high n bs h k =
    let one = next (n % 256) bs (omega arith) k in
    let two = next (n / 256 % 256) (n % 256 ∷ bs) (omega arith) one in
    let three = next (n / 65536 % 256) (n / 256 % 256 ∷ n % 256 ∷ bs) (omega arith) two in
    next (n / 16777216) (n / 65536 % 256 ∷ n / 256 % 256 ∷ n % 256 ∷ bs) (omega arith) three

-- a byte by its two digits; a number by its bytes, and those by their digits
halves : (x : ℕ) → x ≡ x / 16 * 16 + x % 16
halves x = omega arith

by_digits : (n x y a b c d h₁ l₁ h₂ l₂ h₃ l₃ h₄ l₄ : ℕ) → n ≡ x * 256 + d → x ≡ y * 256 + c → y ≡ a * 256 + b
    → a ≡ h₁ * 16 + l₁ → b ≡ h₂ * 16 + l₂ → c ≡ h₃ * 16 + l₃ → d ≡ h₄ * 16 + l₄
    → h₁ * 16 ^ 7 + (l₁ * 16 ^ 6 + (h₂ * 16 ^ 5 + (l₂ * 16 ^ 4 + (h₃ * 16 ^ 3 + (l₃ * 16 ^ 2 + (h₄ * 16 ^ 1 + (l₄ * 16 ^ 0 + 0))))))) ≡ n
by_digits n x y a b c d h₁ l₁ h₂ l₂ h₃ l₃ h₄ l₄ n-is x-is y-is a-is b-is c-is d-is = omega arith

-- the eight digits of a number say it
pub big_eight : (n : ℕ) → n < 2 ^ 32 → big (eight n) ≡ n
unfolding big capitals high_first
big_eight n h =
    let a = n / 16777216 in
    let b = n / 65536 % 256 in
    let c = n / 256 % 256 in
    let d = n % 256 in
    let x-is : n / 256 ≡ n / 65536 * 256 + c = omega arith in
    let y-is : n / 65536 ≡ a * 256 + b = omega arith in
    let n-is : n ≡ n / 256 * 256 + d = omega arith in
    rw (
      digit_capital (a / 16) (omega arith),
      digit_capital (a % 16) (omega arith),
      digit_capital (b / 16) (omega arith),
      digit_capital (b % 16) (omega arith),
      digit_capital (c / 16) (omega arith),
      digit_capital (c % 16) (omega arith),
      digit_capital (d / 16) (omega arith),
      digit_capital (d % 16) (omega arith),
    )
    (by_digits n (n / 256) (n / 65536) a b c d _ _ _ _ _ _ _ _ n-is x-is y-is (halves a) (halves b) (halves c) (halves d))
