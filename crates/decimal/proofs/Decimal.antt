-- Laws of decimal text: what it is below ten and from ten on, its length, its first digit, and that it says its number.
-- Rests on specs/Decimal.
use mathlib.Core.Path.{◌≡◌, refl, ap}
use mathlib.Core.List.{List, [], ◌∷◌, ◌++◌, append-nil, append_assoc}
use mathlib.Core.Bool.{Bool, true, false}
use Prim.Native.Nat.{ℕ, zero, suc, ◌+◌, ◌-◌, ◌*◌, ◌/◌, ◌%◌, ◌^◌, ◌<◌, ◌≤◌}
use native.Mathlib.Nat.{pow-suc, div-lt_iff_lt-mul, mul_assoc}
use native.Mathlib.Omega.{arith}
use native.Mathlib.Numerals.{add-one, sub-one}
use lib.Dec.{ltb, lit<}
use lib.ListN.{length, get_or, set, drop, length-append, length-set, get_or-append, drop_of_length-le}
use lib.Seq.{drop-cons}
use Rattle.std.proofs.lemmas.List.{get_or-set_same, drop-set-lt}
use borrow.Author.Tests.{lt-ltb, le-ltb, ltb-true, ltb-false}
use Rattle.words.specs.Pick.{pick}
use Rattle.decimal.specs.Decimal.{figure, in_decimal, decimal, value}

-- two choices by one test, where what they choose when it fails is the same
otherwise : {A : Type 0} (b : Bool) (x y z : A) → (b ≡ false → y ≡ z) → pick b x y ≡ pick b x z
otherwise true x y z h = refl
otherwise false x y z h = h refl

-- room for n further digits is more than a number n needs
enough : (k j n : ℕ) → n ≤ k → n ≤ j → in_decimal k n ≡ in_decimal j n
unfolding in_decimal
enough zero zero n h g = refl
enough zero (suc j) n h g = let z : n ≡ 0 = omega arith in rw z
enough (suc k) zero n h g = let z : n ≡ 0 = omega arith in rw z
enough (suc k) (suc j) n h g =
    otherwise (ltb n 10) _ _ _
    (λ e. let q = ltb-false n 10 e in rw (enough k j (n / 10) (omega arith) (omega arith)))

pub below_ten : (n : ℕ) → n < 10 → decimal n ≡ figure n ∷ []
unfolding decimal in_decimal
below_ten zero h = refl
below_ten (suc n) h = rw (lt-ltb _ _ h)

pub from_ten : (n : ℕ) → 10 ≤ n → decimal n ≡ decimal (n / 10) ++ (figure (n % 10) ∷ [])
unfolding decimal in_decimal
from_ten zero h = absurd (omega arith)
from_ten (suc n) h = rw (le-ltb _ _ h, enough n (suc n / 10) (suc n / 10) (omega arith) (omega arith))

-- what holds below ten, and of a number where it holds of its tenth, holds of every number
pub by_tens : (P : ℕ → Type 0) → ((n : ℕ) → n < 10 → P n) → ((n : ℕ) → 10 ≤ n → P (n / 10) → P n) → (n : ℕ) → P n
by_tens P one more n = up_to n n (omega arith)
  where
    up_to : (k n : ℕ) → n ≤ k → P n
    up_to zero n h = one n (omega arith)
    up_to (suc k) n h = by-test (ltb n 10) refl (λ g. up_to k (n / 10) (omega arith))
      where
        by-test : (b : Bool) → ltb n 10 ≡ b → (10 ≤ n → P (n / 10)) → P n
        by-test true e on = one n (ltb-true n 10 e)
        by-test false e on = let g = ltb-false n 10 e in more n g (on g)

pub some_digit : (n : ℕ) → 0 < length (decimal n)
some_digit =
    by_tens (λ n. 0 < length (decimal n))
    (λ n h. rw (below_ten n h) (omega arith))
    (λ n h i. rw (from_ten n h, length-append) (omega arith))

pub one_digit : (n : ℕ) → n < 10 → length (decimal n) ≡ 1
one_digit n h = rw (below_ten n h)

pub digit_more : (n : ℕ) → 10 ≤ n → length (decimal n) ≡ length (decimal (n / 10)) + 1
digit_more n h = rw (from_ten n h, length-append)

few_digits : (n k : ℕ) → n < 10 ^ suc k → length (decimal n) ≤ suc k
few_digits =
    by_tens (λ n. (k : ℕ) → n < 10 ^ suc k → length (decimal n) ≤ suc k)
    (λ n h k g. rw (below_ten n h) (omega arith))
    further
  where
    further : (n : ℕ) → 10 ≤ n → ((k : ℕ) → n / 10 < 10 ^ suc k → length (decimal (n / 10)) ≤ suc k)
        → (k : ℕ) → n < 10 ^ suc k → length (decimal n) ≤ suc k
    further n h i zero g = absurd (omega arith)
    further n h i (suc k) g =
        let q : n < 10 ^ suc k * 10 = rw (pow-suc 10 (suc k)) at g in
        let r : n / 10 < 10 ^ suc k = (div-lt_iff_lt-mul (lit< tt)).1 q in
        rw (from_ten n h, length-append) (omega (arith, i k r))

-- a number of 64 bits has at most twenty digits
pub twenty : (n : ℕ) → n < 2 ^ 64 → length (decimal n) ≤ 20
twenty n h = few_digits n 19 (omega arith)

-- a number above 0 begins with no 0
pub no_leading_zero : (n : ℕ) → 0 < n → figure 0 < get_or (decimal n) 0 0
no_leading_zero =
    by_tens (λ n. 0 < n → figure 0 < get_or (decimal n) 0 0)
    (λ n h p. rw (below_ten n h) (omega arith))
    (λ n h i p. rw (from_ten n h, get_or-append (decimal (n / 10)) _ 0 0 (some_digit (n / 10))) (i (omega arith)))

value_more : (cs : List ℕ) (c : ℕ) → value (cs ++ (c ∷ [])) ≡ value cs * 10 + (c - 0x30)
unfolding value
value_more [] c = omega arith
value_more (x ∷ cs) c =
    let e : length (cs ++ (c ∷ [])) ≡ suc (length cs) = rw length-append (omega arith) in
    rw (e, pow-suc 10 (length cs), value_more cs c, ← mul_assoc (x - 0x30) (10 ^ length cs) 10) (omega arith)

-- the text of a number says that number
pub says : (n : ℕ) → value (decimal n) ≡ n
unfolding value
says =
    by_tens (λ n. value (decimal n) ≡ n)
    (λ n h. rw (below_ten n h) (omega arith))
    (λ n h i. rw (from_ten n h, value_more, i) (omega arith))

some_power : (k : ℕ) → 0 < 10 ^ k
some_power zero = omega arith
some_power (suc k) = let p = some_power k in rw pow-suc (omega arith)

-- how many digits a number has, by the power of ten that it reaches
pub digits_of : (n k : ℕ) → 10 ^ k ≤ n → n < 10 * 10 ^ k → length (decimal n) ≡ k + 1
digits_of =
    by_tens (λ n. (k : ℕ) → 10 ^ k ≤ n → n < 10 * 10 ^ k → length (decimal n) ≡ k + 1)
    below
    further
  where
    below : (n : ℕ) → n < 10 → (k : ℕ) → 10 ^ k ≤ n → n < 10 * 10 ^ k → length (decimal n) ≡ k + 1
    below n h zero l g = one_digit n h
    below n h (suc k) l g = let q : 10 ^ k * 10 ≤ n = rw pow-suc at l in let p = some_power k in absurd (omega arith)

    further : (n : ℕ) → 10 ≤ n → ((k : ℕ) → 10 ^ k ≤ n / 10 → n / 10 < 10 * 10 ^ k → length (decimal (n / 10)) ≡ k + 1)
        → (k : ℕ) → 10 ^ k ≤ n → n < 10 * 10 ^ k → length (decimal n) ≡ k + 1
    further n h i zero l g = absurd (omega arith)
    further n h i (suc k) l g =
        let q : 10 ^ k * 10 ≤ n = rw pow-suc at l in
        let r : n < 10 * (10 ^ k * 10) = rw pow-suc at g in
        omega (arith, digit_more n h, i k (omega arith) (omega arith))

-- the text of a number is its so many low digits
unfoldable pub low : ℕ → ℕ → List ℕ
low zero n = []
low (suc w) n = low w (n / 10) ++ (figure (n % 10) ∷ [])

pub low_digits : (n : ℕ) → low (length (decimal n)) n ≡ decimal n
unfolding low
low_digits =
    by_tens (λ n. low (length (decimal n)) n ≡ decimal n)
    (λ n h. let e : n % 10 ≡ n = omega arith in rw (below_ten n h, e))
    (λ n h i. rw (from_ten n h, length-append, add-one) (ap (λ (l : List ℕ). l ++ (figure (n % 10) ∷ [])) i))

-- the digits stored so far, and the next one stored before them
pub low_turn : (text : List ℕ) (i n : ℕ) → 0 < i → i ≤ length text
    → low i n ++ drop i text ≡ low (i - 1) (n / 10) ++ drop (i - 1) (set text (i - 1) (figure (n % 10)))
unfolding low
low_turn text zero n h l = absurd (omega arith)
low_turn text (suc i) n h l =
    rw (sub-one, drop-cons (set text i (figure (n % 10))) i 0 (rw length-set l), get_or-set_same text i _ 0 l, drop-set-lt (suc i) text i _ (omega arith), append_assoc)

pub low_all : (text : List ℕ) (n : ℕ) → length text ≡ length (decimal n) → low (length text) n ++ drop (length text) text ≡ decimal n
low_all text n e = rw (drop_of_length-le text {i = length text} (omega arith), append-nil, e) (low_digits n)
