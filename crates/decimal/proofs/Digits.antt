-- Decimal text is told apart: it has no bytes but 0x30 to 0x39, and two numbers of one text are one number. Rests on specs/Decimal and on its laws.
use mathlib.Core.Path.{◌≡◌, sym, ap, ◌∙◌}
use mathlib.Core.List.{List, [], ◌∷◌, ◌++◌}
use mathlib.Core.Bool.{Bool, true, false}
use Prim.Native.Nat.{ℕ, ◌/◌, ◌%◌, ◌<◌, ◌≤◌}
use native.Mathlib.Omega.{arith}
use lib.Dec.{eqb}
use borrow.Author.Tests.{ne_eqb}
use Rattle.words.specs.Lists.{among}
use Rattle.words.specs.Pick.{pick}
use Rattle.decimal.specs.Decimal.{figure, decimal, value}
use Rattle.decimal.proofs.Decimal.{below_ten, from_ten, by_tens, says}

-- a byte that is none of the digits
abbrev pub NoDigit : ℕ → Type 0
NoDigit c = 0x30 ≤ c → c ≤ 0x39 → ⊥

not_last : (c d : ℕ) → NoDigit c → d < 10 → eqb (figure d) c ≡ false
not_last c d h b = ne_eqb (figure d) c (λ e. h (omega arith) (omega arith))

-- one more digit
not_longer : (c d : ℕ) (x : List ℕ) → among c x ≡ false → eqb d c ≡ false → among c (x ++ (d ∷ [])) ≡ false
unfolding among
not_longer c d [] h e = rw e
not_longer c d (b ∷ x) h e = by-test (eqb b c) h (λ k. not_longer c d x k e)
  where
    by-test : (a : Bool) → pick a true (among c x) ≡ false → (among c x ≡ false → among c (x ++ (d ∷ [])) ≡ false)
        → pick a true (among c (x ++ (d ∷ []))) ≡ false
    by-test true k on = k
    by-test false k on = on k

-- decimal text has no bytes but digits
pub digits_only : (c n : ℕ) → NoDigit c → among c (decimal n) ≡ false
unfolding among
digits_only c n h =
    by_tens (λ n. among c (decimal n) ≡ false)
    (λ n b. rw (below_ten n b, not_last c n h b))
    (λ n b i. rw (from_ten n b) (not_longer c (figure (n % 10)) (decimal (n / 10)) i (not_last c (n % 10) h (omega arith))))
    n

-- so it is no dot
pub no_dot : (n : ℕ) → decimal n ≡ 0x2E ∷ [] → ⊥
unfolding among
no_dot n h =
    let k : among 0x2E (decimal n) ≡ true = rw h in
    let d : among 0x2E (decimal n) ≡ false = digits_only 0x2E n (λ a b. omega arith) in
    let z : ◌≡◌ {A = ℕ} 0 1 = cc in
    omega arith

-- it says its number
pub same_number : (m n : ℕ) → decimal m ≡ decimal n → m ≡ n
same_number m n h = sym (says m) ∙ ap value h ∙ says n
