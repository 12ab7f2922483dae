-- QUAL's text: what it is case by case, and that two that are printed alike are the same bits, or the two zeros.
-- Rests on specs/Qual, on Bits and on decimal's laws.
use mathlib.Core.Path.{◌≡◌, refl, sym, ◌∙◌}
use mathlib.Core.Logic.{◌⊎◌, inl}
use mathlib.Core.List.{[]}
use mathlib.Core.Bool.{Bool, true, false}
use Prim.Native.Nat.{ℕ, ◌%◌}
use native.Mathlib.Omega.{arith}
use lib.Dec.{eqb}
use borrow.Author.Tests.{eq-eqb, ne_eqb, eqb-true, eqb-false}
use Rattle.words.specs.Pick.{pick}
use Rattle.decimal.specs.Decimal.{decimal}
use Rattle.decimal.proofs.Digits.{no_dot, same_number}
use Rattle.pieces.specs.Pieces.{dot}
use Rattle.vcf_qual.specs.Qual.{whole_of, missing_qual, is_number, printable, qual_text}
use Rattle.std.specs.Prelude.{Option, Some, None}
use Rattle.vcf_qual.proofs.Bits.{alike}

pub text_missing : (q : ℕ) → q ≡ missing_qual → qual_text q ≡ dot
unfolding qual_text
text_missing q h = rw (eq-eqb q missing_qual h)

pub text_number : (q n : ℕ) → (q ≡ missing_qual → ⊥) → whole_of q ≡ Some n → qual_text q ≡ decimal n
unfolding qual_text
text_number q n h e = rw (ne_eqb q missing_qual h, e)

pub text_other : (q : ℕ) → (q ≡ missing_qual → ⊥) → whole_of q ≡ None → qual_text q ≡ []
unfolding qual_text
text_other q h e = rw (ne_eqb q missing_qual h, e)

-- what is printed is missing, or a number; with its text
pub data Printed (q : ℕ) : Type 0 where
  missing : q ≡ missing_qual → qual_text q ≡ dot → Printed q
  number : (n : ℕ) → whole_of q ≡ Some n → qual_text q ≡ decimal n → Printed q

pub printed : (q : ℕ) → printable q ≡ true → Printed q
unfolding printable
printed q h = by-test (eqb q missing_qual) refl h
  where
    by_whole : (w : Option ℕ) → whole_of q ≡ w → (q ≡ missing_qual → ⊥) → is_number w ≡ true → Printed q
    by_whole (Some n) e m h = number n e (text_number q n m e)
    by_whole None e m h = let z : ◌≡◌ {A = ℕ} 0 1 = cc in absurd (omega arith)

    by-test : (b : Bool) → eqb q missing_qual ≡ b → pick b true (is_number (whole_of q)) ≡ true → Printed q
    by-test true e h = let m = eqb-true q missing_qual e in missing m (text_missing q m)
    by-test false e h = by_whole (whole_of q) refl (eqb-false q missing_qual e) h

-- two that are printed alike are the same bits, or the two zeros
pub qual_alike : (q r : ℕ) → printable q ≡ true → printable r ≡ true → qual_text q ≡ qual_text r
    → (q ≡ r) ⊎ ((q % 2147483648 ≡ 0) × (r % 2147483648 ≡ 0))
qual_alike q r h g e = by_both (printed q h) (printed r g)
  where
    by_both : Printed q → Printed r → (q ≡ r) ⊎ ((q % 2147483648 ≡ 0) × (r % 2147483648 ≡ 0))
    by_both (missing a b) (missing c d) = inl (a ∙ sym c)
    by_both (missing a b) (number n c d) = absurd (no_dot n (sym d ∙ sym e ∙ b))
    by_both (number m a b) (missing c d) = absurd (no_dot m (sym b ∙ e ∙ d))
    by_both (number m a b) (number n c d) = let s : m ≡ n = same_number m n (sym b ∙ e ∙ d) in alike q r n (rw (← s) a) c
