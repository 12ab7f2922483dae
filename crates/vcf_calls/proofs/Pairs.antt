-- People with two slots of one character each, whose column is four bytes, and with one such slot before an end of vector. Rests on proofs/Words.
use mathlib.Core.Path.{◌≡◌, refl, sym, ◌∙◌}
use mathlib.Core.Bool.{Bool, true, false}
use mathlib.Core.List.{List, [], ◌∷◌, append-nil}
use Prim.Native.Nat.{ℕ, ◌+◌, ◌-◌, ◌/◌, ◌<◌, ◌≤◌}
use native.Mathlib.Omega.{arith}
use lib.Dec.{ltb}
use lib.ListN.{length, get_or, drop, length-append, length-drop}
use borrow.Author.Tests.{lt-ltb, ltb-true, ltb-false}
use Rattle.words.specs.Words.{number}
use Rattle.types.specs.Elements.{widened, shown}
use Rattle.vectors.proofs.Plain.{width_1}
use Rattle.decimal.proofs.Decimal.{below_ten}
use Rattle.elements.proofs.Elements.{byte_number}
use Rattle.vcf_calls.specs.Words.{slot_word, separator, call_of_number}
use Rattle.vcf_calls.specs.Engine.{column_of, single_text, pair_text}
use Rattle.vcf_calls.proofs.Words.{end_shown, missing_word, allele_word, later_text_none, later_text_end, later_text_on, person_text_on}

-- a code below 22 is a dot or one digit
pub one_digit : (x : ℕ) → 2 ≤ x → x < 22 → slot_word (call_of_number x) ≡ (0x30 + (x / 2 - 1)) ∷ []
one_digit x h b = rw (allele_word x h (omega arith), below_ten (x / 2 - 1) (omega arith))

word_length : (x : ℕ) → x < 22 → length (slot_word (call_of_number x)) ≡ 1
word_length x h = by_code (ltb x 2) refl
  where
    by_code : (b : Bool) → ltb x 2 ≡ b → length (slot_word (call_of_number x)) ≡ 1
    by_code true e = rw (missing_word x (ltb-true x 2 e))
    by_code false e = rw (one_digit x (ltb-false x 2 e) h)

-- so such a column has four bytes, which are these
pub pair_bytes_lem : (a b x m y : ℕ) → slot_word (call_of_number a) ≡ x ∷ [] → m ≡ separator (call_of_number b) → slot_word (call_of_number b) ≡ y ∷ []
    → pair_text a b ≡ 0x09 ∷ x ∷ m ∷ y ∷ []
unfolding pair_text
pair_bytes_lem a b x m y p e q = rw (p, q, ← e)

pub pair_length : (a b : ℕ) → a < 22 → b < 22 → length (pair_text a b) ≡ 4
unfolding pair_text
pair_length a b h k =
    rw length-append (omega (arith, word_length a h, word_length b k))

-- and it is the column of the two bytes
narrow : (x : ℕ) → x < 22 → x ≡ shown 1 x
unfolding shown widened
narrow x h = rw (lt-ltb x 0x80 (omega arith))

end_narrow : shown 1 0x81 ≡ end_shown
unfolding shown widened
end_narrow = refl

pub single_column : (s : List ℕ) (a : ℕ) → length s ≡ 2 → a ≡ get_or s 0 0 → 0x81 ≡ get_or s 1 0 → a < 22 → column_of 1 s ≡ single_text a
unfolding column_of single_text
single_column s a n p q h =
    let e : a ≡ shown 1 (number 1 s) = narrow a h ∙ rw (byte_number s 0, p) in
    let d : shown 1 (number 1 (drop 1 s)) ≡ end_shown = rw (byte_number s 1, ← q) end_narrow in
    rw (
      person_text_on 1 1 s a (sym width_1) (omega arith) (omega arith) e (omega arith) (λ z. omega arith),
      later_text_end 1 1 (drop 1 s) (sym width_1) (omega arith) (rw length-drop (omega arith)) d,
      append-nil (slot_word (call_of_number a)),
    )

pub pair_column : (s : List ℕ) (a b : ℕ) → length s ≡ 2 → a ≡ get_or s 0 0 → b ≡ get_or s 1 0 → a < 22 → b < 22 → column_of 1 s ≡ pair_text a b
unfolding column_of pair_text
pair_column s a b n p q h k =
    let e : a ≡ shown 1 (number 1 s) = narrow a h ∙ rw (byte_number s 0, p) in
    let d : b ≡ shown 1 (number 1 (drop 1 s)) = narrow b k ∙ rw (byte_number s 1, q) in
    rw (
      person_text_on 1 1 s a (sym width_1) (omega arith) (omega arith) e (omega arith) (λ z. omega arith),
      later_text_on 1 1 (drop 1 s) b (sym width_1) (omega arith) (rw length-drop (omega arith)) d (omega arith) (λ z. omega arith),
      later_text_none 1 1 (drop 1 (drop 1 s)) (sym width_1) (rw (length-drop, length-drop) (omega arith)),
      append-nil (slot_word (call_of_number b)),
    )
