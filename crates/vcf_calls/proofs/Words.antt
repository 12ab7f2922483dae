-- What a number of GT says, by its 32 bits; and the words of a person's slots, element by element. Rests on specs/Words, and on what a code of GT says.
use mathlib.Core.Path.{◌≡◌, refl, ◌∙◌}
use mathlib.Core.Logic.{◌≢◌}
use mathlib.Core.Bool.{Bool, true, false}
use mathlib.Core.List.{List, [], ◌∷◌, ◌++◌}
use Prim.Native.Nat.{ℕ, zero, suc, ◌+◌, ◌-◌, ◌/◌, ◌%◌, ◌^◌, ◌<◌, ◌≤◌}
use native.Mathlib.Omega.{arith}
use native.Mathlib.Numerals.{add-one, sub-one}
use native.Mathlib.Nat.{add-div_left, div-eq_of_lt}
use lib.Dec.{ltb, eqb}
use lib.IntN.{pos, negsuc}
use lib.ListN.{drop, length, length-append, length-drop, replicate}
use lib.Seq.{drop-append_seam}
use Rattle.std.proofs.lemmas.List.{take-append-le}
use mir.Syntax.{w32}
use mir.Val.{to_z}
use mir.Facts.{of_z-to_z, to_z_pos}
use borrow.Author.Tests.{lt-ltb, eq-eqb, ne_eqb, ltb-true, ltb-false}
use Rattle.words.specs.Pick.{pick}
use Rattle.words.specs.Words.{number}
use Rattle.words.proofs.Sign.{high}
use Rattle.types.specs.Elements.{marked, kind, shown}
use Rattle.types.specs.declared.Element.{Element}
use Rattle.types.specs.declared.Element.TheVariants.{Plain, Missing as MissingMark, End as EndMark, Reserved}
use Rattle.vectors.specs.Vectors.{shown_numbers, elements_of}
use Rattle.types.specs.Rows.{width_of}
use Rattle.decimal.specs.Decimal.{decimal}
use Rattle.elements.specs.Elements.{shown_by, code_call, call_of}
use Rattle.elements.specs.declared.Call.{Call}
use Rattle.elements.specs.declared.Call.TheVariants.{Allele, Missing, End}
use Rattle.pieces.specs.Pieces.{followed, dot}
use Rattle.vcf_calls.specs.Words.{slot_word, phase_mark, separator, later_words, call_of_number, up_to_end, slot_calls, person_word, genotype_word}
use Rattle.vcf_calls.specs.Engine.{later_text, person_text}

-- the mark of an end of vector, as it is shown
abbrev pub end_shown : ℕ
end_shown = 0x80000001

-- by the mark that a number is, and the signed number
called_as : (x : ℕ) → x < 2 ^ 32 → call_of_number x ≡ call_of (kind 3 x) (to_z w32 x)
unfolding call_of_number shown_by
called_as x h = rw (of_z-to_z {w = w32} (record { fits = h }))

plain_below : (x : ℕ) → x < 2147483648 → kind 3 x ≡ Plain
unfolding kind marked
plain_below x h = rw (lt-ltb x 0x80000000 h)

-- from 0 on it is a code
pub code_call_lem : (x : ℕ) → x < 2147483648 → call_of_number x ≡ code_call (pos x)
code_call_lem x h = called_as x (omega arith) ∙ rw (plain_below x h, to_z_pos w32 h)

-- below 0 it is a dot, and unphased
negative : (k : Element) (n : ℕ) → (slot_word (call_of k (negsuc n)) ≡ dot) × (separator (call_of k (negsuc n)) ≡ 0x2F)
unfolding code_call
negative Plain n = (refl, refl)
negative MissingMark n = (refl, refl)
negative EndMark n = (refl, refl)
negative Reserved n = (refl, refl)

pub high_word : (x : ℕ) → 2147483648 ≤ x → x < 2 ^ 32 → slot_word (call_of_number x) ≡ dot
high_word x h b = rw (called_as x b, high x h) (negative (kind 3 x) (2 ^ 32 - suc x)).0

pub high_mark : (x : ℕ) → 2147483648 ≤ x → x < 2 ^ 32 → separator (call_of_number x) ≡ 0x2F
high_mark x h b = rw (called_as x b, high x h) (negative (kind 3 x) (2 ^ 32 - suc x)).1

-- codes 0 and 1 are missing; from 2 on the allele is half of it, less one
pub missing_word : (x : ℕ) → x < 2 → slot_word (call_of_number x) ≡ dot
unfolding code_call
missing_word x h = let z : x / 2 ≡ 0 = omega arith in rw (code_call_lem x (omega arith), eq-eqb (x / 2) 0 z)

pub allele_word : (x : ℕ) → 2 ≤ x → x < 2147483648 → slot_word (call_of_number x) ≡ decimal (x / 2 - 1)
unfolding code_call
allele_word x h b = let z : x / 2 ≢ 0 = λ e. omega arith in rw (code_call_lem x b, ne_eqb (x / 2) 0 z)

-- an odd code is phased
by_half : (b p : Bool) (n : ℕ) → separator (pick b (Missing p) (Allele n p)) ≡ phase_mark p
by_half true p n = refl
by_half false p n = refl

pub code_mark : (x : ℕ) → x < 2147483648 → separator (call_of_number x) ≡ phase_mark (eqb (x % 2) 1)
unfolding code_call
code_mark x h = rw (code_call_lem x h) (by_half (eqb (x / 2) 0) (eqb (x % 2) 1) (x / 2 - 1))

-- the end of vector, and no other number, ends the slots
pub end_call : call_of_number end_shown ≡ End
unfolding call_of_number shown_by kind marked
end_call = refl

code_on : (b p : Bool) (n : ℕ) (rest : List Call) → up_to_end (pick b (Missing p) (Allele n p)) rest ≡ pick b (Missing p) (Allele n p) ∷ rest
code_on true p n rest = refl
code_on false p n rest = refl

mark_on : (k : Element) (n : ℕ) (rest : List Call) → k ≢ EndMark → up_to_end (call_of k (negsuc n)) rest ≡ call_of k (negsuc n) ∷ rest
unfolding code_call
mark_on Plain n rest h = refl
mark_on MissingMark n rest h = refl
mark_on EndMark n rest h = absurd (h refl)
mark_on Reserved n rest h = refl

no_end : (x : ℕ) → x ≢ end_shown → kind 3 x ≢ EndMark
unfolding kind marked
no_end x h = by_tests (ltb x 0x80000000) (ltb 0x80000007 x) (eqb x 0x80000000) refl
  where
    other : ltb x 0x80000000 ≡ false → x - 0x80000000 ≢ 1
    other e d = let g = ltb-false x 0x80000000 e in h (omega arith)

    by_tests : (a b m : Bool) → ltb x 0x80000000 ≡ a
        → pick a Plain (pick b Plain (pick m MissingMark (pick (eqb (x - 0x80000000) 1) EndMark Reserved))) ≢ EndMark
    by_tests true b m e d = let z : ◌≡◌ {A = ℕ} 0 1 = cc in absurd (omega arith)
    by_tests false true m e d = let z : ◌≡◌ {A = ℕ} 0 1 = cc in absurd (omega arith)
    by_tests false false true e d = let z : ◌≡◌ {A = ℕ} 0 1 = cc in absurd (omega arith)
    by_tests false false false e d =
        let r : Reserved ≡ EndMark = rw (ne_eqb (x - 0x80000000) 1 (other e)) at d in
        let z : ◌≡◌ {A = ℕ} 0 1 = cc in
        absurd (omega arith)

pub on_call : (x : ℕ) → x < 2 ^ 32 → x ≢ end_shown → (rest : List Call) → up_to_end (call_of_number x) rest ≡ call_of_number x ∷ rest
unfolding code_call
on_call x b h rest = by_sign (ltb x 2147483648) refl
  where
    low : x < 2147483648 → up_to_end (code_call (pos x)) rest ≡ code_call (pos x) ∷ rest
    low g = code_on (eqb (x / 2) 0) (eqb (x % 2) 1) (x / 2 - 1) rest

    by_sign : (s : Bool) → ltb x 2147483648 ≡ s → up_to_end (call_of_number x) rest ≡ call_of_number x ∷ rest
    by_sign true e = let g = ltb-true x 2147483648 e in rw (code_call_lem x g) (low g)
    by_sign false e =
        let g = ltb-false x 2147483648 e in
        rw (called_as x b, high x g) (mark_on (kind 3 x) (2 ^ 32 - suc x) rest (no_end x h))

-- elements one by one: the first of them and those after it; none
elements_first : (t w : ℕ) (s : List ℕ) → w ≡ width_of t → 0 < w → w ≤ length s
    → elements_of t (length s) s ≡ shown t (number w s) ∷ elements_of t (length (drop w s)) (drop w s)
unfolding elements_of shown_numbers
elements_first t w s e p h =
    let n : w + length (drop w s) ≡ length s = rw length-drop (omega arith) in
    let d : length s / w ≡ suc (length (drop w s) / w) = rw n at (add-div_left (length (drop w s)) p) ∙ add-one _ in
    rw (← e, d)

elements_none : (t w : ℕ) (s : List ℕ) → w ≡ width_of t → length s < w → elements_of t (length s) s ≡ []
unfolding elements_of shown_numbers
elements_none t w s e h = rw (← e, div-eq_of_lt h)

-- what stands at the front of a list taken by chunks
pub chunk_front : (w : ℕ) (s x rest : List ℕ) → s ≡ x ++ rest → length x ≡ w → (number w s ≡ number w x) × (drop w s ≡ rest) × (w ≤ length s)
unfolding number
chunk_front w s x rest e h =
    let k : w ≤ length x = omega arith in
    (rw (e, take-append-le w x rest k), rw e (rw h at (drop-append_seam x rest)), rw (e, length-append) (omega arith))

-- later slots: up to the first end of vector
pub later_text_none : (t w : ℕ) (s : List ℕ) → w ≡ width_of t → length s < w → later_text t s ≡ []
unfolding later_text later_words slot_calls
later_text_none t w s e h = rw (elements_none t w s e h)

pub later_text_end : (t w : ℕ) (s : List ℕ) → w ≡ width_of t → 0 < w → w ≤ length s → shown t (number w s) ≡ end_shown → later_text t s ≡ []
unfolding later_text later_words slot_calls
later_text_end t w s e p h q = rw (elements_first t w s e p h, q, end_call)

pub later_text_on : (t w : ℕ) (s : List ℕ) (x : ℕ) → w ≡ width_of t → 0 < w → w ≤ length s → x ≡ shown t (number w s) → x < 2 ^ 32 → x ≢ end_shown
    → later_text t s ≡ separator (call_of_number x) ∷ (slot_word (call_of_number x) ++ later_text t (drop w s))
unfolding later_text later_words slot_calls
later_text_on t w s x e p h q b o = rw (elements_first t w s e p h, ← q, on_call x b o _)

-- the words of elements one by one, of so many from the front on: up to the first end of vector
abbrev pub later_of : ℕ → ℕ → ℕ → List ℕ → List ℕ
later_of t w n l = later_words (slot_calls (shown_numbers t w n l))

pub later_none : (t w : ℕ) (l : List ℕ) → later_of t w 0 l ≡ []
unfolding later_words slot_calls shown_numbers
later_none t w l = refl

pub later_end : (t w n : ℕ) (l : List ℕ) → 0 < n → shown t (number w l) ≡ end_shown → later_of t w n l ≡ []
unfolding later_words slot_calls shown_numbers
later_end t w zero l h e = refl
later_end t w (suc n) l h e = rw (e, end_call)

pub later_on : (t w n : ℕ) (l : List ℕ) (x : ℕ) → 0 < n → x ≡ shown t (number w l) → x < 2 ^ 32 → x ≢ end_shown
    → later_of t w n l ≡ separator (call_of_number x) ∷ (slot_word (call_of_number x) ++ later_of t w (n - 1) (drop w l))
unfolding later_words slot_calls shown_numbers
later_on t w zero l x h e b o = absurd (omega arith)
later_on t w (suc n) l x h e b o = rw (sub-one, ← e, on_call x b o (slot_calls (shown_numbers t w n (drop w l))))

-- a person's word: a dot, or the first slot and the later ones
pub person_none : (t w : ℕ) (l : List ℕ) → genotype_word (shown_numbers t w 0 l) ≡ dot
unfolding genotype_word person_word slot_calls shown_numbers
person_none t w l = refl

pub person_end : (t w n : ℕ) (l : List ℕ) → shown t (number w l) ≡ end_shown → genotype_word (shown_numbers t w n l) ≡ dot
unfolding genotype_word person_word slot_calls shown_numbers
person_end t w zero l e = refl
person_end t w (suc n) l e = rw (e, end_call)

pub person_on : (t w n : ℕ) (l : List ℕ) (x : ℕ) → 0 < n → x ≡ shown t (number w l) → x < 2 ^ 32 → x ≢ end_shown
    → genotype_word (shown_numbers t w n l) ≡ slot_word (call_of_number x) ++ later_of t w (n - 1) (drop w l)
unfolding genotype_word person_word slot_calls shown_numbers
person_on t w zero l x h e b o = absurd (omega arith)
person_on t w (suc n) l x h e b o = rw (sub-one, ← e, on_call x b o (slot_calls (shown_numbers t w n (drop w l))))

-- the same of a person's own bytes
pub person_text_none : (t w : ℕ) (s : List ℕ) → w ≡ width_of t → length s < w → person_text t s ≡ dot
unfolding person_text genotype_word person_word slot_calls
person_text_none t w s e h = rw (elements_none t w s e h)

pub person_text_end : (t w : ℕ) (s : List ℕ) → w ≡ width_of t → 0 < w → w ≤ length s → shown t (number w s) ≡ end_shown → person_text t s ≡ dot
unfolding person_text genotype_word person_word slot_calls
person_text_end t w s e p h q = rw (elements_first t w s e p h, q, end_call)

pub person_text_on : (t w : ℕ) (s : List ℕ) (x : ℕ) → w ≡ width_of t → 0 < w → w ≤ length s → x ≡ shown t (number w s) → x < 2 ^ 32 → x ≢ end_shown
    → person_text t s ≡ slot_word (call_of_number x) ++ later_text t (drop w s)
unfolding person_text later_text genotype_word person_word slot_calls
person_text_on t w s x e p h q b o = rw (elements_first t w s e p h, ← q, on_call x b o _)

-- a dot for each of some people, one by one
pub dots_on : (n : ℕ) → 0 < n → followed 0x09 (replicate n dot) ≡ 0x09 ∷ (0x2E ∷ followed 0x09 (replicate (n - 1) dot))
unfolding followed
dots_on zero h = absurd (omega arith)
dots_on (suc n) h = rw sub-one

pub no_dots : followed 0x09 (replicate 0 dot) ≡ []
unfolding followed
no_dots = refl
