-- The bytes that the columns of a line have not: what a column is made of, and that POS, REF, ALT, QUAL and a call have no tab and no line end. Rests on
-- 01's rules of what an accepted record shows, and on decimal text.
use mathlib.Core.Path.{refl}
use mathlib.Core.Logic.{◌≢◌}
use mathlib.Core.List.{List, [], ◌∷◌, ◌++◌, map}
use mathlib.Core.Bool.{Bool, true, false}
use Prim.Native.Nat.{ℕ, zero, suc, ◌<◌}
use native.Mathlib.Omega.{arith}
use lib.Dec.{eqb}
use lib.ListN.{take, drop}
use borrow.Author.Tests.{ne_eqb}
use Rattle.words.specs.Lists.{among}
use Rattle.words.specs.Pick.{pick}
use Rattle.decimal.specs.Decimal.{decimal}
use Rattle.decimal.proofs.Digits.{digits_only}
use Rattle.shown.specs.Shown.{Field}
use Rattle.elements.specs.declared.Call.{Call}
use Rattle.elements.specs.declared.Call.TheVariants.{Allele, Missing, End, NoCall}
use Rattle.build_laws.specs.Records.{All}
use Rattle.record_laws.specs.Rules.{Between, AlleleRules}
use Rattle.pieces.specs.Pieces.{followed, joined_by, dot, listed, or_dot}
use Rattle.pieces.proofs.Joined.{Free, among_append}
use Rattle.vcf_qual.specs.Qual.{missing_qual, whole_text, whole_of, qual_text}
use Rattle.std.specs.Prelude.{Option, Some, None}
use Rattle.vcf_calls.specs.Words.{slot_word, phase_mark, separator, later_words, person_word, slot_calls, genotype_word, vectors_of, call_words}
use Rattle.vcf_site.specs.Columns.{pos_text}
use Rattle.vcf_line.specs.Line.{ref_text, alt_text, filter_text, call_columns}
use Rattle.vcf_laws.specs.Lines.{Without}

-- a text before another, and a byte before a text
without_append : (c : ℕ) (x y : List ℕ) → Without c x → Without c y → Without c (x ++ y)
without_append c x y h k = rw (among_append c x y, h) k

without_cons : (c b : ℕ) (x : List ℕ) → b ≢ c → Without c x → Without c (b ∷ x)
unfolding among
without_cons c b x h k = rw (ne_eqb b c h) k

without_nil : (c : ℕ) → Without c []
unfolding among
without_nil c = refl

-- a dot
pub without_dot : (c : ℕ) → c ≢ 0x2E → Without c dot
without_dot c h = without_cons c 0x2E [] (λ e. h (omega arith)) (without_nil c)

pub without_or_dot : (c : ℕ) (x : List ℕ) → c ≢ 0x2E → Without c x → Without c (or_dot x)
unfolding or_dot
without_or_dot c [] h k = without_dot c h
without_or_dot c (b ∷ x) h k = k

-- pieces joined by another byte
without_followed : (c d : ℕ) (xs : List (List ℕ)) → d ≢ c → Free c xs → Without c (followed d xs)
unfolding followed
without_followed c d [] h k = without_nil c
without_followed c d (x ∷ xs) h k =
    without_cons c d (x ++ followed d xs) h (without_append c x (followed d xs) k.0 (without_followed c d xs h k.1))

without_joined : (c d : ℕ) (xs : List (List ℕ)) → d ≢ c → Free c xs → Without c (joined_by d xs)
unfolding joined_by
without_joined c d [] h k = without_nil c
without_joined c d (x ∷ xs) h k = without_append c x (followed d xs) k.0 (without_followed c d xs h k.1)

without_listed : (c d : ℕ) (xs : List (List ℕ)) → d ≢ c → c ≢ 0x2E → Free c xs → Without c (listed d xs)
unfolding listed
without_listed c d [] h o k = without_dot c o
without_listed c d (x ∷ xs) h o k = without_joined c d (x ∷ xs) h k

-- each of a list mapped
free_map : {A : Type 0} (c : ℕ) (f : A → List ℕ) (xs : List A) → All (λ x. Without c (f x)) xs → Free c (map f xs)
free_map c f [] h = tt
free_map c f (x ∷ xs) h = (h.0, free_map c f xs h.1)

-- alleles, whose bytes are 21 to 7E
without_allele : (c : ℕ) (x : List ℕ) → c < 0x21 → All (Between 0x21 0x7E) x → Without c x
without_allele c [] h a = without_nil c
without_allele c (b ∷ x) h a =
    let l = a.0.0 in
    without_cons c b x (λ e. omega arith) (without_allele c x h a.1)

free_alleles : (c : ℕ) (xs : List (List ℕ)) → c < 0x21 → All AlleleRules xs → Free c xs
free_alleles c [] h a = tt
free_alleles c (x ∷ xs) h a = (without_allele c x h a.0.bytes, free_alleles c xs h a.1)

-- so REF and ALT
pub without_ref : (c : ℕ) (xs : List (List ℕ)) → c < 0x21 → All AlleleRules xs → Without c (ref_text xs)
unfolding ref_text
without_ref c [] h a = without_nil c
without_ref c (x ∷ xs) h a = without_allele c x h a.0.bytes

pub without_alt : (c : ℕ) (xs : List (List ℕ)) → c < 0x21 → All AlleleRules xs → Without c (alt_text xs)
unfolding alt_text
without_alt c [] h a = without_listed c 0x2C [] (λ e. omega arith) (λ e. omega arith) tt
without_alt c (x ∷ xs) h a = without_listed c 0x2C xs (λ e. omega arith) (λ e. omega arith) (free_alleles c xs h a.1)

-- FILTER, where its names have it not
pub without_filters : (c : ℕ) (string : ℕ → List ℕ) (xs : List ℕ) → c < 0x21 → All (λ i. Without c (string i)) xs → Without c (filter_text string xs)
unfolding filter_text
without_filters c string xs h a = without_listed c 0x3B (map string xs) (λ e. omega arith) (λ e. omega arith) (free_map c string xs a)

-- POS and QUAL: digits, or a dot
without_decimal : (c n : ℕ) → c < 0x21 → Without c (decimal n)
without_decimal c n h = digits_only c n (λ a b. omega arith)

pub without_pos : (c p : ℕ) → c < 0x21 → Without c (pos_text p)
unfolding pos_text
without_pos c p h = without_decimal c _ h

pub without_qual : (c q : ℕ) → c < 0x21 → Without c (qual_text q)
unfolding qual_text
without_qual c q h = by-test (eqb q missing_qual) (whole_of q)
  where
    by-test : (b : Bool) (w : Option ℕ) → Without c (pick b dot (whole_text w))
    by-test true w = without_dot c (λ e. omega arith)
    by-test false (Some n) = without_decimal c n h
    by-test false None = without_nil c

-- a call's slots: digits and dots, `/` and `|`
without_slot : (c : ℕ) (x : Call) → c < 0x21 → Without c (slot_word x)
without_slot c (Allele n p) h = without_decimal c n h
without_slot c (Missing p) h = without_dot c (λ e. omega arith)
without_slot c End h = without_dot c (λ e. omega arith)
without_slot c NoCall h = without_dot c (λ e. omega arith)

mark : (c : ℕ) (p : Bool) → c < 0x21 → phase_mark p ≢ c
mark c true h e = omega arith
mark c false h e = omega arith

no_separator : (c : ℕ) (x : Call) → c < 0x21 → separator x ≢ c
no_separator c (Allele n p) h e = mark c p h e
no_separator c (Missing p) h e = mark c p h e
no_separator c End h e = omega arith
no_separator c NoCall h e = omega arith

without_later : (c : ℕ) (xs : List Call) → c < 0x21 → Without c (later_words xs)
unfolding later_words
without_later c [] h = without_nil c
without_later c (x ∷ xs) h =
    without_cons c (separator x) (slot_word x ++ later_words xs) (no_separator c x h)
    (without_append c (slot_word x) (later_words xs) (without_slot c x h) (without_later c xs h))

without_person : (c : ℕ) (xs : List Call) → c < 0x21 → Without c (person_word xs)
unfolding person_word
without_person c [] h = without_dot c (λ e. omega arith)
without_person c (x ∷ xs) h = without_append c (slot_word x) (later_words xs) (without_slot c x h) (without_later c xs h)

without_genotype : (c : ℕ) (xs : List ℕ) → c < 0x21 → Without c (genotype_word xs)
unfolding genotype_word
without_genotype c xs h = without_person c (slot_calls xs) h

-- the words of all people, and with them the columns of calls
free_words : (c n len : ℕ) (xs : List ℕ) → c < 0x21 → Free c (call_words n len xs)
unfolding call_words vectors_of
free_words c zero len xs h = tt
free_words c (suc n) len xs h = (without_genotype c (take len xs) h, free_words c n len (drop len xs) h)

pub free_calls : (c gt people : ℕ) (xs : List Field) → c < 0x21 → Free c (call_columns gt people xs)
unfolding call_columns
free_calls c gt people [] h = tt
free_calls c gt people (x ∷ xs) h = by-test (eqb x.key gt) (free_calls c gt people xs h)
  where
    format : Without c (0x47 ∷ 0x54 ∷ [])
    format = without_cons c 0x47 (0x54 ∷ []) (λ e. omega arith) (without_cons c 0x54 [] (λ e. omega arith) (without_nil c))

    by-test : (b : Bool) → Free c (call_columns gt people xs)
        → Free c (pick b ((0x47 ∷ 0x54 ∷ []) ∷ call_words people x.len x.value.elements) (call_columns gt people xs))
    by-test true on = (format, free_words c people x.len x.value.elements h)
    by-test false on = on
