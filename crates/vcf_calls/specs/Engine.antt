-- An engine's own words, which no public promise cites: the columns of people, one after the other, each made of its own bytes; and a column
-- that is four bytes. Rests on specs/Words.
use Rattle.std.specs.Prelude.{ℕ, zero, suc, List, [], ◌∷◌, ◌++◌, drop, length, take}
use Rattle.vectors.specs.Vectors.{elements_of}
use Rattle.vcf_calls.specs.Words.{slot_word, separator, later_words, call_of_number, slot_calls, genotype_word}

-- the elements of type t that bytes are, as later slots; as a person's slots; and these after a tab
unfoldable pub later_text : ℕ → List ℕ → List ℕ
later_text t l = later_words (slot_calls (elements_of t (length l) l))

unfoldable pub person_text : ℕ → List ℕ → List ℕ
person_text t l = genotype_word (elements_of t (length l) l)

unfoldable pub column_of : ℕ → List ℕ → List ℕ
column_of t l = 0x09 ∷ person_text t l

-- the columns of n people of so many bytes each
unfoldable pub columns_of : ℕ → ℕ → ℕ → List ℕ → List ℕ
columns_of t size zero l = []
columns_of t size (suc n) l = column_of t (take size l) ++ columns_of t size n (drop size l)

-- a tab, and the word of one slot of this code; of two slots of these codes
unfoldable pub single_text : ℕ → List ℕ
single_text a = 0x09 ∷ slot_word (call_of_number a)

unfoldable pub pair_text : ℕ → ℕ → List ℕ
pair_text a b = 0x09 ∷ (slot_word (call_of_number a) ++ (separator (call_of_number b) ∷ slot_word (call_of_number b)))
