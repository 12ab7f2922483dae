-- Every byte of what becomes of a record is the one that stood there, or 01 for 00. Rests on specs/Ones and proofs/Records.
use mathlib.Core.Path.{◌≡◌, refl}
use mathlib.Core.List.{List, [], ◌∷◌, ◌++◌}
use mathlib.Core.Bool.{Bool, true, false}
use Prim.Native.Nat.{ℕ, zero, suc, ◌-◌}
use native.Mathlib.Omega.{arith}
use lib.Dec.{eqb}
use lib.ListN.{length, get_or, take, drop, take-append-drop, replicate}
use borrow.Author.Tests.{eq-eqb}
use Rattle.words.specs.Pick.{pick}
use Rattle.types.specs.declared.Use.{Use}
use Rattle.types.specs.declared.Use.TheVariants.{Id, Allele, Filter, Info, Format}
use Rattle.values.specs.Values.{integer, present}
use Rattle.fixed.specs.Layout.{id_at}
use Rattle.facts.specs.declared.Facts.{Facts}
use Rattle.fixed.specs.declared.Site.{Site}
use Rattle.fixed.proofs.Fits.{Fits}
use Rattle.fetch.specs.Account.{site_kinds}
use Rattle.fetch.specs.declared.Kind.{Kind}
use Rattle.fetch.specs.declared.Kind.TheVariants.{Id as IdKind, Allele as AlleleKind, Filter as FilterKind, Info as InfoKind, Format as FormatKind}
use Rattle.bare_laws.specs.Ones.{Onward, one_for, same_or_one, past_value, value_one, past_key, pair_one, one_of, ones_of, with_ones}
use Rattle.values.specs.declared.Value.{Value}
use Rattle.std.specs.Prelude.{Err, Ok}
use Rattle.values.specs.declared.Integer.{Integer}
use Rattle.values.specs.Answers.{Answer}
use Rattle.bare_laws.proofs.Records.{even_ones, part_rest}

-- each byte of the second list is the first's, or 01 for 00
abbrev Kept : List ℕ → List ℕ → Type 0
Kept l m = (i : ℕ) → same_or_one (get_or l i 0) (get_or m i 0) ≡ true

same_byte : (x : ℕ) → same_or_one x x ≡ true
same_byte x = by-test (eqb x 0) refl
  where
    by-test : (b : Bool) → eqb x 0 ≡ b → pick b (pick (eqb x 0) true (eqb x 1)) (eqb x x) ≡ true
    by-test true e = rw e
    by-test false e = eq-eqb x x refl

one_byte : (x : ℕ) → same_or_one x (pick (eqb x 0) 0x01 x) ≡ true
one_byte x = by-test (eqb x 0) refl
  where
    by-test : (b : Bool) → eqb x 0 ≡ b → pick b (pick (eqb (pick b 0x01 x) 0) true (eqb (pick b 0x01 x) 1)) (eqb (pick b 0x01 x) x) ≡ true
    by-test true e = refl
    by-test false e = eq-eqb x x refl

kept_same : (l : List ℕ) → Kept l l
kept_same l i = same_byte (get_or l i 0)

-- the front as it is, or with 01 for 00, and then what becomes of the rest
kept_front : (k : ℕ) (l m : List ℕ) → Kept (drop k l) m → Kept l (take k l ++ m)
kept_front zero l m h i = h i
kept_front (suc k) [] m h i = h i
kept_front (suc k) (x ∷ l) m h zero = same_byte x
kept_front (suc k) (x ∷ l) m h (suc i) = kept_front k l m h i

kept_one : (k : ℕ) (l m : List ℕ) → Kept (drop k l) m → Kept l (one_for (take k l) ++ m)
kept_one zero l m h i = h i
kept_one (suc k) [] m h i = h i
kept_one (suc k) (x ∷ l) m h zero = one_byte x
kept_one (suc k) (x ∷ l) m h (suc i) = kept_front k l m h i

-- what becomes of a block
abbrev Keeps : Onward → Type 0
Keeps rest = (at : ℕ) (l : List ℕ) → Kept l (rest at l)

keeps_value : (vectors : ℕ) (role : Use) (rest : Onward) → Keeps rest → Keeps (value_one vectors role rest)
unfolding value_one
keeps_value vectors role rest h at l = by_value (present vectors role at l)
  where
    by_value : (v : Answer Value) → Kept l (past_value rest at l v)
    by_value (Err r) = kept_same l
    by_value (Ok v) = kept_one (v.stop - at) l _ (h v.stop (drop (v.stop - at) l))

keeps_pair : (vectors : ℕ) (role : Use) (rest : Onward) → Keeps rest → Keeps (pair_one vectors role rest)
unfolding pair_one
keeps_pair vectors role rest h at l = by_key (integer at l)
  where
    by_key : (i : Answer Integer) → Kept l (past_key (value_one vectors role rest) at l i)
    by_key (Err r) = kept_same l
    by_key (Ok i) = kept_front (i.next - at) l _ (keeps_value vectors role rest h i.next (drop (i.next - at) l))

keeps_one : (kind : Kind) (people : ℕ) (rest : Onward) → Keeps rest → Keeps (one_of kind people rest)
keeps_one IdKind people = keeps_value 1 Id
keeps_one AlleleKind people = keeps_value 1 Allele
keeps_one FilterKind people = keeps_value 1 Filter
keeps_one InfoKind people = keeps_pair 1 Info
keeps_one FormatKind people = keeps_pair people Format

keeps_ones : (people : ℕ) (kinds : List Kind) → Keeps (ones_of people kinds)
unfolding ones_of
keeps_ones people [] = λ at l. kept_same l
keeps_ones people (kind ∷ kinds) = keeps_one kind people (ones_of people kinds) (keeps_ones people kinds)

-- the parts one after the other
kept_both : (a b c d : List ℕ) → length b ≡ length a → Kept a b → Kept c d → Kept (a ++ c) (b ++ d)
kept_both [] [] c d e h k i = k i
kept_both [] (y ∷ b) c d e h k i = absurd (omega arith)
kept_both (x ∷ a) [] c d e h k i = absurd (omega arith)
kept_both (x ∷ a) (y ∷ b) c d e h k zero = h 0
kept_both (x ∷ a) (y ∷ b) c d e h k (suc i) = kept_both a b c d (omega arith) (λ j. h (suc j)) k i

kept_of : (a b m : List ℕ) → a ≡ b → Kept a m → Kept b m
kept_of a b m e h = rw e at h

-- the law
pub with_ones_kept : (f : Facts) (s : List ℕ) (t : Site) → Fits f s t → (i : ℕ) → same_or_one (get_or s i 0) (get_or (with_ones t s) i 0) ≡ true
unfolding with_ones
with_ones_kept f s t x =
    let a = x.site in
    let b = x.border in
    let c = x.whole in
    let block = drop id_at (take t.border s) in
    let fields = drop t.border (take t.length s) in
    let whole : take id_at s ++ (block ++ (fields ++ drop t.length s)) ≡ s =
    rw (part_rest s t.border t.length (omega arith), part_rest s id_at t.border a) (take-append-drop id_at s) in
    let site = ones_of t.people (site_kinds t.alleles t.infos) id_at block in
    let genotypes = ones_of t.people (replicate t.formats FormatKind) t.border fields in
    let after = drop t.length s in
    kept_of (take id_at s ++ (block ++ (fields ++ after))) s (take id_at s ++ (site ++ (genotypes ++ after))) whole
    (kept_both (take id_at s) (take id_at s) (block ++ (fields ++ after)) (site ++ (genotypes ++ after)) refl (kept_same (take id_at s))
    (kept_both block site (fields ++ after) (genotypes ++ after) (even_ones t.people (site_kinds t.alleles t.infos) id_at block) (keeps_ones t.people (site_kinds t.alleles t.infos) id_at block)
    (kept_both fields genotypes after after (even_ones t.people (replicate t.formats FormatKind) t.border fields)
    (keeps_ones t.people (replicate t.formats FormatKind) t.border fields) (kept_same after))))
