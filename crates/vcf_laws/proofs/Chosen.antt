-- The line of a chosen record: the site's columns as they were, and of the columns of calls those of the chosen people. Rests on choose_laws, and on 01's
-- rules of FORMAT fields.
use mathlib.Core.Path.{◌≡◌, refl}
use mathlib.Core.List.{List, [], ◌∷◌, ◌++◌, map}
use mathlib.Core.Bool.{Bool, true, false}
use Prim.Native.Nat.{ℕ, zero, suc, ◌+◌, ◌*◌, ◌<◌, ◌≤◌}
use native.Mathlib.Nat.{suc-mul, zero-mul}
use native.Mathlib.Omega.{arith}
use lib.Dec.{eqb}
use lib.ListN.{length, get_or, take, drop, length-drop}
use lib.Seq.{drop-drop, take_at, drop_at, length-take-le}
use Rattle.words.specs.Pick.{pick}
use Rattle.words.specs.Words.{Bytes}
use Rattle.facts.specs.declared.Facts.{Facts}
use Rattle.fixed.specs.declared.Site.{Site}
use Rattle.genotypes.specs.declared.Gt.{Gt}
use Rattle.shown.specs.Shown.{Shown, Field}
use Rattle.record.specs.Reading.{reading, accepted_as}
use Rattle.fetch_laws.proofs.There.{accepted_people}
use Rattle.contents.specs.Contents.{shown_of}
use Rattle.choice.specs.Choice.{ascending_from, ascending, chosen_parts}
use Rattle.choice.proofs.Choice.{ascends, part_inside}
use Rattle.choose_laws.specs.Releases.{released_field, released_fields, released}
use Rattle.choose_laws.proofs.Accepted.{release}
use Rattle.choose_laws.proofs.Shows.{shown_of_chosen_record}
use Rattle.build_laws.specs.Records.{All}
use Rattle.record_laws.specs.Rules.{FormatRules}
use Rattle.record_laws.proofs.Rules.{accepted_rules}
use Rattle.vcf_calls.specs.Words.{genotype_word, vectors_of, call_words}
use Rattle.vcf_line.specs.Line.{call_columns, site_columns, vcf_line, Names, line, printed}
use Rattle.vcf_laws.specs.Columns.{chosen_columns, line_from, ChosenLine}
use Rattle.vcf_laws.specs.Lines.{names_of}
use Rattle.vcf_laws.proofs.Lines.{line_of}

-- the word of a person among everybody's
word_at : (people len c : ℕ) (xs : List ℕ) → c < people → get_or (call_words people len xs) c [] ≡ genotype_word (take len (drop (c * len) xs))
unfolding call_words vectors_of
word_at zero len c xs h = absurd (omega arith)
word_at (suc n) len zero xs h = rw (zero-mul len)
word_at (suc n) len (suc c) xs h =
    let e : len + c * len ≡ suc c * len = omega (arith, suc-mul c len) in
    rw (word_at n len c (drop len xs) (omega arith), drop-drop (c * len) len xs, e)

-- the words of the chosen people's parts are theirs among everybody's
words_chosen : (least people len : ℕ) (cs xs : List ℕ) → ascending_from least people cs ≡ true → people * len ≤ length xs
    → call_words (length cs) len (chosen_parts len cs xs) ≡ map (λ c. get_or (call_words people len xs) c []) cs
unfolding call_words vectors_of chosen_parts
words_chosen least people len [] xs h r = refl
words_chosen least people len (c ∷ cs) xs h r =
    let a = ascends least people c cs h in
    let p = part_inside c people len (length xs) a.below r in
    let part = take len (drop (c * len) xs) in
    let n : length part ≡ len = length-take-le len (drop (c * len) xs) (rw length-drop (omega arith)) in
    rw (
      take_at part (chosen_parts len cs xs) len n,
      drop_at part (chosen_parts len cs xs) len n,
      words_chosen (suc c) people len cs xs a.rest r,
      word_at people len c xs a.below,
    )

-- the columns of what is released are chosen from everybody's
columns_some : (f : Facts) (alleles c : ℕ) (cs : List ℕ) (xs : List Field) → ascending f.people (c ∷ cs) ≡ true → All (FormatRules f alleles) xs
    → call_columns f.gt (length (c ∷ cs)) (map (released_field (c ∷ cs)) xs) ≡ chosen_columns (c ∷ cs) (call_columns f.gt f.people xs)
unfolding call_columns chosen_columns
columns_some f alleles c cs [] h a = refl
columns_some f alleles c cs (x ∷ xs) h a =
    by-test (eqb x.key f.gt) (words_chosen 0 f.people x.len (c ∷ cs) x.value.elements h (let e = a.0.count in omega arith))
    (columns_some f alleles c cs xs h a.1)
  where
    few : List (List ℕ)
    few = call_words (length (c ∷ cs)) x.len (chosen_parts x.len (c ∷ cs) x.value.elements)

    words : List (List ℕ)
    words = call_words f.people x.len x.value.elements

    others : List (List ℕ)
    others = call_columns f.gt f.people xs

    kept : List (List ℕ)
    kept = call_columns f.gt (length (c ∷ cs)) (map (released_field (c ∷ cs)) xs)

    by-test : (b : Bool) → few ≡ map (λ i. get_or words i []) (c ∷ cs) → kept ≡ chosen_columns (c ∷ cs) others
        → pick b ((0x47 ∷ 0x54 ∷ []) ∷ few) kept ≡ chosen_columns (c ∷ cs) (pick b ((0x47 ∷ 0x54 ∷ []) ∷ words) others)
    by-test true e on = rw e
    by-test false e on = on

columns_chosen : (f : Facts) (alleles : ℕ) (cs : List ℕ) (xs : List Field) → ascending f.people cs ≡ true → All (FormatRules f alleles) xs
    → call_columns f.gt (length cs) (released_fields cs xs) ≡ chosen_columns cs (call_columns f.gt f.people xs)
unfolding call_columns chosen_columns
columns_chosen f alleles [] xs h a = refl
columns_chosen f alleles (c ∷ cs) xs h a = columns_some f alleles c cs xs h a

-- the line of what is released, by its columns
released_line : (gt people n : ℕ) (string contig : ℕ → List ℕ) (cs : List ℕ) (r : Shown)
    → call_columns gt n (released_fields cs r.formats) ≡ chosen_columns cs (call_columns gt people r.formats)
    → vcf_line gt n string contig (released cs r) ≡ line_from (site_columns string contig r ++ chosen_columns cs (call_columns gt people r.formats))
unfolding vcf_line site_columns
released_line gt people n string contig cs r e = rw e

-- the law
pub chosen_line : (f : Facts) (strings contigs : Names) (s : List ℕ) (t : Site) (g : Gt) (cs l : List ℕ) → Bytes s → reading f s ≡ accepted_as t g
    → ascending t.people cs ≡ true → printed f strings contigs s ≡ line l → ChosenLine f strings contigs s t cs l
unfolding printed vcf_line
chosen_line f strings contigs s t g cs l b h a p =
    let x = line_of f strings contigs s t g l h p in
    let r = shown_of t s in
    let k : ascending f.people cs ≡ true = rw (← accepted_people f s t g h) a in
    let calls = columns_chosen f (length r.alleles) cs r.formats k (accepted_rules f s t g b h).formats in
    let e = released_line f.gt f.people (length cs) (names_of strings) (names_of contigs) cs r calls in
    record {
      whole = x.text;
      chosen = rw ((release f s t g cs b h a).read, x.qual, x.string_names, x.contig_names, shown_of_chosen_record f s t g cs h a, e);
    }
