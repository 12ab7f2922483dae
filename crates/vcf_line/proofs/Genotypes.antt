-- FORMAT and the calls: those that are made of GT's bytes are those of what the FORMAT fields show. Rests on specs/Line and specs/Engine, and on what a
-- field of the account holds.
use mathlib.Core.Path.{◌≡◌, refl, ap}
use mathlib.Core.List.{List, [], ◌∷◌, map}
use mathlib.Core.Bool.{Bool, true, false}
use Prim.Native.Nat.{ℕ, zero, suc, ◌+◌, ◌-◌, ◌*◌, ◌/◌, ◌<◌, ◌≤◌}
use native.Mathlib.Nat.{mul-zero, zero-mul, mul-div_cancel}
use native.Mathlib.Omega.{arith}
use lib.Dec.{eqb}
use lib.ListN.{length, take, drop, replicate, length-take, length-drop}
use lib.Seq.{take-take, length-take-le}
use borrow.Author.Tests.{eqb-true, eqb-false, ne_eqb}
use Rattle.words.specs.Pick.{pick}
use Rattle.words.proofs.Places.{drop_on}
use Rattle.types.specs.Rows.{width_of}
use Rattle.types.specs.declared.Use.TheVariants.{Format as FormatUse}
use Rattle.vectors.specs.Vectors.{elements_of}
use Rattle.genotypes.specs.Formats.{gt_at}
use Rattle.fetch.specs.Fields.{paired, FoundInside, found_field}
use Rattle.fetch.specs.Account.{Entry, entered, fields_of}
use Rattle.fetch.specs.declared.Kind.TheVariants.{Format}
use Rattle.fetch.proofs.Inside.{paired_inside}
use Rattle.fetch_laws.specs.InTurn.{gt_in}
use Rattle.fetch_laws.proofs.Present.{paired_keyed, paired_stop}
use Rattle.contents.specs.Contents.{elements_at, field_shown}
use Rattle.contents.proofs.Counts.{present_count}
use Rattle.contents.proofs.Elements.{elements_of_take, elements_of_none}
use Rattle.pieces.specs.Pieces.{followed, dot}
use Rattle.vcf_calls.specs.Words.{person_word, slot_calls, genotype_word, vectors_of, call_words, part_words}
use Rattle.vcf_line.specs.Line.{call_columns}
use Rattle.std.specs.Prelude.{Err, Ok}
use Rattle.fetch.specs.declared.Found.{Found}
use Rattle.values.specs.Answers.{Answer}
use Rattle.vcf_line.specs.Engine.{genotypes_text}

-- of no elements each call is a dot
no_words : (people : ℕ) → call_words people 0 [] ≡ replicate people dot
unfolding call_words vectors_of genotype_word person_word slot_calls
no_words zero = refl
no_words (suc people) = ap (λ (xs : List (List ℕ)). dot ∷ xs) (no_words people)

-- a part that holds so many people has their words
people_words : (people code len size : ℕ) (l : List ℕ) → 0 < len → size / width_of code ≡ people * len → size ≤ length l
    → part_words code len (take size l) ≡ call_words people len (elements_of code size l)
unfolding part_words
people_words people code len size l h e k =
    rw (length-take-le size l k, e, mul-div_cancel people h, elements_of_take code size (take size l) l (take-take size size l (omega arith)))

-- the calls of a FORMAT field, by its bytes and by its elements: of length 0 a dot each
abbrev SameWords : ℕ → List ℕ → ℕ → ℕ → ℕ → ℕ → Bool → Type 0
SameWords people s code len place stop b =
    pick b (followed 0x09 (replicate people dot)) (followed 0x09 (part_words code len (take (people * len * width_of code) (drop place s))))
    ≡ followed 0x09 (call_words people len (elements_of code (stop - place) (drop place s)))

field_words : (people at : ℕ) (l s : List ℕ) (key code len place stop : ℕ) → paired people FormatUse at l ≡ found_field key code len place stop
    → stop ≤ length s → SameWords people s code len place stop (eqb len 0)
field_words people at l s key code len place stop h k =
    let x = paired_keyed people FormatUse at l key code len place stop h in
    let ends = paired_stop people FormatUse at l h in
    let size : stop - place ≡ people * len * width_of code = omega arith in
    by_length (eqb len 0) refl size (present_count people FormatUse x.next (drop (x.next - at) l) code len place stop x.value)
  where
    by_length : (b : Bool) → eqb len 0 ≡ b → stop - place ≡ people * len * width_of code → (stop - place) / width_of code ≡ people * len
        → SameWords people s code len place stop b
    by_length true e size count =
        rw (size, eqb-true len 0 e, mul-zero people, zero-mul (width_of code), elements_of_none code (drop place s), no_words people)
    by_length false e size count =
        let o = eqb-false len 0 e in
        let r : stop - place ≤ length (drop place s) = rw (length-drop place s) (omega arith) in
        rw (← size) (ap (followed 0x09) (people_words people code len (stop - place) (drop place s) (omega arith) count r))

-- FORMAT and the calls of these fields, by their bytes and by what is shown of them
abbrev pub SameCalls : ℕ → ℕ → List ℕ → List Entry → Type 0
SameCalls gt people s es = genotypes_text people (gt_in gt es) s ≡ followed 0x09 (call_columns gt people (map (field_shown s) es))

-- the law: of so many FORMAT fields from a place of their block on
pub calls_shown : (gt people n at end : ℕ) (s : List ℕ) → SameCalls gt people s (fields_of people (replicate n Format) at (drop at (take end s)))
unfolding genotypes_text gt_in fields_of call_columns followed elements_at
calls_shown gt people zero at end s = refl
calls_shown gt people (suc n) at end s =
    by_field (λ q. calls_shown gt people n q end s) (paired people FormatUse at l) refl (paired_inside people FormatUse at l)
  where
    l : List ℕ
    l = drop at (take end s)

    rest : ℕ → List ℕ → List Entry
    rest = fields_of people (replicate n Format)

    by_key : (code len place stop : ℕ) (es : List Entry) (b : Bool) → SameCalls gt people s es → 0 < place
        → SameWords people s code len place stop (eqb len 0)
        → genotypes_text people (pick b (gt_at code len place) (gt_in gt es)) s
        ≡ followed 0x09
        (pick b ((0x47 ∷ 0x54 ∷ []) ∷ call_words people len (elements_of code (stop - place) (drop place s)))
        (call_columns gt people (map (field_shown s) es)))
    by_key code len place stop es true on h same = rw (ne_eqb place 0 (λ z. omega arith), same)
    by_key code len place stop es false on h same = on

    by_field : ((q : ℕ) → SameCalls gt people s (rest q (drop q (take end s)))) → (r : Answer Found) → paired people FormatUse at l ≡ r
        → FoundInside at (at + length l) r → SameCalls gt people s (entered Format at l rest r)
    by_field on (Err r) e i = refl
    by_field on (Ok x) e i =
        let j = rw (length-drop at (take end s), length-take end s) at i.2 in
        let later : SameCalls gt people s (rest x.stop (drop (x.stop - at) l)) = rw (drop_on (take end s) at x.stop (omega arith)) (on x.stop) in
        by_key x.code x.len x.place x.stop (rest x.stop (drop (x.stop - at) l)) (eqb x.key gt) later (omega arith)
        (field_words people at l s x.key x.code x.len x.place x.stop e (omega arith))
