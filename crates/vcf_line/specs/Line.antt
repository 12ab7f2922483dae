-- A record as a VCF data line: its columns, of what the record shows; and what is answered and written. Names are given as functions of an offset. Rests
-- on what a record shows, and on the words of QUAL, of calls and of names.
use Rattle.std.specs.Prelude.{ℕ, List, [], ◌∷◌, ◌++◌, map, Bool, eqb, ltb, length, get_or, drop, Err, Ok}
use Rattle.words.specs.Pick.{pick}
use Rattle.stores.specs.Stores.{filled}
use Rattle.values.specs.Answers.{refusal, Says, refuses, holds, Answer}
use Rattle.values.specs.declared.Refusal.{Refusal}
use Rattle.facts.specs.declared.Facts.{Facts}
use Rattle.shown.specs.Shown.{Field, Shown}
use Rattle.record.specs.Reading.{reading}
use Rattle.contents.specs.Contents.{shown_of}
use Rattle.pieces.specs.Pieces.{joined_by, dot, listed, or_dot}
use Rattle.names.specs.Names.{before_zero, name_of}
use Rattle.vcf_qual.specs.Qual.{printable, qual_text}
use Rattle.vcf_calls.specs.Words.{call_words}
use Rattle.record.specs.declared.Reading.{Reading}
use Rattle.vcf_site.specs.Columns.{pos_text}

-- REF is the first allele, ALT the others joined by commas, or a dot where there are none
unfoldable pub ref_text : List (List ℕ) → List ℕ
ref_text alleles = get_or alleles 0 []

unfoldable pub alt_text : List (List ℕ) → List ℕ
alt_text alleles = listed 0x2C (drop 1 alleles)

-- FILTER: the names of its offsets, joined by semicolons, or a dot where there are none
unfoldable pub filter_text : (ℕ → List ℕ) → List ℕ → List ℕ
filter_text string filters = listed 0x3B (map string filters)

-- where there is GT: a FORMAT of GT alone, and each person's call
unfoldable pub call_columns : ℕ → ℕ → List Field → List (List ℕ)
call_columns gt people [] = []
call_columns gt people (x ∷ xs) =
    let others = call_columns gt people xs in
    pick (eqb x.key gt) ((0x47 ∷ 0x54 ∷ []) ∷ call_words people x.len x.value.elements) others

-- CHROM, POS, ID, REF, ALT, QUAL, FILTER, and INFO as a dot; then the calls
unfoldable pub site_columns : (ℕ → List ℕ) → (ℕ → List ℕ) → Shown → List (List ℕ)
site_columns string contig r =
    contig r.chrom
    ∷ pos_text r.pos
    ∷ or_dot (before_zero r.id)
    ∷ ref_text r.alleles
    ∷ alt_text r.alleles
    ∷ qual_text r.qual
    ∷ filter_text string r.filters
    ∷ dot
    ∷ []

unfoldable pub vcf_line : ℕ → ℕ → (ℕ → List ℕ) → (ℕ → List ℕ) → Shown → List ℕ
vcf_line gt people string contig r = joined_by 0x09 (site_columns string contig r ++ call_columns gt people r.formats) ++ (0x0A ∷ [])

-- a list of names as it is lent: one text, and the ends of the names in it
pub record Names : Type 0 where
  pub text : List ℕ
  pub ends : List ℕ

abbrev pub names_in : List ℕ → List ℕ → Names
names_in text ends = record { text = text; ends = ends }

-- whether a list of names is shorter than its dictionary
abbrev pub is_short : ℕ → Names → Bool
is_short size names = ltb (length names.ends) size

-- what a record is printed as: a line, or its refusal
pub data Printed : Type 0 where
  line : List ℕ → Printed
  unprinted : Refusal → Printed

-- reading's refusals; then 17 for a QUAL that cannot be printed, and 18 for a list of names that is shorter than its dictionary
abbrev pub printed_as : Facts → Names → Names → List ℕ → Answer Reading → Printed
printed_as f strings contigs s (Err r) = unprinted r
printed_as f strings contigs s (Ok a) =
    pick (printable a.site.qual)
    (pick (is_short f.strings strings) (unprinted (refusal 18 0))
    (pick (is_short f.contigs contigs) (unprinted (refusal 18 0))
    (line (vcf_line f.gt f.people (name_of strings.text strings.ends) (name_of contigs.text contigs.ends) (shown_of a.site s)))))
    (unprinted (refusal 17 0))

unfoldable pub printed : Facts → Names → Names → List ℕ → Printed
printed f strings contigs s = printed_as f strings contigs s (reading f s)

-- 01's number and values for each case: the refusal, or the line's length
abbrev pub line_says : Answer ℕ → Says
line_says (Err r) = refuses r
line_says (Ok n) = holds (n ∷ [])

-- the answer, where so many bytes are lent: the line's length, or the refusal; 13 where it has no room
abbrev pub answer_for : ℕ → Printed → Answer ℕ
answer_for room (unprinted r) = Err r
answer_for room (line l) = pick (ltb room (length l)) (Err (refusal 13 0)) (Ok (length l))

unfoldable pub line_answer : Facts → Names → Names → ℕ → List ℕ → Answer ℕ
line_answer f strings contigs room s = answer_for room (printed f strings contigs s)

-- the buffer: the line from its start on, its other bytes as they were; on a refusal every byte as it was
abbrev pub buffer_for : List ℕ → Printed → List ℕ
buffer_for buf (unprinted r) = buf
buffer_for buf (line l) = filled buf 0 l

unfoldable pub after_line : Facts → Names → Names → List ℕ → List ℕ → List ℕ
after_line f strings contigs buf s = buffer_for buf (printed f strings contigs s)
