-- Req 04: VCF lines out. What a record's line is and what is answered; that alike lines are of records with the same contig, POS, ID text and alleles; QUAL's
-- digits; the tabs and the line feed; and the line of a chosen record. Rests on vcf_line for the line, on vcf_laws for what is asked of texts and names, and
-- on vcf_qual for QUAL.
use Rattle.std.specs.Prelude.{ℕ, ◌+◌, ◌-◌, ◌%◌, ◌<◌, ◌≤◌, ◌≡◌, ◌⊎◌, List, true, false, pos, length, get_or, take, drop, Err, Ok}
use Rattle.std.specs.Float.{binary32}
use Rattle.std.specs.Float.Ieee.{of_int, to_bits}
use Rattle.words.specs.Pick.{pick}
use Rattle.words.specs.Words.{Bytes}
use Rattle.decimal.specs.Decimal.{decimal}
use Rattle.pieces.specs.Pieces.{dot}
use Rattle.values.specs.Answers.{refusal}
use Rattle.values.specs.declared.Refusal.{Refusal}
use Rattle.facts.specs.declared.Facts.{Facts}
use Rattle.fixed.specs.declared.Site.{Site}
use Rattle.genotypes.specs.declared.Gt.{Gt}
use Rattle.record.specs.Reading.{reading, accepted_as}
use Rattle.contents.specs.Contents.{shown_of}
use Rattle.calls.specs.Calls.{how_many}
use Rattle.vcf_qual.specs.Qual.{whole_of, missing_qual, printable, qual_text}
use Rattle.std.specs.Prelude.{Some, Err, Ok}
use Rattle.vcf_line.specs.Line.{vcf_line, Names, line, printed, line_answer, after_line}
use Rattle.vcf_laws.specs.Columns.{ChosenLine}
use Rattle.vcf_laws.specs.Conditions.{Condition, Holds, Needed}
use Rattle.vcf_laws.specs.Lines.{Without, names_of, stretches_of, EachWithout, Distinct, Clear, Same, TextsWithout, has_gt}
use Rattle.laws.specs.Choosing.{Choice}

-- bytes that begin with a record that is accepted, and whose QUAL can be printed
pub record Ready (f : Facts) (s : List ℕ) (t : Site) (g : Gt) : Type 0 where
  pub read : reading f s ≡ accepted_as t g
  pub qual : printable t.qual ≡ true

-- bytes that begin with a record that is accepted, and the line that it prints as
pub record Prints (f : Facts) (strings contigs : Names) (s : List ℕ) (t : Site) (g : Gt) (l : List ℕ) : Type 0 where
  pub bytes : Bytes s
  pub read : reading f s ≡ accepted_as t g
  pub prints : printed f strings contigs s ≡ line l

-- the bits of a whole number as a float of 32 bits, by the language's own arithmetic
abbrev pub float_bits : ℕ → ℕ
float_bits n = to_bits binary32 (of_int binary32 (pos n))

-- 32 bits that are those of a whole number from 0 to 16,777,215
pub record WholeFloat (q : ℕ) : Type 0 where
  pub number : ℕ
  pub most : number < 16777216
  pub bits : q ≡ float_bits number

pub record VcfLines : Type 0 where
  -- an accepted record whose QUAL can be printed, with lists of names as long as their dictionaries, prints as the line of what it shows: CHROM, POS, ID,
  -- REF, ALT, QUAL, FILTER, a dot for INFO and, where there is GT, FORMAT and each person's call. What it shows is what is fetched (page Reading, `shows`)
  pub shown : (f : Facts) (strings contigs : Names) (s : List ℕ) (t : Site) (g : Gt) → Ready f s t g → f.strings ≤ length strings.ends
      → f.contigs ≤ length contigs.ends
      → printed f strings contigs s ≡ line (vcf_line f.gt f.people (names_of strings) (names_of contigs) (shown_of t s))
  -- a name stops at its first zero byte, and so has none as it prints
  pub name : (names : Names) (i : ℕ) → Without 0 (names_of names i)
  -- what the function answers: reading's refusal; else 17 for a QUAL that cannot be printed, whatever the names; else 18 for a list of names that is shorter
  -- than its dictionary, each whatever the buffer; else 13 for a buffer that is shorter than the line; else the line's length
  pub unread : (f : Facts) (strings contigs : Names) (s : List ℕ) (room : ℕ) (r : Refusal) → reading f s ≡ Err r
      → line_answer f strings contigs room s ≡ Err r
  pub qual : (f : Facts) (strings contigs : Names) (s : List ℕ) (t : Site) (g : Gt) (room : ℕ) → reading f s ≡ accepted_as t g
      → printable t.qual ≡ false → line_answer f strings contigs room s ≡ Err (refusal 17 0)
  pub names : (f : Facts) (strings contigs : Names) (s : List ℕ) (t : Site) (g : Gt) (room : ℕ) → Ready f s t g
      → (length strings.ends < f.strings) ⊎ (length contigs.ends < f.contigs) → line_answer f strings contigs room s ≡ Err (refusal 18 0)
  pub short : (f : Facts) (strings contigs : Names) (s l : List ℕ) (room : ℕ) → printed f strings contigs s ≡ line l → room < length l
      → line_answer f strings contigs room s ≡ Err (refusal 13 0)
  pub written : (f : Facts) (strings contigs : Names) (s l : List ℕ) (room : ℕ) → printed f strings contigs s ≡ line l → length l ≤ room
      → line_answer f strings contigs room s ≡ Ok (length l)
  -- after the function, a buffer that has room begins with the line, and its other bytes stay; on a refusal all do
  pub begins : (f : Facts) (strings contigs : Names) (s l buf : List ℕ) → printed f strings contigs s ≡ line l → length l ≤ length buf
      → take (length l) (after_line f strings contigs buf s) ≡ l
  pub stays : (f : Facts) (strings contigs : Names) (s l buf : List ℕ) → printed f strings contigs s ≡ line l → length l ≤ length buf
      → drop (length l) (after_line f strings contigs buf s) ≡ drop (length l) buf
  pub refused : (f : Facts) (strings contigs : Names) (s buf : List ℕ) (r : Refusal) → line_answer f strings contigs (length buf) s ≡ Err r
      → after_line f strings contigs buf s ≡ buf
  -- two records that print alike have the same contig, POS, ID text and list of alleles, if the contig names as they print are distinct and have no tab, no ID
  -- text has a tab or is a lone dot, and no allele has a comma or is a lone dot. Each record has facts and string names of its own
  pub apart : (f₁ f₂ : Facts) (strings₁ strings₂ contigs : Names) (s₁ s₂ : List ℕ) (t₁ t₂ : Site) (g₁ g₂ : Gt) (l : List ℕ)
      → Prints f₁ strings₁ contigs s₁ t₁ g₁ l → Prints f₂ strings₂ contigs s₂ t₂ g₂ l
      → EachWithout 0x09 f₁.contigs (names_of contigs) → EachWithout 0x09 f₂.contigs (names_of contigs)
      → Distinct f₁.contigs f₂.contigs (names_of contigs) → Clear (shown_of t₁ s₁) → Clear (shown_of t₂ s₂) → Same (shown_of t₁ s₁) (shown_of t₂ s₂)
  -- contig names that are distinct and free of zero bytes, as the request has it, are distinct as they print; so it holds under the request's own conditions,
  -- and line ends, which it names too, need not be kept out
  pub distinct_names : (names : Names) (m n : ℕ) → EachWithout 0 m (stretches_of names) → EachWithout 0 n (stretches_of names)
      → Distinct m n (stretches_of names) → Distinct m n (names_of names)
  pub apart_words : (f₁ f₂ : Facts) (strings₁ strings₂ contigs : Names) (s₁ s₂ : List ℕ) (t₁ t₂ : Site) (g₁ g₂ : Gt) (l : List ℕ)
      → Prints f₁ strings₁ contigs s₁ t₁ g₁ l → Prints f₂ strings₂ contigs s₂ t₂ g₂ l
      → ((c : Condition) → Holds c f₁.contigs f₂.contigs contigs (shown_of t₁ s₁) (shown_of t₂ s₂)) → Same (shown_of t₁ s₁) (shown_of t₂ s₂)
  -- and none of those conditions can be left out: where every other one holds, there are two accepted records that differ and print alike
  pub needed : (c : Condition) → Needed c
  -- QUAL is a dot when missing, decimal digits when it is a whole number from 0 to 16,777,215, and 0 when it is negative zero; and no other can be printed
  pub dotted : (printable missing_qual ≡ true) × (qual_text missing_qual ≡ dot)
  pub digits : (n : ℕ) → n < 16777216 → (printable (float_bits n) ≡ true) × (qual_text (float_bits n) ≡ decimal n)
  pub minus_zero : (printable 0x80000000 ≡ true) × (qual_text 0x80000000 ≡ decimal 0)
  pub no_other : (q : ℕ) → q < 4294967296 → printable q ≡ true → (q ≡ missing_qual) ⊎ ((q ≡ 0x80000000) ⊎ WholeFloat q)
  -- it is so because the bits of such a number are taken for that number; what is taken for a number above 0 are its very bits, and what is taken for 0 is one
  -- of the two zeros. So two QUALs that print alike are the same bits, or both zeros
  pub whole_bits : (n : ℕ) → n < 16777216 → whole_of (float_bits n) ≡ Some n
  pub bits_whole : (q n : ℕ) → whole_of q ≡ Some n → 0 < n → q ≡ float_bits n
  pub two_zeros : (q : ℕ) → q < 4294967296 → whole_of q ≡ Some 0 → (q ≡ 0) ⊎ (q ≡ 0x80000000)
  pub qual_alike : (q r : ℕ) → printable q ≡ true → printable r ≡ true → qual_text q ≡ qual_text r
      → (q ≡ r) ⊎ ((q % 0x80000000 ≡ 0) × (r % 0x80000000 ≡ 0))
  -- where no text that a line takes as it is has a tab, the line has 7 tabs, or with GT one more and one for each person; where none has a line feed, the line
  -- has one, and ends with it
  pub tabs : (f : Facts) (strings contigs : Names) (s : List ℕ) (t : Site) (g : Gt) (l : List ℕ) → Prints f strings contigs s t g l
      → TextsWithout 0x09 (names_of strings) (names_of contigs) (shown_of t s) → how_many 0x09 l ≡ pick (has_gt f.gt (shown_of t s)) (8 + f.people) 7
  pub line_feed : (f : Facts) (strings contigs : Names) (s : List ℕ) (t : Site) (g : Gt) (l : List ℕ) → Prints f strings contigs s t g l
      → TextsWithout 0x0A (names_of strings) (names_of contigs) (shown_of t s) → (how_many 0x0A l ≡ 1) × (get_or l (length l - 1) 0 ≡ 0x0A)
  -- the line of a chosen record is the whole record's line with the columns of the chosen people alone, in order; of nobody, with the site's eight columns
  pub chosen_line : (f : Facts) (strings contigs : Names) (s : List ℕ) (t : Site) (g : Gt) (cs l : List ℕ) → Choice f s t g cs
      → printed f strings contigs s ≡ line l → ChosenLine f strings contigs s t cs l
