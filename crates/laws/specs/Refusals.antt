-- Demand 1: every refusal has a number that 01, or for a VCF line 02, lists for its function, at place 0 or at a place of the record, and a refused call
-- leaves what was lent as it was. Rests on refusal_laws for the numbers of each function and for what is said of a refusal, and on the definitions of
-- each answer.
use Rattle.std.specs.Prelude.{ℕ, ◌≡◌, List, [], ◌++◌, true, eqb, length, Err}
use Rattle.words.specs.Lists.{among}
use Rattle.words.specs.Pick.{pick}
use Rattle.values.specs.declared.Refusal.{Refusal}
use Rattle.facts.specs.declared.Facts.{Facts}
use Rattle.fixed.specs.declared.Site.{Site}
use Rattle.shown.specs.Shown.{Kind as Sort, text}
use Rattle.record.specs.Reading.{reading}
use Rattle.fetch.specs.Fetch.{field_of, found, fetched}
use Rattle.fetch.specs.declared.Kind.{Kind}
use Rattle.elements.specs.Elements.{element_at}
use Rattle.walker.specs.Walk.{opened, pair_at}
use Rattle.tally.specs.Tally.{nobody, tallied}
use Rattle.choose.specs.Choose.{choosing, after_choosing}
use Rattle.vcf_line.specs.Line.{Names, line_answer, after_line}
use Rattle.build.specs.Order.{turned}
use Rattle.build.specs.Turns.{begun, after_begin, id_given, after_id, allele_given, after_allele, filter_given, after_filter, info_given, after_info, format_given, after_format, built, after_end}
use Rattle.build.specs.declared.Builder.{Builder}
use Rattle.build.specs.declared.Turned.{Turned}
use Rattle.build_laws.specs.Records.{Fit}
use Rattle.c_answers.specs.Told.{reading_answer, reading_numbers, found_answer, found_numbers, pair_answer, pair_numbers, opening_answer, shown_answer, tallied_answer, tallied_numbers, choosing_answer, line_number}
use Rattle.c_state.specs.Kept.{turn_answer, turn_numbers, fresh_answer, fresh_numbers}
use Rattle.refusal_laws.specs.Numbers.{reading_gives, fetching_gives, tally_gives, choosing_gives, line_gives, begin_gives, id_gives, allele_gives, filter_gives, info_gives, format_gives, end_gives, telling_gives, all_give, table}
use Rattle.record_laws.specs.Told.{own_length}
use Rattle.refusal_laws.specs.Refused.{InRecord, AtStart, AfterReading, MadeOf, Refuses, Halves, Answered}

pub record Refusals : Type 0 where
  -- the numbers of all functions together are 01's table, with 17 and 18 of Req 04
  pub numbers : (n : ℕ) → (among n all_give ≡ true → among n table ≡ true) × (among n table ≡ true → among n all_give ≡ true)
  -- reading: 1 to 11, at place 0 or at a place of the record, which is lent so far
  pub reads : (f : Facts) (s : List ℕ) (r : Refusal) → reading f s ≡ Err r → InRecord reading_gives s r
  -- fetching: reading's, or then 16 at place 0; and an empty part. Of a record that was read, 16 alone
  pub fetches : (f : Facts) (kind : Kind) (n : ℕ) (s : List ℕ) (r : Refusal) → found f kind n s ≡ Err r
      → AfterReading fetching_gives f s r × (fetched f kind n s ≡ [])
  pub fetches_again : (kind : Kind) (n : ℕ) (t : Site) (s : List ℕ) (r : Refusal) → field_of kind n t s ≡ Err r → AtStart fetching_gives r
  -- opening the walk: reading's
  pub opens : (f : Facts) (s : List ℕ) (r : Refusal) → opened f s ≡ Err r → reading f s ≡ Err r
  -- the tally: reading's, or then 15 at place 0; and every counter 0
  pub tallies : (f : Facts) (s : List ℕ) (r : Refusal) → (tallied f s).answer ≡ Err r
      → AfterReading tally_gives f s r × ((tallied f s).calls ≡ nobody 0)
  -- choosing: reading's, or then 14 or 13 at place 0; and the buffer as it was
  pub chooses : (f : Facts) (cs buf s : List ℕ) (r : Refusal) → choosing f cs (length buf) s ≡ Err r
      → AfterReading choosing_gives f s r × (after_choosing f cs buf s ≡ buf)
  -- a VCF line: reading's, or then 17, 18 or 13 at place 0; and the buffer as it was
  pub prints : (f : Facts) (strings contigs : Names) (buf s : List ℕ) (r : Refusal) → line_answer f strings contigs (length buf) s ≡ Err r
      → AfterReading line_gives f s r × (after_line f strings contigs buf s ≡ buf)
  -- a turn of building is made of one number
  pub turns : (st next : Builder) (n : ℕ) (buf new : List ℕ) → MadeOf n st next buf new (turned st n next) (pick (eqb n 0) new buf)
  -- so each turn is refused with the numbers of its own list. What ID and INFO are given is 32 bits an element, or bytes of text
  pub begins : (st : Builder) (buf : List ℕ) (f : Facts) (chrom pos rlen qual : ℕ)
      → Refuses begin_gives st buf (begun st (length buf) f chrom pos rlen qual) (after_begin st buf f chrom pos rlen qual)
  pub id : (st : Builder) (buf xs : List ℕ) → Fit text xs → Refuses id_gives st buf (id_given st (length buf) xs) (after_id st buf xs)
  pub allele : (st : Builder) (buf xs : List ℕ) → Refuses allele_gives st buf (allele_given st (length buf) xs) (after_allele st buf xs)
  pub filter : (st : Builder) (buf xs : List ℕ) → Refuses filter_gives st buf (filter_given st (length buf) xs) (after_filter st buf xs)
  pub info : (st : Builder) (buf : List ℕ) (key : ℕ) (k : Sort) (xs : List ℕ) → Fit k xs
      → Refuses info_gives st buf (info_given st (length buf) key k xs) (after_info st buf key k xs)
  pub format : (st : Builder) (buf : List ℕ) (key : ℕ) (k : Sort) (len : ℕ) (xs : List ℕ)
      → Refuses format_gives st buf (format_given st (length buf) key k len xs) (after_format st buf key k len xs)
  pub ends : (st : Builder) (buf : List ℕ) → Refuses end_gives st buf (built st (length buf)) (after_end st buf)
  -- what is exported answers in one number: 0 in its high half, or the number of a refusal, and then its place in the low half, and what was lent is
  -- as it was. Reading, fetching and the tally give 13 too, for a slice too short for what they tell
  pub read_told : (f : Facts) (s out : List ℕ)
      → Answered (reading_gives ++ telling_gives) (own_length s) (reading_answer (length out) (reading f s)) out (reading_numbers out (reading f s))
  pub fetch_told : (f : Facts) (kind : Kind) (n : ℕ) (s out : List ℕ)
      → Answered (reading_gives ++ fetching_gives ++ telling_gives) (own_length s) (found_answer (length out) (found f kind n s)) out
      (found_numbers out (found f kind n s))
  pub field_told : (kind : Kind) (n : ℕ) (t : Site) (s out : List ℕ)
      → Answered (fetching_gives ++ telling_gives) 0 (found_answer (length out) (field_of kind n t s)) out (found_numbers out (field_of kind n t s))
  pub shown_told : (code index : ℕ) (part : List ℕ) → Halves fetching_gives 0 (shown_answer (element_at code index part))
  pub tally_told : (f : Facts) (s out : List ℕ)
      → Answered (reading_gives ++ tally_gives ++ telling_gives) (own_length s) (tallied_answer (length out) (tallied f s)) out
      (tallied_numbers out (tallied f s))
  pub choose_told : (f : Facts) (cs buf s : List ℕ)
      → Answered (reading_gives ++ choosing_gives) (own_length s) (choosing_answer (choosing f cs (length buf) s)) buf (after_choosing f cs buf s)
  pub line_told : (f : Facts) (strings contigs : Names) (buf s : List ℕ)
      → Answered (reading_gives ++ line_gives) (own_length s) (line_number (line_answer f strings contigs (length buf) s)) buf
      (after_line f strings contigs buf s)
  pub opening_told : (f : Facts) (s : List ℕ) → Halves reading_gives (own_length s) (opening_answer (opened f s))
  pub pair_told : (s : List ℕ) (at : ℕ) (out : List ℕ)
      → Answered (fetching_gives ++ telling_gives) 0 (pair_answer (length out) (pair_at s at)) out (pair_numbers out (pair_at s at))
  pub fresh_told : (ns : List ℕ) → Answered telling_gives 0 (fresh_answer (length ns)) ns (fresh_numbers ns)
  -- and a turn gives the numbers of its own list, the numbers of the state and the bytes of the buffer as they were
  pub turn_told : (numbers : List ℕ) (st : Builder) (buf ns after : List ℕ) (t : Turned) → Refuses numbers st buf t after
      → Answered numbers 0 (turn_answer t) ns (turn_numbers ns t) × Answered numbers 0 (turn_answer t) buf after
