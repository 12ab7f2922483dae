-- An answer told in one number, and what an accepted answer holds as a list of numbers; and the site that reading's numbers hold. Rests on the
-- answers of reading, fetching, showing, tallying, choosing, printing and walking.
use Rattle.std.specs.Prelude.{ℕ, ◌+◌, ◌-◌, ◌*◌, ◌%◌, List, [], ◌∷◌, ltb, length, get_or, Err, Ok, Option, None, Some}
use Rattle.words.specs.Pick.{pick}
use Rattle.stores.specs.Stores.{filled}
use Rattle.values.specs.declared.Refusal.{Refusal}
use Rattle.positions.specs.Positions.{pos_of, pos_bits}
use Rattle.fixed.specs.declared.Site.{Site}
use Rattle.genotypes.specs.declared.Gt.{Gt}
use Rattle.elements.specs.declared.Shown.{Shown}
use Rattle.elements.specs.Answers.{shown_number, shown_bits}
use Rattle.calls.specs.declared.Calls.{Calls}
use Rattle.walker.specs.declared.Pair.{Pair}
use Rattle.fetch.specs.declared.Found.{Found}
use Rattle.record.specs.declared.Reading.{Reading}
use Rattle.values.specs.Answers.{Answer}
use Rattle.tally.specs.declared.Tallied.{Tallied}

-- a refusal's number in the high half, its place, or with number 0 a length, in the low half of 64 bits
unfoldable pub answer : ℕ → ℕ → ℕ
answer number low = number * 4294967296 + low % 4294967296

unfoldable pub refused_answer : Refusal → ℕ
refused_answer r = answer r.number r.place

-- an accepted answer whose numbers go to a lent slice of so many: 13 where they have no room
unfoldable pub told_answer : ℕ → List ℕ → ℕ → ℕ
told_answer room numbers low = pick (ltb room (length numbers)) (answer 13 0) (answer 0 low)

-- reading: the record's length and border, the fixed fields, POS by its 32 bits, the four counts, and GT's type, length and place
abbrev pub site_numbers : Site → Gt → List ℕ
site_numbers t g =
    t.length ∷ t.border ∷ t.chrom ∷ pos_bits t.pos ∷ t.rlen ∷ t.qual ∷ t.alleles ∷ t.infos ∷ t.formats ∷ t.people
    ∷ g.code ∷ g.len ∷ g.first ∷ []

-- the other way: the site that such numbers hold, each as far as its field's type goes. Fewer than 13 hold one whose blocks are empty: ID and FILTER
-- are counted in every site, but nothing stands there, so no field is found
abbrev pub empty_site : Site
empty_site = record { length = 0; border = 0; chrom = 0; pos = pos_of 0; rlen = 0; qual = 0; alleles = 0; infos = 0; formats = 0; people = 0 }

unfoldable pub site_told : List ℕ → Site
site_told ns =
    pick (ltb (length ns) 13) empty_site
    (record {
      length = get_or ns 0 0;
      border = get_or ns 1 0;
      chrom = get_or ns 2 0 % 4294967296;
      pos = pos_of (get_or ns 3 0 % 4294967296);
      rlen = get_or ns 4 0 % 4294967296;
      qual = get_or ns 5 0 % 4294967296;
      alleles = get_or ns 6 0 % 65536;
      infos = get_or ns 7 0 % 65536;
      formats = get_or ns 8 0 % 256;
      people = get_or ns 9 0 % 4294967296;
    })

abbrev pub reading_answer : ℕ → Answer Reading → ℕ
reading_answer room (Err r) = refused_answer r
reading_answer room (Ok a) = told_answer room (site_numbers a.site a.gt) a.site.length

abbrev pub reading_numbers : List ℕ → Answer Reading → List ℕ
reading_numbers out (Err r) = out
reading_numbers out (Ok a) = filled out 0 (site_numbers a.site a.gt)

-- fetching: the key, type and length, the place of the first element and the place after the last; the length told is the part's
abbrev pub field_numbers : ℕ → ℕ → ℕ → ℕ → ℕ → List ℕ
field_numbers key t n place stop = key ∷ t ∷ n ∷ place ∷ stop ∷ []

abbrev pub found_answer : ℕ → Answer Found → ℕ
found_answer room (Err r) = refused_answer r
found_answer room (Ok x) = told_answer room (field_numbers x.key x.code x.len x.place x.stop) (x.stop - x.place)

abbrev pub found_numbers : List ℕ → Answer Found → List ℕ
found_numbers out (Err r) = out
found_numbers out (Ok x) = filled out 0 (field_numbers x.key x.code x.len x.place x.stop)

-- a pair of the walker, the same way: 16 at the end
abbrev pub pair_answer : ℕ → Option Pair → ℕ
pair_answer room None = answer 16 0
pair_answer room (Some p) = told_answer room (field_numbers p.key p.code p.len p.place p.next) (p.next - p.place)

abbrev pub pair_numbers : List ℕ → Option Pair → List ℕ
pair_numbers out None = out
pair_numbers out (Some p) = filled out 0 (field_numbers p.key p.code p.len p.place p.next)

-- an answer that holds one number, a place or a length
abbrev pub one_answer : Answer ℕ → ℕ
one_answer (Err r) = refused_answer r
one_answer (Ok n) = answer 0 n

-- opening: the place of the first pair
abbrev pub opening_answer : Answer ℕ → ℕ
opening_answer = one_answer

-- an element: the 32 bits of the number, the float or the byte that it is shown as, 16 past the last one
abbrev pub shown_answer : Option Shown → ℕ
shown_answer e = answer (shown_number e) (shown_bits e)

-- the tally: alleles and people, people without a genotype, missing alleles, and the calls of each of 64 alleles
abbrev pub tally_numbers : Site → Calls → List ℕ
tally_numbers t k = t.alleles ∷ t.people ∷ k.without ∷ k.counts

abbrev pub counting_answer : ℕ → Calls → Answer Site → ℕ
counting_answer room k (Err r) = refused_answer r
counting_answer room k (Ok t) = told_answer room (tally_numbers t k) t.length

abbrev pub counting_numbers : List ℕ → Calls → Answer Site → List ℕ
counting_numbers out k (Err r) = out
counting_numbers out k (Ok t) = filled out 0 (tally_numbers t k)

abbrev pub tallied_answer : ℕ → Tallied → ℕ
tallied_answer room x = counting_answer room x.calls x.answer

abbrev pub tallied_numbers : List ℕ → Tallied → List ℕ
tallied_numbers out x = counting_numbers out x.calls x.answer

-- choosing: the chosen length
abbrev pub choosing_answer : Answer ℕ → ℕ
choosing_answer = one_answer

-- a VCF line: its length
abbrev pub line_number : Answer ℕ → ℕ
line_number = one_answer
