-- What a record shows: its fixed fields, and of each field of its account the elements, as plain values with no widths and no places. Rests on the
-- account of a record's fields and on how elements are shown.
use Rattle.std.specs.Prelude.{ℕ, ◌-◌, drop}
use mathlib.Core.List.{List, map, flatten}
use Rattle.positions.specs.Positions.{pos_bits}
use Rattle.fixed.specs.declared.Site.{Site}
use Rattle.shown.specs.Shown.{Elements, Pair, Field, Shown, kind_of}
use Rattle.vectors.specs.Vectors.{elements_of}
use Rattle.fetch.specs.Account.{Entry, account, of_kind}
use Rattle.fetch.specs.declared.Kind.TheVariants.{Id, Allele, Filter, Info, Format}

-- a field's elements, which stand in the record from its place to its end
unfoldable pub elements_at : List ℕ → Entry → List ℕ
elements_at s e = elements_of e.code (e.stop - e.place) (drop e.place s)

abbrev pub value_shown : List ℕ → Entry → Elements
value_shown s e = record { kind = kind_of e.code; elements = elements_at s e }

-- as an INFO pair, and as a FORMAT field
abbrev pub pair_shown : List ℕ → Entry → Pair
pair_shown s e = record { key = e.key; value = value_shown s e }

abbrev pub field_shown : List ℕ → Entry → Field
field_shown s e = record { key = e.key; len = e.len; value = value_shown s e }

-- of a record whose front is a site: the elements of ID and of FILTER, each allele, each INFO pair and each FORMAT field
unfoldable pub shown_of : Site → List ℕ → Shown
shown_of t s =
    record {
      chrom = t.chrom;
      pos = pos_bits t.pos;
      rlen = t.rlen;
      qual = t.qual;
      id = flatten (map (elements_at s) (of_kind Id (account t s)));
      alleles = map (elements_at s) (of_kind Allele (account t s));
      filters = flatten (map (elements_at s) (of_kind Filter (account t s)));
      infos = map (pair_shown s) (of_kind Info (account t s));
      formats = map (field_shown s) (of_kind Format (account t s));
    }
