-- A release for some of the people: the facts it is read under, the site that reading answers, and what it shows. Rests on choose and
-- on what a record shows.
use Rattle.std.specs.Prelude.{ℕ, zero, suc, List, [], ◌∷◌, map, length, get_or}
use Rattle.facts.specs.declared.Facts.{Facts}
use Rattle.fixed.specs.declared.Site.{Site}
use Rattle.shown.specs.Shown.{Shown, Field}
use Rattle.choice.specs.Choice.{chosen_parts}
use Rattle.choose.specs.Chosen.{kept_formats, chosen_record}

-- the header's facts, with so many people
abbrev pub for_people : ℕ → Facts → Facts
for_people n f = record { strings = f.strings; contigs = f.contigs; people = n; gt = f.gt }

-- the site of the chosen record: other than its length, its FORMAT fields and its people all is as it was
abbrev pub released_site : List ℕ → List ℕ → Site → Site
released_site cs s t =
    record {
      length = length (chosen_record t cs s);
      border = t.border;
      chrom = t.chrom;
      pos = t.pos;
      rlen = t.rlen;
      qual = t.qual;
      alleles = t.alleles;
      infos = t.infos;
      formats = kept_formats cs t.formats;
      people = length cs;
    }

-- a FORMAT field of the chosen people: what each shows, in order; of nobody there are no fields
abbrev pub released_field : List ℕ → Field → Field
released_field cs x =
    record { key = x.key; len = x.len; value = record { kind = x.value.kind; elements = chosen_parts x.len cs x.value.elements } }

abbrev pub released_fields : List ℕ → List Field → List Field
released_fields [] xs = []
released_fields (c ∷ cs) xs = map (released_field (c ∷ cs)) xs

-- what the chosen people show: the site as it was, and their elements
abbrev pub released : List ℕ → Shown → Shown
released cs r =
    record {
      chrom = r.chrom;
      pos = r.pos;
      rlen = r.rlen;
      qual = r.qual;
      id = r.id;
      alleles = r.alleles;
      filters = r.filters;
      infos = r.infos;
      formats = released_fields cs r.formats;
    }

-- so many people from one on
unfoldable pub people_from : ℕ → ℕ → List ℕ
people_from k zero = []
people_from k (suc n) = k ∷ people_from (suc k) n

-- everybody
abbrev pub everybody : ℕ → List ℕ
everybody people = people_from 0 people

-- a choice of a choice: the people that the second takes out of the first
abbrev pub composed : List ℕ → List ℕ → List ℕ
composed cs ds = map (λ d. get_or cs d 0) ds
