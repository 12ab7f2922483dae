-- The front of a record: the two lengths, and then the fixed fields in the order of their bytes. Rests on the layout and on positions.
use Rattle.std.specs.Prelude.{ℕ, ◌+◌, ◌≤◌, List, [], ◌∷◌, ltb, eqb, length, Err, Ok}
use Rattle.words.specs.Pick.{pick}
use Rattle.words.specs.Words.{outside}
use Rattle.positions.specs.Positions.{pos_of, pos_bits}
use Rattle.values.specs.Answers.{refusal, Says, refuses, holds, Answer}
use Rattle.fixed.specs.Layout.{indiv_at, chrom_at, pos_at, rlen_at, counts_at, people_at, qual_at, id_at, alleles_in, infos_in, formats_in, people_in, most_bytes, field, pos_wrong, rlen_wrong, counts_wrong, people_wrong, qual_wrong}
use Rattle.facts.specs.declared.Facts.{Facts}
use Rattle.fixed.specs.declared.Blocks.{Blocks}
use Rattle.fixed.specs.declared.Site.{Site}

-- 01's number and values for each case: the blocks, refused or the places where the genotype block begins and ends; the fixed
-- fields, refused or a site
abbrev pub no_blocks : ℕ → ℕ → Answer Blocks
no_blocks n p = Err (refusal n p)

abbrev pub lent : ℕ → ℕ → Answer Blocks
lent border whole = Ok (record { border = border; length = whole })

abbrev pub no_site : ℕ → ℕ → Answer Site
no_site n p = Err (refusal n p)

abbrev pub blocks_says : Answer Blocks → Says
blocks_says (Err r) = refuses r
blocks_says (Ok b) = holds (b.border ∷ b.length ∷ [])

abbrev pub site_values : Site → List ℕ
site_values t =
    t.length ∷ t.border ∷ t.chrom ∷ pos_bits t.pos ∷ t.rlen ∷ t.qual ∷ t.alleles ∷ t.infos ∷ t.formats ∷ t.people ∷ []

abbrev pub fixed_says : Answer Site → Says
fixed_says (Err r) = refuses r
fixed_says (Ok t) = holds (site_values t)

-- under 8 bytes 1; over the most 2; fewer bytes than the record's length 1; a site block that ends before ID 3
unfoldable pub blocks : List ℕ → Answer Blocks
blocks s =
    let border = 8 + field 0 s in
    let whole = border + field indiv_at s in
    pick (ltb (length s) 8) (no_blocks 1 0)
    (pick (ltb most_bytes whole) (no_blocks 2 0)
    (pick (ltb (length s) whole) (no_blocks 1 0)
    (pick (ltb border id_at) (no_blocks 3 border)
    (lent border whole))))

-- the place of the first fixed field, in the order of the bytes, that breaks its rule; 0 where each keeps its own
unfoldable pub wrong_at : Facts → List ℕ → ℕ
wrong_at f s =
    let members = field people_at s in
    pick (outside f.contigs (field chrom_at s)) chrom_at
    (pick (pos_wrong (field pos_at s)) pos_at
    (pick (rlen_wrong (field rlen_at s)) rlen_at
    (pick (qual_wrong (field qual_at s)) qual_at
    (pick (counts_wrong (alleles_in (field counts_at s))) counts_at
    (pick (people_wrong f.people (formats_in members) (people_in members)) people_at
    0)))))

-- what the fixed fields say, of a record whose genotype block begins and ends at these places
unfoldable pub site_at : ℕ → ℕ → List ℕ → Site
site_at border whole s =
    record {
      length = whole;
      border = border;
      chrom = field chrom_at s;
      pos = pos_of (field pos_at s);
      rlen = field rlen_at s;
      qual = field qual_at s;
      alleles = alleles_in (field counts_at s);
      infos = infos_in (field counts_at s);
      formats = formats_in (field people_at s);
      people = people_in (field people_at s);
    }

-- the first fixed field that breaks its rule gives 5 at its place
abbrev pub fields : Facts → List ℕ → Answer Blocks → Answer Site
fields f s (Err r) = Err r
fields f s (Ok b) = let at = wrong_at f s in pick (eqb at 0) (Ok (site_at b.border b.length s)) (no_site 5 at)

unfoldable pub fixed : Facts → List ℕ → Answer Site
fixed f s = fields f s (blocks s)

-- the places of an answer lie in the slice
abbrev pub BlocksInside : ℕ → Answer Blocks → Type 0
BlocksInside end (Err r) = Unit {0}
BlocksInside end (Ok b) = (id_at ≤ b.border) × (b.border ≤ b.length) × (b.length ≤ end) × (b.length ≤ most_bytes)

abbrev pub FixedInside : ℕ → Answer Site → Type 0
FixedInside end (Err r) = Unit {0}
FixedInside end (Ok t) = (id_at ≤ t.border) × (t.border ≤ t.length) × (t.length ≤ end) × (t.length ≤ most_bytes)
