-- What reading tells of a record's own bytes: its length, its fixed fields by their places, and where its fields end. Rests on the layout and on the
-- account of a record's fields.
use Rattle.std.specs.Prelude.{ℕ, ◌+◌, ◌≤◌, ◌≡◌, List, [], ◌∷◌, length}
use Rattle.fixed.specs.Layout.{indiv_at, chrom_at, pos_at, rlen_at, qual_at, counts_at, people_at, id_at, alleles_in, infos_in, formats_in, people_in, most_bytes, field}
use Rattle.positions.specs.Positions.{pos_of}
use Rattle.facts.specs.declared.Facts.{Facts}
use Rattle.fixed.specs.declared.Site.{Site}
use Rattle.fetch.specs.Account.{Entry, site_fields, genotype_fields}

-- the length that a record's first eight bytes say, 8 + l_shared + l_indiv
unfoldable pub own_length : List ℕ → ℕ
own_length s = 8 + field 0 s + field indiv_at s

-- a site is what stands at the places of the layout
pub record Told (f : Facts) (s : List ℕ) (t : Site) : Type 0 where
  -- the record's length, at most 16,777,216 bytes, which are there; and the place where the site block ends
  pub length_told : t.length ≡ own_length s
  pub length_most : t.length ≤ most_bytes
  pub there : t.length ≤ length s
  pub border : t.border ≡ 8 + field 0 s
  -- the fixed fields: four bytes each
  pub chrom : t.chrom ≡ field chrom_at s
  pub pos : t.pos ≡ pos_of (field pos_at s)
  pub rlen : t.rlen ≡ field rlen_at s
  pub qual : t.qual ≡ field qual_at s
  -- two counts in one field, twice; people equals the number given
  pub alleles : t.alleles ≡ alleles_in (field counts_at s)
  pub infos : t.infos ≡ infos_in (field counts_at s)
  pub formats : t.formats ≡ formats_in (field people_at s)
  pub people : t.people ≡ people_in (field people_at s)
  pub given : t.people ≡ f.people

-- the place after the last of fields that begin at a place; of none that place itself
unfoldable pub end_of : ℕ → List Entry → ℕ
end_of at [] = at
end_of at (e ∷ es) = end_of e.stop es

-- each block is filled to its last byte: the site block from ID to the border, the genotype block from there to the record's length
pub record Filled (s : List ℕ) (t : Site) : Type 0 where
  pub site : end_of id_at (site_fields t s) ≡ t.border
  pub genotypes : end_of t.border (genotype_fields t s) ≡ t.length
