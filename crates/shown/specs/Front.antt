-- The fixed fields as bytes: the first 32 of a record, and what is filled in last. Rests on the layout.
use Rattle.std.specs.Prelude.{ℕ, ◌-◌, List, replicate}
use Rattle.std.proofs.lemmas.List.Edits.{sets}
use Rattle.words.specs.Words.{bytes}
use Rattle.fixed.specs.Layout.{indiv_at, chrom_at, pos_at, rlen_at, counts_at, people_at, qual_at, id_at, counts_of, members_of}

-- the first 32 bytes, with both block lengths and both count fields 0
unfoldable pub front_bytes : ℕ → ℕ → ℕ → ℕ → List ℕ
front_bytes chrom pos rlen qual =
    sets (sets (sets (sets (replicate id_at 0) chrom_at (bytes 4 chrom)) pos_at (bytes 4 pos)) rlen_at (bytes 4 rlen)) qual_at (bytes 4 qual)

-- both block lengths and both count fields, of a record that has so many bytes, its genotype block from the border on
unfoldable pub fields_filled : ℕ → ℕ → ℕ → ℕ → ℕ → ℕ → List ℕ → List ℕ
fields_filled border at alleles infos formats people buf =
    sets (sets (sets (sets buf 0 (bytes 4 (border - 8))) indiv_at (bytes 4 (at - border)))
    counts_at (bytes 4 (counts_of alleles infos))) people_at (bytes 4 (members_of formats people))
