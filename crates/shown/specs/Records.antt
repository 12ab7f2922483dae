-- A record as it is written from what it shows: its first bytes, and its two blocks. Rests on the bytes of values and of fixed fields.
use Rattle.std.specs.Prelude.{ℕ, ◌+◌, List, [], ◌∷◌, ◌++◌, length}
use Rattle.fixed.specs.Layout.{id_at}
use Rattle.shown.specs.Shown.{Shown, integers, text, Pair, Field}
use Rattle.shown.specs.Values.{given_bytes, pair_bytes}
use Rattle.shown.specs.Front.{front_bytes, fields_filled}

-- lists one after the other, each as its bytes
unfoldable pub joined : {A : Type 0} → (A → List ℕ) → List A → List ℕ
joined f [] = []
joined f (x ∷ xs) = f x ++ joined f xs

-- text as ID and alleles are written, an INFO pair, a FORMAT field
abbrev pub text_bytes : List ℕ → List ℕ
text_bytes xs = given_bytes text (length xs) xs

abbrev pub info_bytes : Pair → List ℕ
info_bytes p = pair_bytes p.key p.value.kind (length p.value.elements) p.value.elements

abbrev pub format_bytes : Field → List ℕ
format_bytes x = pair_bytes x.key x.value.kind x.len x.value.elements

-- the two blocks
unfoldable pub site_bytes : Shown → List ℕ
site_bytes r =
    text_bytes r.id
    ++ (joined text_bytes r.alleles ++ (given_bytes integers (length r.filters) r.filters ++ joined info_bytes r.infos))

unfoldable pub genotype_bytes : Shown → List ℕ
genotype_bytes r = joined format_bytes r.formats

-- the first bytes with both block lengths and both count fields filled in
unfoldable pub filled_front : ℕ → Shown → List ℕ
filled_front people r =
    let border = id_at + length (site_bytes r) in
    fields_filled border (border + length (genotype_bytes r)) (length r.alleles) (length r.infos) (length r.formats) people
    (front_bytes r.chrom r.pos r.rlen r.qual)

-- a whole record
unfoldable pub record_bytes : ℕ → Shown → List ℕ
record_bytes people r = filled_front people r ++ (site_bytes r ++ genotype_bytes r)
