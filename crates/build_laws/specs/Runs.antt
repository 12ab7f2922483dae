-- Turns as they are given, one after the other, over a buffer that nobody else touches, and what they give together. Rests on build's turns
-- and on what a record shows.
use Rattle.build.specs.Answers.{Taken}
use Rattle.std.specs.Prelude.{ℕ, ◌<◌, ◌≡◌, List, [], ◌∷◌, ◌++◌, map, length}
use Rattle.facts.specs.declared.Facts.{Facts}
use Rattle.shown.specs.Shown.{Shown, integers, text, Pair, Field}
use Rattle.build.specs.Turns.{fresh_state, begun, after_begin, id_given, after_id, allele_given, after_allele, filter_given, after_filter, info_given, after_info, format_given, after_format, built, after_end}
use Rattle.build.specs.declared.Stage.TheVariants.{Ended}
use Rattle.build.specs.declared.Builder.{Builder}
use Rattle.build.specs.declared.Turned.{Turned}
use Rattle.build_laws.specs.Records.{Fit}

-- a turn with what is given: begin with CHROM, POS, rlen and QUAL as their 32 bits, ID, an allele, FILTER, an INFO pair, a FORMAT field, end
pub data Turn : Type 0 where
  begin : ℕ → ℕ → ℕ → ℕ → Turn
  id : List ℕ → Turn
  allele : List ℕ → Turn
  filter : List ℕ → Turn
  info : Pair → Turn
  format : Field → Turn
  end : Turn

-- what a turn answers, and the buffer after it
abbrev pub answers : Facts → Builder → ℕ → Turn → Turned
answers f st room (begin c p r q) = begun st room f c p r q
answers f st room (id xs) = id_given st room xs
answers f st room (allele xs) = allele_given st room xs
answers f st room (filter xs) = filter_given st room xs
answers f st room (info p) = info_given st room p.key p.value.kind p.value.elements
answers f st room (format x) = format_given st room x.key x.value.kind x.len x.value.elements
answers f st room end = built st room

abbrev pub writes : Facts → Builder → List ℕ → Turn → List ℕ
writes f st buf (begin c p r q) = after_begin st buf f c p r q
writes f st buf (id xs) = after_id st buf xs
writes f st buf (allele xs) = after_allele st buf xs
writes f st buf (filter xs) = after_filter st buf xs
writes f st buf (info p) = after_info st buf p.key p.value.kind p.value.elements
writes f st buf (format x) = after_format st buf x.key x.value.kind x.len x.value.elements
writes f st buf end = after_end st buf

-- turns that are all taken, from a state and a buffer to a state and a buffer
pub data Run (f : Facts) : Builder → List ℕ → List Turn → Builder → List ℕ → Type 0 where
  done : {st : Builder} {buf : List ℕ} → Run f st buf [] st buf
  next : {st last : Builder} {buf out : List ℕ} {x : Turn} {xs : List Turn} → (answers f st (length buf) x).answer ≡ Taken
      → Run f (answers f st (length buf) x).state (writes f st buf x) xs last out → Run f st buf (x ∷ xs) last out

-- the turns that give what a record shows
unfoldable pub turns_of : Shown → List Turn
turns_of r =
    begin r.chrom r.pos r.rlen r.qual ∷
    id r.id ∷
    (map allele r.alleles ++ (filter r.filters ∷ (map info r.infos ++ (map format r.formats ++ (end ∷ [])))))

-- what turns give together: begin's numbers, the ID and the filters are those of the first such turn, all else stands in its order
abbrev pub shown_as : ℕ → ℕ → ℕ → ℕ → List ℕ → List (List ℕ) → List ℕ → List Pair → List Field → Shown
shown_as chrom pos rlen qual name alleles filters pairs fields =
    record {
      chrom = chrom;
      pos = pos;
      rlen = rlen;
      qual = qual;
      id = name;
      alleles = alleles;
      filters = filters;
      infos = pairs;
      formats = fields;
    }

abbrev pub giving : Turn → Shown → Shown
giving (begin c p l q) r = shown_as c p l q r.id r.alleles r.filters r.infos r.formats
giving (id xs) r = shown_as r.chrom r.pos r.rlen r.qual xs r.alleles r.filters r.infos r.formats
giving (allele xs) r = shown_as r.chrom r.pos r.rlen r.qual r.id (xs ∷ r.alleles) r.filters r.infos r.formats
giving (filter xs) r = shown_as r.chrom r.pos r.rlen r.qual r.id r.alleles xs r.infos r.formats
giving (info p) r = shown_as r.chrom r.pos r.rlen r.qual r.id r.alleles r.filters (p ∷ r.infos) r.formats
giving (format x) r = shown_as r.chrom r.pos r.rlen r.qual r.id r.alleles r.filters r.infos (x ∷ r.formats)
giving end r = r

unfoldable pub gives : List Turn → Shown
gives [] = shown_as 0 0 0 0 [] [] [] [] []
gives (x ∷ xs) = giving x (gives xs)

-- what the types of a turn's parameters say: 32 bits each, or bytes of text
abbrev pub FitTurn : Turn → Type 0
FitTurn (begin c p r q) = (c < 4294967296) × (p < 4294967296) × (r < 4294967296) × (q < 4294967296)
FitTurn (id xs) = Fit text xs
FitTurn (allele xs) = Fit text xs
FitTurn (filter xs) = Fit integers xs
FitTurn (info p) = (p.key < 4294967296) × Fit p.value.kind p.value.elements
FitTurn (format x) = (x.key < 4294967296) × (x.len < 4294967296) × Fit x.value.kind x.value.elements
FitTurn end = Unit {0}

-- turns that are all taken, from a fresh state to the end
pub record Finished (f : Facts) (xs : List Turn) (buf : List ℕ) : Type 0 where
  pub last : Builder
  pub out : List ℕ
  pub run : Run f fresh_state buf xs last out
  pub ended : last.stage ≡ Ended
