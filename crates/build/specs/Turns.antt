-- The turns of a builder: for each the number of what is wrong, in 01's order 12, 5, 8, 11, 6, 7, then 9 and 10 by element; the bytes that
-- it writes, and the state after it. Rests on the order of turns and on values as they are given.
use Rattle.std.specs.Prelude.{ℕ, ◌+◌, List, Bool, eqb, length, take, set, replicate}
use Rattle.std.proofs.lemmas.List.Edits.{sets}
use Rattle.words.specs.Pick.{pick}
use Rattle.vectors.specs.Sound.{most_of}
use Rattle.fixed.specs.Layout.{id_at}
use Rattle.facts.specs.declared.Facts.{Facts}
use Rattle.genotypes.specs.Formats.{role_of}
use Rattle.shown.specs.Shown.{Kind, integers, text, is_integers}
use Rattle.shown.specs.Front.{fields_filled}
unfoldable pub use Rattle.build_front.specs.Front.{fields_number}
unfoldable pub use Rattle.shown.specs.Front.{front_bytes}
use Rattle.build_append.specs.Append.{first_of}
use Rattle.shown.specs.Values.{given_bytes, pair_bytes}
use Rattle.build_rules.specs.Rules.{wrong_begin, wrong_id, wrong_allele, wrong_filter, wrong_info, wrong_format, wrong_end, format_order}
use Rattle.build_rules.specs.Values.{given_as, any, given_number}
unfoldable pub use Rattle.build_rules.specs.Rules.{key_number, people_number, repeat_number, gt_number, list_number, format_key, format_shape}
use Rattle.build.specs.Order.{rank, turned, appended, afterwards}
use Rattle.build.specs.declared.Stage.{Stage}
use Rattle.build.specs.declared.Stage.TheVariants.{Fresh, Begun, Named, Alleles, Filtered, Infos, Formats, Ended}
use Rattle.build.specs.declared.Builder.{Builder}
use Rattle.build.specs.declared.Turned.{Turned}

-- a fresh state
unfoldable pub fresh_state : Builder
fresh_state =
    record {
      facts = record { strings = 0; contigs = 0; people = 0; gt = 0 };
      at = 0;
      border = 0;
      alleles = 0;
      infos = 0;
      formats = 0;
      stage = Fresh;
      keys = replicate 256 0;
    }

-- the state after a turn that leaves the FORMAT fields as they are; after so many bytes more of the site block, or of the genotype block
abbrev pub moved_to : Builder → Stage → ℕ → ℕ → ℕ → ℕ → Builder
moved_to st stage at border alleles infos =
    record {
      facts = st.facts;
      at = at;
      border = border;
      alleles = alleles;
      infos = infos;
      formats = st.formats;
      stage = stage;
      keys = st.keys;
    }

abbrev pub in_site : Builder → Stage → ℕ → ℕ → ℕ → Builder
in_site st stage alleles infos size = moved_to st stage (st.at + size) (st.at + size) alleles infos

abbrev pub in_genotypes : Builder → ℕ → ℕ → Builder
in_genotypes st key size =
    record {
      facts = st.facts;
      at = st.at + size;
      border = st.border;
      alleles = st.alleles;
      infos = st.infos;
      formats = st.formats + 1;
      stage = Formats;
      keys = set st.keys st.formats key;
    }

-- begin: its fields, and room for the first bytes
unfoldable pub begin_number : Stage → ℕ → Facts → ℕ → ℕ → ℕ → ℕ → ℕ
begin_number stage room f chrom pos rlen qual = wrong_begin (rank stage) room f chrom pos rlen qual

abbrev pub begun_state : Facts → Builder
begun_state f =
    record {
      facts = f;
      at = id_at;
      border = id_at;
      alleles = 0;
      infos = 0;
      formats = 0;
      stage = Begun;
      keys = replicate 256 0;
    }

unfoldable pub begun : Builder → ℕ → Facts → ℕ → ℕ → ℕ → ℕ → Turned
begun st room f chrom pos rlen qual = turned st (begin_number st.stage room f chrom pos rlen qual) (begun_state f)

unfoldable pub after_begin : Builder → List ℕ → Facts → ℕ → ℕ → ℕ → ℕ → List ℕ
after_begin st buf f chrom pos rlen qual =
    pick (eqb (begin_number st.stage (length buf) f chrom pos rlen qual) 0) (sets buf 0 (front_bytes chrom pos rlen qual)) buf

-- ID: any text
unfoldable pub id_number : Builder → List ℕ → ℕ
id_number st xs = wrong_id (rank st.stage) xs

unfoldable pub id_given : Builder → ℕ → List ℕ → Turned
id_given st room xs =
    let bs = given_bytes text (length xs) xs in
    appended st room (id_number st xs) bs (in_site st Named st.alleles st.infos (length bs))

unfoldable pub after_id : Builder → List ℕ → List ℕ → List ℕ
after_id st buf xs = afterwards st buf (id_number st xs) (given_bytes text (length xs) xs)

-- an allele: not over 65,535 of them, not empty, each byte from 21 to 7E
unfoldable pub allele_rules : Builder → List ℕ → ℕ
allele_rules st xs = wrong_allele (rank st.stage) st.alleles xs

unfoldable pub allele_given : Builder → ℕ → List ℕ → Turned
allele_given st room xs =
    let bs = given_bytes text (length xs) xs in
    appended st room (allele_rules st xs) bs (in_site st Alleles (st.alleles + 1) st.infos (length bs))

unfoldable pub after_allele : Builder → List ℕ → List ℕ → List ℕ
after_allele st buf xs = afterwards st buf (allele_rules st xs) (given_bytes text (length xs) xs)

-- FILTER: by element 8, then 11
unfoldable pub filter_rules : Builder → List ℕ → ℕ
filter_rules st xs = wrong_filter (rank st.stage) st.facts.strings xs

unfoldable pub filter_given : Builder → ℕ → List ℕ → Turned
filter_given st room xs =
    let bs = given_bytes integers (length xs) xs in
    appended st room (filter_rules st xs) bs (in_site st Filtered st.alleles st.infos (length bs))

unfoldable pub after_filter : Builder → List ℕ → List ℕ → List ℕ
after_filter st buf xs = afterwards st buf (filter_rules st xs) (given_bytes integers (length xs) xs)

-- INFO: a key and any value
unfoldable pub info_key : Stage → ℕ → ℕ → ℕ → ℕ
info_key stage infos strings key = wrong_info (rank stage) infos strings key

unfoldable pub info_rules : Builder → ℕ → Kind → List ℕ → ℕ
info_rules st key k xs = first_of (info_key st.stage st.infos st.facts.strings key) (given_number any k (length xs) xs)

unfoldable pub info_given : Builder → ℕ → ℕ → Kind → List ℕ → Turned
info_given st room key k xs =
    let bs = pair_bytes key k (length xs) xs in
    appended st room (info_rules st key k xs) bs (in_site st Infos st.alleles (st.infos + 1) (length bs))

unfoldable pub after_info : Builder → List ℕ → ℕ → Kind → List ℕ → List ℕ
after_info st buf key k xs = afterwards st buf (info_rules st key k xs) (pair_bytes key k (length xs) xs)

-- FORMAT: people, a key that did not stand earlier, integers for GT, and a list of people times length
unfoldable pub format_count : Stage → ℕ → ℕ → ℕ
format_count stage people formats = format_order (rank stage) people formats

-- what is wrong with a FORMAT turn before its elements are looked at
unfoldable pub format_front : Builder → ℕ → Bool → ℕ → ℕ → ℕ
format_front st key whole len count =
    wrong_format (rank st.stage) st.facts st.formats (take st.formats st.keys) key whole len count

unfoldable pub format_rules : Builder → ℕ → Kind → ℕ → List ℕ → ℕ
format_rules st key k len xs =
    let f = st.facts in
    first_of (format_count st.stage f.people st.formats)
    (first_of (format_key f.strings (take st.formats st.keys) key)
    (first_of (format_shape f.gt key (is_integers k) f.people len (length xs))
    (given_number (most_of (role_of key f.gt) st.alleles (given_as k)) k len xs)))

unfoldable pub format_given : Builder → ℕ → ℕ → Kind → ℕ → List ℕ → Turned
format_given st room key k len xs =
    let bs = pair_bytes key k len xs in
    appended st room (format_rules st key k len xs) bs (in_genotypes st key (length bs))

unfoldable pub after_format : Builder → List ℕ → ℕ → Kind → ℕ → List ℕ → List ℕ
after_format st buf key k len xs = afterwards st buf (format_rules st key k len xs) (pair_bytes key k len xs)

-- end: fills in both block lengths and both count fields
unfoldable pub end_number : Stage → ℕ → ℕ
end_number stage room = wrong_end (rank stage) room

abbrev pub ended_state : Builder → Builder
ended_state st = moved_to st Ended st.at st.border st.alleles st.infos

unfoldable pub filled_in : Builder → List ℕ → List ℕ
filled_in st buf = fields_filled st.border st.at st.alleles st.infos st.formats st.facts.people buf

unfoldable pub built : Builder → ℕ → Turned
built st room = turned st (end_number st.stage room) (ended_state st)

unfoldable pub after_end : Builder → List ℕ → List ℕ
after_end st buf = pick (eqb (end_number st.stage (length buf)) 0) (filled_in st buf) buf
