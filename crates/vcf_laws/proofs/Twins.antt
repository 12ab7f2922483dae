-- For each condition two records that print alike and differ, computed. Rests on specs/Conditions, and on the bytes of what a record shows.
use mathlib.Core.Path.{◌≡◌, refl}
use mathlib.Core.Bool.{Bool, true, false}
use mathlib.Core.List.{List, [], ◌∷◌, flatten}
use Prim.Native.Nat.{ℕ, ◌<◌}
use native.Mathlib.Omega.{arith}
use lib.Dec.{ltb}
use borrow.Author.Tests.{ltb-true}
use Rattle.words.specs.Lists.{among}
use Rattle.words.specs.Pick.{pick}
use Rattle.words.specs.Words.{le, number, bytes, Bytes, outside}
use Rattle.decimal.specs.Decimal.{in_decimal, decimal}
use Rattle.types.specs.Rows.{row_of, width_of}
use Rattle.types.specs.Elements.{marked, kind, widened, shown, narrowest}
use Rattle.encode.specs.Encode.{integer_bytes, descriptor_bytes, widest, marked_as, narrowed, elements_bytes, value_bytes}
use Rattle.values.specs.Values.{integer, true_length, keyed, may_stand, described, present}
use Rattle.vectors.specs.Vectors.{numbers, shown_numbers, vector, vectors, judged, elements_of}
use Rattle.vectors.specs.Sound.{highest, code_most, sound}
use Rattle.facts.specs.declared.Facts.{Facts}
use Rattle.positions.specs.Positions.{pos_of, pos_bits, one_based}
use Rattle.fixed.specs.Layout.{field, pos_wrong, people_wrong, qual_wrong}
use Rattle.fixed.specs.Fixed.{blocks, wrong_at, site_at, fixed}
use Rattle.shown.specs.Shown.{Shown}
use Rattle.shown.specs.Values.{given_bytes, pair_bytes}
use Rattle.shown.specs.Front.{front_bytes, fields_filled}
use Rattle.shown.specs.Records.{joined, site_bytes, genotype_bytes, filled_front, record_bytes}
use Rattle.site.specs.Steps.{times}
use Rattle.site.specs.Alleles.{allele_bytes, allele}
use Rattle.site.specs.Filters.{filters, filtered, filter}
use Rattle.site.specs.Site.{info, site}
use Rattle.genotypes.specs.Formats.{no_gt, role_of, gt_now, format_field, so_many, formats}
use Rattle.record.specs.Reading.{site_of, genotypes_of, reading, accepted_as}
use Rattle.fetch.specs.Fields.{alone, paired}
use Rattle.fetch.specs.Account.{fields_of, site_kinds, site_fields, genotype_fields, account, of_kind}
use Rattle.contents.specs.Contents.{elements_at, shown_of}
use Rattle.build_laws.proofs.Front.{site_for}
use Rattle.pieces.specs.Pieces.{followed, joined_by, listed, or_dot}
use Rattle.names.specs.Names.{before_zero, stretch_of, name_of}
use Rattle.vcf_qual.specs.Qual.{missing_qual, whole_of, printable, qual_text}
use Rattle.vcf_site.specs.Columns.{pos_text}
use Rattle.vcf_line.specs.Line.{ref_text, alt_text, filter_text, call_columns, site_columns, vcf_line, Names, names_in, line, printed}
use Rattle.vcf_laws.specs.Conditions.{Condition, distinct, zeros, name_tabs, id_tabs, id_dots, commas, allele_dots}

-- one string, so many contigs and no people
abbrev pub under : ℕ → Facts
under contigs = record { strings = 1; contigs = contigs; people = 0; gt = 0 }

-- a record of CHROM, POS, ID, alleles and filters; it has no INFO and no FORMAT fields, and QUAL is missing
abbrev showing : ℕ → ℕ → List ℕ → List (List ℕ) → List ℕ → Shown
showing chrom pos id alleles filters =
    record { chrom = chrom; pos = pos; rlen = 1; qual = missing_qual; id = id; alleles = alleles; filters = filters; infos = []; formats = [] }

-- two records, each with its string names; the contigs' names; and the line of both
pub record Twins : Type 0 where
  pub contigs : ℕ
  pub names : Names
  pub strings₁ : Names
  pub first : Shown
  pub strings₂ : Names
  pub second : Shown
  pub text : List ℕ

abbrev pub twins : Condition → Twins
-- two contigs named `a`
twins distinct =
    record {
      contigs = 2;
      names = names_in (0x61 ∷ 0x61 ∷ []) (1 ∷ 2 ∷ []);
      strings₁ = names_in (0x71 ∷ []) (1 ∷ []);
      first = showing 0 4 [] ((0x41 ∷ []) ∷ []) [];
      strings₂ = names_in (0x71 ∷ []) (1 ∷ []);
      second = showing 1 4 [] ((0x41 ∷ []) ∷ []) [];
      text = 0x61 ∷ 0x09 ∷ 0x35 ∷ 0x09 ∷ 0x2E ∷ 0x09 ∷ 0x41 ∷ 0x09 ∷ 0x2E ∷ 0x09 ∷ 0x2E ∷ 0x09 ∷ 0x2E ∷ 0x09 ∷ 0x2E ∷ 0x0A ∷ [];
    }
-- contigs `a`, zero, `b` and `a`, zero, `c`
twins zeros =
    record {
      contigs = 2;
      names = names_in (0x61 ∷ 0x00 ∷ 0x62 ∷ 0x61 ∷ 0x00 ∷ 0x63 ∷ []) (3 ∷ 6 ∷ []);
      strings₁ = names_in (0x71 ∷ []) (1 ∷ []);
      first = showing 0 4 [] ((0x41 ∷ []) ∷ []) [];
      strings₂ = names_in (0x71 ∷ []) (1 ∷ []);
      second = showing 1 4 [] ((0x41 ∷ []) ∷ []) [];
      text = 0x61 ∷ 0x09 ∷ 0x35 ∷ 0x09 ∷ 0x2E ∷ 0x09 ∷ 0x41 ∷ 0x09 ∷ 0x2E ∷ 0x09 ∷ 0x2E ∷ 0x09 ∷ 0x2E ∷ 0x09 ∷ 0x2E ∷ 0x0A ∷ [];
    }
-- contigs `a` and `a`, tab, `5`; filters `.`, tab, `q` and `q`
twins name_tabs =
    record {
      contigs = 2;
      names = names_in (0x61 ∷ 0x61 ∷ 0x09 ∷ 0x35 ∷ []) (1 ∷ 4 ∷ []);
      strings₁ = names_in (0x2E ∷ 0x09 ∷ 0x71 ∷ []) (3 ∷ []);
      first = showing 0 4 (0x37 ∷ []) ((0x78 ∷ []) ∷ (0x43 ∷ []) ∷ []) (0 ∷ []);
      strings₂ = names_in (0x71 ∷ []) (1 ∷ []);
      second = showing 1 6 (0x78 ∷ []) ((0x43 ∷ []) ∷ []) (0 ∷ []);
      text = 0x61 ∷ 0x09 ∷ 0x35 ∷ 0x09 ∷ 0x37 ∷ 0x09 ∷ 0x78 ∷ 0x09 ∷ 0x43 ∷ 0x09 ∷ 0x2E ∷ 0x09 ∷ 0x2E ∷ 0x09 ∷ 0x71 ∷ 0x09 ∷ 0x2E ∷ 0x0A ∷ [];
    }
-- ID `x`, tab, `A` with REF `C`, and ID `x` with `A` and `C` and a filter `.`, tab, `.`
twins id_tabs =
    record {
      contigs = 1;
      names = names_in (0x61 ∷ []) (1 ∷ []);
      strings₁ = names_in (0x71 ∷ []) (1 ∷ []);
      first = showing 0 4 (0x78 ∷ 0x09 ∷ 0x41 ∷ []) ((0x43 ∷ []) ∷ []) [];
      strings₂ = names_in (0x2E ∷ 0x09 ∷ 0x2E ∷ []) (3 ∷ []);
      second = showing 0 4 (0x78 ∷ []) ((0x41 ∷ []) ∷ (0x43 ∷ []) ∷ []) (0 ∷ []);
      text = 0x61 ∷ 0x09 ∷ 0x35 ∷ 0x09 ∷ 0x78 ∷ 0x09 ∷ 0x41 ∷ 0x09 ∷ 0x43 ∷ 0x09 ∷ 0x2E ∷ 0x09 ∷ 0x2E ∷ 0x09 ∷ 0x2E ∷ 0x09 ∷ 0x2E ∷ 0x0A ∷ [];
    }
-- ID `.`, and no ID
twins id_dots =
    record {
      contigs = 1;
      names = names_in (0x61 ∷ []) (1 ∷ []);
      strings₁ = names_in (0x71 ∷ []) (1 ∷ []);
      first = showing 0 4 (0x2E ∷ []) ((0x41 ∷ []) ∷ []) [];
      strings₂ = names_in (0x71 ∷ []) (1 ∷ []);
      second = showing 0 4 [] ((0x41 ∷ []) ∷ []) [];
      text = 0x61 ∷ 0x09 ∷ 0x35 ∷ 0x09 ∷ 0x2E ∷ 0x09 ∷ 0x41 ∷ 0x09 ∷ 0x2E ∷ 0x09 ∷ 0x2E ∷ 0x09 ∷ 0x2E ∷ 0x09 ∷ 0x2E ∷ 0x0A ∷ [];
    }
-- alleles `A` and `C,G`, and `A`, `C` and `G`
twins commas =
    record {
      contigs = 1;
      names = names_in (0x61 ∷ []) (1 ∷ []);
      strings₁ = names_in (0x71 ∷ []) (1 ∷ []);
      first = showing 0 4 [] ((0x41 ∷ []) ∷ (0x43 ∷ 0x2C ∷ 0x47 ∷ []) ∷ []) [];
      strings₂ = names_in (0x71 ∷ []) (1 ∷ []);
      second = showing 0 4 [] ((0x41 ∷ []) ∷ (0x43 ∷ []) ∷ (0x47 ∷ []) ∷ []) [];
      text = 0x61 ∷ 0x09 ∷ 0x35 ∷ 0x09 ∷ 0x2E ∷ 0x09 ∷ 0x41 ∷ 0x09 ∷ 0x43 ∷ 0x2C ∷ 0x47 ∷ 0x09 ∷ 0x2E ∷ 0x09 ∷ 0x2E ∷ 0x09 ∷ 0x2E ∷ 0x0A ∷ [];
    }
-- alleles `A` and `.`, and `A` alone
twins allele_dots =
    record {
      contigs = 1;
      names = names_in (0x61 ∷ []) (1 ∷ []);
      strings₁ = names_in (0x71 ∷ []) (1 ∷ []);
      first = showing 0 4 [] ((0x41 ∷ []) ∷ (0x2E ∷ []) ∷ []) [];
      strings₂ = names_in (0x71 ∷ []) (1 ∷ []);
      second = showing 0 4 [] ((0x41 ∷ []) ∷ []) [];
      text = 0x61 ∷ 0x09 ∷ 0x35 ∷ 0x09 ∷ 0x2E ∷ 0x09 ∷ 0x41 ∷ 0x09 ∷ 0x2E ∷ 0x09 ∷ 0x2E ∷ 0x09 ∷ 0x2E ∷ 0x09 ∷ 0x2E ∷ 0x0A ∷ [];
    }

-- what is written of a record is accepted, shows that record, and prints as a line
pub record Prints (contigs : ℕ) (strings names : Names) (r : Shown) (text : List ℕ) : Type 0 where
  pub are_bytes_lem : Bytes (record_bytes 0 r)
  pub read : reading (under contigs) (record_bytes 0 r) ≡ accepted_as (site_for 0 r) no_gt
  pub shows : shown_of (site_for 0 r) (record_bytes 0 r) ≡ r
  pub prints : printed (under contigs) strings names (record_bytes 0 r) ≡ line text

-- a list of bytes, by a test of each
are_bytes : List ℕ → Bool
are_bytes [] = true
are_bytes (b ∷ bs) = pick (ltb b 256) (are_bytes bs) false

bytes_tested : (l : List ℕ) → are_bytes l ≡ true → Bytes l
unfolding are_bytes
bytes_tested [] h = tt
bytes_tested (b ∷ bs) h = by-test (ltb b 256) refl h (bytes_tested bs)
  where
    by-test : (c : Bool) → ltb b 256 ≡ c → pick c (are_bytes bs) false ≡ true → (are_bytes bs ≡ true → Bytes bs) → (b < 256) × Bytes bs
    by-test true e q on = (ltb-true b 256 e, on q)
    by-test false e q on = let z : ◌≡◌ {A = ℕ} 0 1 = cc in absurd (omega arith)

tested : {contigs : ℕ} {strings names : Names} {text : List ℕ} (r : Shown) → are_bytes (record_bytes 0 r) ≡ true
    → reading (under contigs) (record_bytes 0 r) ≡ accepted_as (site_for 0 r) no_gt → shown_of (site_for 0 r) (record_bytes 0 r) ≡ r
    → printed (under contigs) strings names (record_bytes 0 r) ≡ line text → Prints contigs strings names r text
tested r b h s p = record { are_bytes_lem = bytes_tested (record_bytes 0 r) b; read = h; shows = s; prints = p }

-- both print as the line
pub both_print : (c : Condition) → Prints (twins c).contigs (twins c).strings₁ (twins c).names (twins c).first (twins c).text
    × Prints (twins c).contigs (twins c).strings₂ (twins c).names (twins c).second (twins c).text
unfolding among le number bytes outside row_of width_of marked kind widened shown narrowest integer true_length keyed may_stand described present numbers shown_numbers vector vectors judged highest code_most sound field pos_wrong people_wrong qual_wrong blocks wrong_at pos_of pos_bits one_based site_at fixed times allele_bytes allele filters filtered filter info site role_of gt_now format_field so_many formats site_of genotypes_of reading elements_of flatten elements_at alone paired fields_of site_kinds site_fields genotype_fields account of_kind shown_of integer_bytes descriptor_bytes widest marked_as narrowed elements_bytes value_bytes given_bytes pair_bytes front_bytes fields_filled joined site_bytes genotype_bytes filled_front record_bytes site_for in_decimal decimal followed joined_by listed or_dot before_zero stretch_of name_of whole_of printable qual_text pos_text ref_text alt_text filter_text call_columns site_columns vcf_line printed are_bytes
both_print distinct = (tested (twins distinct).first refl refl refl refl, tested (twins distinct).second refl refl refl refl)
both_print zeros = (tested (twins zeros).first refl refl refl refl, tested (twins zeros).second refl refl refl refl)
both_print name_tabs = (tested (twins name_tabs).first refl refl refl refl, tested (twins name_tabs).second refl refl refl refl)
both_print id_tabs = (tested (twins id_tabs).first refl refl refl refl, tested (twins id_tabs).second refl refl refl refl)
both_print id_dots = (tested (twins id_dots).first refl refl refl refl, tested (twins id_dots).second refl refl refl refl)
both_print commas = (tested (twins commas).first refl refl refl refl, tested (twins commas).second refl refl refl refl)
both_print allele_dots = (tested (twins allele_dots).first refl refl refl refl, tested (twins allele_dots).second refl refl refl refl)
