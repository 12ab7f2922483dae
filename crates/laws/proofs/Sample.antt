-- The sample record is computed. Rests on specs/Sample.
use mathlib.Core.Path.{◌≡◌, refl}
use mathlib.Core.List.{List, [], flatten}
use Prim.Native.Nat.{ℕ, ◌≤◌}
use native.Mathlib.Omega.{arith}
use lib.ListN.{length}
use Rattle.words.specs.Lists.{among}
use Rattle.words.specs.Words.{le, number, bytes, outside}
use Rattle.types.specs.Rows.{row_of, width_of}
use Rattle.types.specs.Elements.{marked, kind, widened, shown, narrowest}
use Rattle.values.specs.Values.{integer, true_length, keyed, may_stand, described, present}
use Rattle.vectors.specs.Vectors.{numbers, shown_numbers, vector, vectors, judged, elements_of}
use Rattle.vectors.specs.Sound.{highest, code_most, sound}
use Rattle.positions.specs.Positions.{pos_of, pos_bits, one_based}
use Rattle.fixed.specs.Layout.{field, pos_wrong, people_wrong, qual_wrong, most_bytes}
use Rattle.fixed.specs.Fixed.{blocks, wrong_at, site_at, fixed}
use Rattle.site.specs.Steps.{times}
use Rattle.site.specs.Alleles.{allele_bytes, allele}
use Rattle.site.specs.Filters.{filters, filtered, filter}
use Rattle.site.specs.Site.{info, site}
use Rattle.genotypes.specs.Formats.{role_of, gt_now, format_field, so_many, formats}
use Rattle.record.specs.Reading.{site_of, genotypes_of, reading}
use Rattle.shown.specs.Shown.{Pair, Field, integers}
use Rattle.fetch.specs.Fields.{alone, paired}
use Rattle.fetch.specs.Account.{fields_of, site_kinds, site_fields, genotype_fields, account, of_kind}
use Rattle.contents.specs.Contents.{elements_at, shown_of}
use Rattle.calls.specs.Calls.{slots, allele_of, alleles, people, called, without, how_many, counters, people_tally, people_of, counted}
use Rattle.tally.specs.Tally.{calls_of, tallied}
use Rattle.decimal.specs.Decimal.{in_decimal, decimal}
use Rattle.frames.specs.Text.{spaced}
use Rattle.frames.specs.Frames.{call_numbers, accepted_line, record_line}
use Rattle.encode.specs.Encode.{integer_bytes, descriptor_bytes, widest, marked_as, narrowed, elements_bytes, value_bytes}
use Rattle.build_given.specs.Given.{vectors_given, elements_number, filters_number, allele_number}
use Rattle.shown.specs.Values.{given_bytes, pair_bytes}
use Rattle.build_front.specs.Front.{fields_number}
use Rattle.shown.specs.Front.{front_bytes, fields_filled}
use Rattle.build_rules.specs.Rules.{key_number}
use Rattle.build_rules.specs.Values.{given_number}
use Rattle.build_laws.specs.Records.{All, Fit, KeepsInfo, KeepsFields, Keeps}
use Rattle.shown.specs.Records.{joined, site_bytes, genotype_bytes, filled_front, record_bytes}
use Rattle.build_laws.proofs.Builds.{keeps_tight}
use Rattle.laws.specs.Sample.{Sample, facts, sample, showing, sample_shown}
use Rattle.pieces.specs.Pieces.{followed, joined_by, listed, or_dot}
use Rattle.names.specs.Names.{before_zero, stretch_of, name_of}
use Rattle.elements.specs.Elements.{shown_by, code_call}
use Rattle.vcf_qual.specs.Qual.{whole_of, printable, qual_text}
use Rattle.vcf_site.specs.Columns.{pos_text}
use Rattle.vcf_line.specs.Line.{ref_text, alt_text, filter_text, call_columns, site_columns, vcf_line, printed}
use Rattle.vcf_calls.specs.Words.{later_words, person_word, call_of_number, slot_calls, genotype_word, vectors_of, call_words}

-- what it shows keeps the rules, and is written as its bytes
sample_bytes : record_bytes facts.people sample_shown ≡ sample
unfolding sample bytes row_of width_of kind marked narrowest integer_bytes descriptor_bytes widest marked_as narrowed elements_bytes value_bytes given_bytes pair_bytes front_bytes fields_filled joined site_bytes genotype_bytes filled_front record_bytes
sample_bytes = refl

-- filters, INFO pairs and FORMAT fields that keep the rules, beside the sample's other fields
pub record KeepsRest (filters : List ℕ) (infos : List Pair) (formats : List Field) : Type 0 where
  pub filters_fit : Fit integers filters
  pub filters_rules : filters_number facts.strings filters ≡ 0
  pub infos_most : length infos ≤ 65535
  pub infos_keep : All (KeepsInfo facts.strings) infos
  pub formats_most : length formats ≤ 255
  pub formats_keep : KeepsFields facts 2 [] formats
  pub most : length (record_bytes facts.people (showing filters infos formats)) ≤ most_bytes

pub showing_keeps : (filters : List ℕ) (infos : List Pair) (formats : List Field) → KeepsRest filters infos formats
    → Keeps facts (showing filters infos formats)
unfolding outside kind marked vector allele_bytes pos_wrong qual_wrong vectors_given elements_number allele_number given_number fields_number
showing_keeps filters infos formats k =
    record {
      bits = (omega arith, omega arith, omega arith, omega arith);
      fields = refl;
      id_fit = tt;
      id = refl;
      some = omega arith;
      alleles_most = omega arith;
      alleles = (record { fit = (omega arith, tt); some = refl; rules = refl }, (record { fit = (omega arith, tt); some = refl; rules = refl }, tt));
      filters_fit = k.filters_fit;
      filters = k.filters_rules;
      infos_most = k.infos_most;
      infos = k.infos_keep;
      formats_most = k.formats_most;
      people = λ _. omega arith;
      formats = k.formats_keep;
      most = k.most;
    }

sample_keeps : Keeps facts sample_shown
unfolding sample among outside kind marked vector filters highest code_most role_of vectors_given elements_number filters_number given_number key_number
sample_keeps =
    showing_keeps _ _ _
    (record {
      filters_fit = (omega arith, tt);
      filters_rules = refl;
      infos_most = omega arith;
      infos_keep = (record { fit = (omega arith, tt); key = omega arith; inside = refl; rules = refl }, tt);
      formats_most = omega arith;
      formats_keep = (
        record {
          fit = (omega arith, (omega arith, (omega arith, (omega arith, tt))));
          key = omega arith;
          inside = refl;
          once = refl;
          whole = λ _. refl;
          count = refl;
          rules = refl;
        },
        tt,
      );
      most = rw sample_bytes short;
    })
  where
    short : length sample ≤ most_bytes
    short = omega arith

pub sample_read : Sample
unfolding sample among le number outside row_of width_of marked kind widened shown integer true_length keyed may_stand described present numbers shown_numbers vector vectors judged highest code_most sound field pos_wrong people_wrong qual_wrong blocks wrong_at pos_of pos_bits site_at fixed times allele_bytes allele filters filtered filter info site role_of gt_now format_field so_many formats site_of genotypes_of reading elements_of flatten elements_at alone paired fields_of site_kinds site_fields genotype_fields account of_kind shown_of slots allele_of alleles people called without how_many counters people_tally people_of counted calls_of tallied in_decimal decimal spaced call_numbers accepted_line record_line one_based followed joined_by listed or_dot before_zero stretch_of name_of shown_by code_call whole_of printable qual_text pos_text ref_text alt_text filter_text later_words person_word call_of_number slot_calls genotype_word vectors_of call_words call_columns site_columns vcf_line printed
sample_read = record { read = refl; shows = refl; built = sample_bytes; tight = rw sample_bytes at (keeps_tight facts sample_shown sample_keeps); tally = refl; line = refl; vcf = refl }
