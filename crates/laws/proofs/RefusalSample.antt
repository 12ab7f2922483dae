-- The refusals of the spoilt sample, and of each turn, are computed. Rests on specs/RefusalSample.
use mathlib.Core.Path.{refl}
use mathlib.Core.List.{flatten}
use Rattle.words.specs.Lists.{among}
use Rattle.words.specs.Words.{le, number, bytes, outside}
use Rattle.types.specs.Rows.{row_of, width_of}
use Rattle.types.specs.Elements.{marked, kind, widened, shown, narrowest}
use Rattle.encode.specs.Encode.{integer_bytes, descriptor_bytes, widest, marked_as, narrowed, elements_bytes, value_bytes}
use Rattle.values.specs.Values.{integer, true_length, keyed, may_stand, described, present}
use Rattle.vectors.specs.Vectors.{numbers, shown_numbers, vector, vectors, judged, elements_of}
use Rattle.vectors.specs.Sound.{highest, code_most, sound}
use Rattle.positions.specs.Positions.{pos_of, pos_bits, one_based}
use Rattle.fixed.specs.Layout.{field, pos_wrong, people_wrong, qual_wrong}
use Rattle.fixed.specs.Fixed.{blocks, wrong_at, site_at, fixed}
use Rattle.shown.specs.Values.{given_bytes, pair_bytes}
use Rattle.site.specs.Steps.{times}
use Rattle.site.specs.Alleles.{allele_bytes, allele}
use Rattle.site.specs.Filters.{filters, filtered, filter}
use Rattle.site.specs.Site.{info, site}
use Rattle.genotypes.specs.Formats.{role_of, gt_now, format_field, so_many, formats}
use Rattle.record.specs.Reading.{site_of, genotypes_of, reading}
use Rattle.fetch.specs.Fields.{alone, paired}
use Rattle.fetch.specs.Account.{fields_of, site_kinds, site_fields, genotype_fields, account, of_kind, numbered}
use Rattle.fetch.specs.Fetch.{field_of, found}
use Rattle.contents.specs.Contents.{elements_at, shown_of}
use Rattle.tally.specs.Tally.{tallied}
use Rattle.choice.specs.Choice.{ascending_from, chosen_parts}
use Rattle.choose.specs.Chosen.{chosen_fields, chosen_block, chosen_site, chosen_record}
use Rattle.choose.specs.Choose.{choosing}
use Rattle.decimal.specs.Decimal.{in_decimal, decimal}
use Rattle.pieces.specs.Pieces.{followed, joined_by, listed, or_dot}
use Rattle.names.specs.Names.{before_zero, stretch_of, name_of}
use Rattle.elements.specs.Elements.{shown_by, code_call}
use Rattle.vcf_qual.specs.Qual.{whole_of, printable, qual_text}
use Rattle.vcf_calls.specs.Words.{later_words, person_word, call_of_number, slot_calls, genotype_word, vectors_of, call_words}
use Rattle.vcf_site.specs.Columns.{pos_text}
use Rattle.vcf_line.specs.Line.{ref_text, alt_text, filter_text, call_columns, site_columns, vcf_line, printed, line_answer}
use Rattle.build_front.specs.Front.{fields_number}
use Rattle.build_append.specs.Append.{first_of, room_number}
use Rattle.build_given.specs.Given.{vectors_given, elements_number, filters_number, allele_number}
use Rattle.build_rules.specs.Values.{given_number}
use Rattle.build_rules.specs.Rules.{ordered, count_number, reach_number, key_number, people_number, repeat_number, gt_number, list_number, wrong_begin, wrong_id, wrong_allele, wrong_filter, wrong_info, format_order, format_key, format_shape, wrong_end}
use Rattle.build.specs.Order.{turned, appended}
use Rattle.build.specs.Turns.{begin_number, begun, id_number, id_given, allele_rules, allele_given, filter_rules, filter_given, info_key, info_rules, info_given, format_count, format_rules, format_given, end_number, built}
use Rattle.laws.specs.Sample.{sample}
use Rattle.laws.specs.RefusalSample.{many_alleles, RefusalSample}

pub refusal_sample : RefusalSample
unfolding flatten among le number bytes outside row_of width_of marked kind widened shown narrowest integer_bytes descriptor_bytes widest marked_as narrowed elements_bytes value_bytes integer true_length keyed may_stand described present numbers shown_numbers vector vectors judged highest code_most sound field pos_wrong people_wrong qual_wrong blocks wrong_at site_at fixed given_bytes pair_bytes times allele_bytes allele filters filtered filter info site role_of gt_now format_field so_many formats site_of genotypes_of reading alone paired fields_of site_kinds site_fields genotype_fields account of_kind numbered field_of found tallied ascending_from chosen_parts chosen_fields chosen_block chosen_site chosen_record choosing pos_of pos_bits one_based elements_of elements_at shown_of in_decimal decimal followed joined_by listed or_dot before_zero stretch_of name_of shown_by code_call whole_of printable qual_text later_words person_word call_of_number slot_calls genotype_word vectors_of call_words pos_text ref_text alt_text filter_text call_columns site_columns vcf_line printed line_answer fields_number first_of room_number vectors_given elements_number filters_number allele_number given_number ordered count_number reach_number key_number people_number repeat_number gt_number list_number wrong_begin wrong_id wrong_allele wrong_filter wrong_info format_order format_key format_shape wrong_end turned appended begin_number begun id_number id_given allele_rules allele_given filter_rules filter_given info_key info_rules info_given format_count format_rules format_given end_number built sample many_alleles
refusal_sample =
    record {
      reads = refl;
      fetches = refl;
      tallies = refl;
      chooses = refl;
      chooses_short = refl;
      prints = refl;
      begins = refl;
      id = refl;
      allele = refl;
      filter = refl;
      info = refl;
      format = refl;
      ends = refl;
    }
