-- What is fetched of the sample record is computed. Rests on specs/Fetched.
use mathlib.Core.Path.{refl}
use Rattle.words.specs.Lists.{among}
use Rattle.words.specs.Words.{le, number, outside}
use Rattle.types.specs.Rows.{row_of, width_of}
use Rattle.types.specs.Elements.{marked, kind, widened, shown}
use Rattle.values.specs.Values.{integer, true_length, keyed, may_stand, described, present}
use Rattle.vectors.specs.Vectors.{numbers, shown_numbers, vector, vectors, judged}
use Rattle.vectors.specs.Sound.{highest, code_most, sound}
use Rattle.fixed.specs.Layout.{field, pos_wrong, people_wrong, qual_wrong}
use Rattle.fixed.specs.Fixed.{blocks, wrong_at, site_at, fixed}
use Rattle.site.specs.Steps.{times}
use Rattle.site.specs.Alleles.{allele_bytes, allele}
use Rattle.site.specs.Filters.{filters, filtered, filter}
use Rattle.site.specs.Site.{info, site}
use Rattle.genotypes.specs.Formats.{role_of, gt_now, format_field, so_many, formats}
use Rattle.record.specs.Reading.{site_of, genotypes_of, reading}
use Rattle.fetch.specs.Fields.{alone, paired}
use Rattle.fetch.specs.Account.{fields_of, site_kinds, site_fields, genotype_fields, account, of_kind, numbered}
use Rattle.fetch.specs.Fetch.{field_of, found, fetched}
use Rattle.laws.specs.Sample.{sample}
use Rattle.laws.specs.Fetched.{Fetched}

pub sample_fetched : Fetched
unfolding sample among le number outside row_of width_of marked kind widened shown integer true_length keyed may_stand described present numbers shown_numbers vector vectors judged highest code_most sound field pos_wrong people_wrong qual_wrong blocks wrong_at site_at fixed times allele_bytes allele filters filtered filter info site role_of gt_now format_field so_many formats site_of genotypes_of reading alone paired fields_of site_kinds site_fields genotype_fields account of_kind numbered field_of found fetched
sample_fetched =
    record {
      id = refl;
      first = refl;
      second = refl;
      filter = refl;
      info = refl;
      format = refl;
      one_id = refl;
      one_filter = refl;
      two_alleles = refl;
      one_info = refl;
      one_format = refl;
      unread = refl;
      id_bytes = refl;
      first_bytes = refl;
      second_bytes = refl;
      filter_bytes_lem = refl;
      info_bytes_lem = refl;
      format_bytes_lem = refl;
      no_bytes = refl;
    }
