-- The sample record with a bare 00 for three of its values is computed. Rests on specs/BareSample and proofs/Sample.
use mathlib.Core.List.{flatten}
use mathlib.Core.Path.{◌≡◌, refl}
use Prim.Native.Nat.{◌≤◌}
use native.Mathlib.Omega.{arith}
use lib.ListN.{length, replicate}
use Rattle.words.specs.Lists.{among}
use Rattle.words.specs.Words.{le, number, bytes, outside}
use Rattle.types.specs.Rows.{row_of, width_of}
use Rattle.types.specs.Elements.{marked, kind, widened, shown, narrowest}
use Rattle.values.specs.Values.{integer, true_length, keyed, may_stand, described, present}
use Rattle.vectors.specs.Vectors.{numbers, shown_numbers, vector, vectors, judged, elements_of}
use Rattle.vectors.specs.Sound.{highest, code_most, sound}
use Rattle.positions.specs.Positions.{pos_of, pos_bits}
use Rattle.fixed.specs.Layout.{most_bytes, field, pos_wrong, people_wrong, qual_wrong}
use Rattle.fixed.specs.Fixed.{blocks, wrong_at, site_at, fixed}
use Rattle.site.specs.Steps.{times}
use Rattle.site.specs.Alleles.{allele_bytes, allele}
use Rattle.site.specs.Filters.{filters, filtered, filter}
use Rattle.site.specs.Site.{info, site}
use Rattle.genotypes.specs.Formats.{role_of, gt_now, format_field, so_many, formats}
use Rattle.record.specs.Reading.{site_of, genotypes_of, reading}
use Rattle.fetch.specs.Fields.{alone, paired}
use Rattle.fetch.specs.Account.{fields_of, site_kinds, site_fields, genotype_fields, account, of_kind, numbered}
use Rattle.fetch.specs.Fetch.{field_of, found, fetched}
use Rattle.contents.specs.Contents.{elements_at, shown_of}
use Rattle.walker.specs.Walk.{pair_in, pair_at, opened}
use Rattle.tally.specs.Tally.{calls_of, tallied}
use Rattle.choice.specs.Choice.{chosen_parts}
use Rattle.choose.specs.Chosen.{chosen_fields, chosen_block, chosen_site, chosen_record}
use Rattle.encode.specs.Encode.{integer_bytes, descriptor_bytes, widest, marked_as, narrowed, elements_bytes, value_bytes}
use Rattle.build_given.specs.Given.{vectors_given, elements_number, filters_number}
use Rattle.shown.specs.Values.{given_bytes, pair_bytes}
use Rattle.shown.specs.Front.{front_bytes, fields_filled}
use Rattle.build_rules.specs.Rules.{key_number}
use Rattle.build_rules.specs.Values.{given_number}
use Rattle.build_laws.specs.Records.{Keeps}
use Rattle.shown.specs.Records.{joined, site_bytes, genotype_bytes, filled_front, record_bytes}
use Rattle.build_laws.specs.Builds.{Tight}
use Rattle.build_laws.proofs.Builds.{keeps_tight}
use Rattle.bare_laws.specs.Ones.{value_one, pair_one, ones_of, with_ones}
use Rattle.laws.specs.BareSample.{BareSample, bare_sample, one_sample, bare_site, empty_shown}
use Rattle.laws.specs.Sample.{facts}
use Rattle.laws.proofs.Bare.{bare}
use Rattle.laws.proofs.Sample.{showing_keeps}

-- what it shows is written with 01 for each value
empty_bytes : record_bytes facts.people empty_shown ≡ one_sample
unfolding one_sample bytes row_of width_of kind marked narrowest integer_bytes descriptor_bytes widest marked_as narrowed elements_bytes value_bytes given_bytes pair_bytes front_bytes fields_filled joined site_bytes genotype_bytes filled_front record_bytes
empty_bytes = refl

empty_keeps : Keeps facts empty_shown
unfolding one_sample among outside vector filters role_of vectors_given elements_number filters_number given_number key_number
empty_keeps =
    showing_keeps _ _ _
    (record {
      filters_fit = tt;
      filters_rules = refl;
      infos_most = omega arith;
      infos_keep = (record { fit = tt; key = omega arith; inside = refl; rules = refl }, tt);
      formats_most = omega arith;
      formats_keep = (record { fit = tt; key = omega arith; inside = refl; once = refl; whole = λ _. refl; count = refl; rules = refl }, tt);
      most = rw empty_bytes short;
    })
  where
    short : length one_sample ≤ most_bytes
    short = omega arith

-- with 01 in place of each 00 it is those bytes, and they are tight
ones : with_ones bare_site bare_sample ≡ one_sample
unfolding bare_sample one_sample le number row_of width_of marked kind widened shown integer true_length may_stand described present value_one pair_one ones_of site_kinds with_ones
ones = refl

tight : Tight facts (with_ones bare_site bare_sample)
tight = rw (ones, ← empty_bytes) (keeps_tight facts empty_shown empty_keeps)

pub bare_sample_lem : BareSample
unfolding bare_sample among le number bytes outside row_of width_of marked kind widened shown integer true_length keyed may_stand described present numbers shown_numbers vector vectors judged highest code_most sound field pos_wrong people_wrong qual_wrong blocks wrong_at pos_of pos_bits site_at fixed times allele_bytes allele filters filtered filter info site role_of gt_now format_field so_many formats site_of genotypes_of reading elements_of flatten elements_at shown_of alone paired fields_of site_kinds site_fields genotype_fields account of_kind numbered field_of found fetched pair_in pair_at opened calls_of tallied chosen_parts chosen_fields chosen_block chosen_site chosen_record
bare_sample_lem =
    record {
      read = refl;
      shows = refl;
      filter = refl;
      info = refl;
      format = refl;
      no_bytes = refl;
      first = refl;
      pair = refl;
      end = refl;
      tally = refl;
      chosen = refl;
      ones = ones;
      tight = tight;
      again = rw ones at (bare.again facts bare_sample (replicate 44 0) bare_site _ refl tight (omega arith));
    }
