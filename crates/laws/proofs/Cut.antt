-- What is chosen of the sample record is computed. Rests on specs/Cut.
use mathlib.Core.Path.{◌≡◌, refl}
use mathlib.Core.List.{[], ◌∷◌}
use Prim.Native.Nat.{ℕ, zero, suc, ◌<◌}
use native.Mathlib.Omega.{arith}
use Rattle.choose_laws.specs.Divisions.{Division, other}
use Rattle.words.specs.Lists.{among}
use Rattle.words.specs.Words.{le, number, bytes, outside}
use Rattle.types.specs.Rows.{row_of, width_of}
use Rattle.types.specs.Elements.{marked, kind, widened, shown}
use Rattle.values.specs.Values.{integer, true_length, keyed, may_stand, described, present}
use Rattle.vectors.specs.Vectors.{numbers, shown_numbers, vector, vectors, judged}
use Rattle.vectors.specs.Sound.{highest, code_most, sound}
use Rattle.positions.specs.Positions.{pos_of, pos_bits}
use Rattle.fixed.specs.Layout.{field, pos_wrong, people_wrong, qual_wrong}
use Rattle.fixed.specs.Fixed.{blocks, wrong_at, site_at, fixed}
use Rattle.site.specs.Steps.{times}
use Rattle.site.specs.Alleles.{allele_bytes, allele}
use Rattle.site.specs.Filters.{filters, filtered, filter}
use Rattle.site.specs.Site.{info, site}
use Rattle.genotypes.specs.Formats.{role_of, gt_now, format_field, so_many, formats}
use Rattle.record.specs.Reading.{site_of, genotypes_of, reading}
use Rattle.fetch.specs.Fields.{alone, paired}
use Rattle.fetch.specs.Account.{fields_of, site_kinds, site_fields, genotype_fields, account, of_kind, numbered}
use Rattle.fetch.specs.Fetch.{field_of, found, fetched}
use Rattle.calls.specs.Calls.{slots, allele_of, alleles, people, called, without, how_many, counters, people_tally, people_of, counted}
use Rattle.tally.specs.Tally.{calls_of, tallied}
use Rattle.choice.specs.Choice.{ascending_from, chosen_parts}
use Rattle.choose.specs.Chosen.{chosen_fields, chosen_block, chosen_site, chosen_record}
use Rattle.choose.specs.Choose.{choosing}
use Rattle.laws.specs.Sample.{sample}
use Rattle.laws.specs.Cut.{Cut, second}

two : Division 2 (0 ∷ []) (1 ∷ [])
unfolding among ascending_from
two = record { first = refl; second = refl; once = λ p h. once p h }
  where
    once : (p : ℕ) → p < 2 → among p (0 ∷ []) ≡ other (among p (1 ∷ []))
    once zero h = refl
    once (suc zero) h = refl
    once (suc (suc p)) h = absurd (omega arith)

pub sample_cut : Cut
unfolding sample second among le number bytes outside row_of width_of marked kind widened shown integer true_length keyed may_stand described present numbers shown_numbers vector vectors judged highest code_most sound field pos_wrong people_wrong qual_wrong blocks wrong_at pos_of pos_bits site_at fixed times allele_bytes allele filters filtered filter info site role_of gt_now format_field so_many formats site_of genotypes_of reading paired alone fields_of site_kinds site_fields genotype_fields account of_kind numbered field_of found fetched slots allele_of alleles people called without how_many counters people_tally people_of counted calls_of tallied ascending_from chosen_parts chosen_fields chosen_block chosen_site chosen_record choosing
sample_cut =
    record {
      bytes = refl;
      gt = refl;
      tally = refl;
      divided = two;
      everybody = refl;
      nobody = refl;
      chosen = refl;
      short = refl;
      twice = refl;
      high = refl;
      unread = refl;
    }
