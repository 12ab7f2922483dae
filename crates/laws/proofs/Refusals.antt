-- The laws of refusals, proved: each cites the file of refusal_laws that did the work. Rests on specs/Refusals.
use mathlib.Core.Path.{refl}
use Rattle.words.specs.Lists.{among}
use Rattle.elements.specs.Elements.{element_at}
use Rattle.walker.specs.Walk.{pair_at}
use Rattle.refusal_laws.specs.Numbers.{all_give, table}
use Rattle.refusal_laws.proofs.Among.{among_wider}
use Rattle.refusal_laws.proofs.Reading.{reading_refused}
use Rattle.refusal_laws.proofs.AfterReading.{field_refused, found_refused, fetched_refused, opened_refused, tallied_refused, choosing_refused, line_refused}
use Rattle.refusal_laws.proofs.Turns.{made_of, begun_refuses, id_refuses, allele_refuses, filter_refuses, info_refuses, format_refuses, end_refuses}
use Rattle.refusal_laws.proofs.Answers.{reading_answered, found_answered, field_answered, opening_halves, pair_answered, shown_halves, tally_answered, choosing_answered, line_answered, fresh_answered, turn_answered}
use Rattle.laws.specs.Refusals.{Refusals}

pub refusals : Refusals
unfolding among
refusals =
    record {
      numbers = λ n. (among_wider n all_give table refl, among_wider n table all_give refl);
      reads = reading_refused;
      fetches = λ f kind n s r h. (found_refused f kind n s r h, fetched_refused f kind n s r h);
      fetches_again = field_refused;
      opens = opened_refused;
      tallies = tallied_refused;
      chooses = choosing_refused;
      prints = line_refused;
      turns = made_of;
      begins = begun_refuses;
      id = id_refuses;
      allele = allele_refuses;
      filter = filter_refuses;
      info = info_refuses;
      format = format_refuses;
      ends = end_refuses;
      read_told = reading_answered;
      fetch_told = found_answered;
      field_told = field_answered;
      shown_told = λ code index part. shown_halves (element_at code index part);
      tally_told = tally_answered;
      choose_told = choosing_answered;
      line_told = line_answered;
      opening_told = opening_halves;
      pair_told = λ s at out. pair_answered (pair_at s at) out;
      fresh_told = fresh_answered;
      turn_told = turn_answered;
    }
