-- The laws of reading, proved: each cites the file that has its proof. Rests on specs/Reading.
use Rattle.contents.proofs.Fetched.{shown_fetched}
use Rattle.record_laws.proofs.Accepts.{rules_reads}
use Rattle.record_laws.proofs.After.{after_record, own_record, found_after, shown_after}
use Rattle.record_laws.proofs.Told.{accepted_told, accepted_filled}
use Rattle.record_laws.proofs.Rules.{accepted_rules}
use Rattle.laws.specs.Reading.{Readings}

pub readings : Readings
readings =
    record {
      tells = accepted_told;
      shows = shown_fetched;
      rules = accepted_rules;
      accepts = rules_reads;
      after = after_record;
      alone = own_record;
      found_after = found_after;
      shown_after = shown_after;
      filled = accepted_filled;
    }
