-- All claims, proved: each cites the page's proof. Rests on specs/Claims.
use Rattle.laws.specs.Claims.{Claims}
use Rattle.laws.proofs.Account.{accounts}
use Rattle.laws.proofs.Answers.{promises_fix}
use Rattle.laws.proofs.Bare.{bare}
use Rattle.laws.proofs.Building.{building}
use Rattle.laws.proofs.Choosing.{choosing_people}
use Rattle.laws.proofs.Marked.{examples}
use Rattle.laws.proofs.Reading.{readings}
use Rattle.laws.proofs.Refusals.{refusals}
use Rattle.laws.proofs.Tallying.{tallying}
use Rattle.laws.proofs.Tightening.{tightening}
use Rattle.laws.proofs.VcfLines.{vcf_lines}
use Rattle.laws.proofs.Witness.{witnessed}

pub claims : Claims
claims =
    record {
      refusals = refusals;
      reading = readings;
      building = building;
      tightening = tightening;
      choosing = choosing_people;
      tallying = tallying;
      account = accounts;
      bare = bare;
      vcf_lines = vcf_lines;
      answers = promises_fix;
      marked = examples;
      witness = witnessed;
    }
