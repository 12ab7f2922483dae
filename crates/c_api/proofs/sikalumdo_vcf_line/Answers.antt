-- `c_api::sikalumdo_vcf_line` meets its contract.
use mathlib.Core.Path.{◌∙◌, ap}
use Rattle.c_answers.specs.Told.{line_number}
use Rattle.c_api.proofs.sikalumdo_vcf_line.Goals as goal

pub returns : goal.returns
returns c =
    record {
      told = c.tell_one.ensures ∙ ap line_number c.write_line.ensures.told;
      written = c.write_line.ensures.written;
    }
