-- `c_api::sikalumdo_vcf_pos` meets its contract.
use mathlib.Core.Path.{◌∙◌}
use Rattle.words.proofs.Sign.{back}
use Rattle.c_api.proofs.sikalumdo_vcf_pos.Goals as goal

pub returns : goal.returns
returns c =
    back c.to_vcf-p.result.0 (record { sfits = c.struct_told-1.given.0.1 })
    ∙ rw (← c.from_bits.ensures) c.to_vcf-p.ensures
