-- `vcf_site::vcf_pos` meets its contract.
use mathlib.Core.Path.{◌∙◌}
use Rattle.positions.proofs.Convert.{pos_of_pos_bits}
use Rattle.words.proofs.Sign.{bits_back}
use Rattle.vcf_site.proofs.vcf_pos.Goals as goal

pub returns : goal.returns
returns c =
    let p = c.args.pos in
    let e = pos_of_pos_bits p (record { sfits = c.well_formed.0.1.1.0.1 }) in
    c.bits.ensures ∙ bits_back c.to_vcf-p.result.0 c.struct_told-1.given.0.1 ∙ rw (c.to_vcf-p.ensures, e)
