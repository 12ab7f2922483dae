-- `site::alleles_at` meets its contract.
use Rattle.std.proofs.Common.{rules}
use Rattle.site.specs.Alleles.{allele}
use Rattle.site.proofs.alleles_at.Goals as goal

pub returns : goal.returns
returns c =
    let after = c.times.ensures allele c.args.block.now (λ at r p. search rules) in
    record { value = after.0; step_inside = after.1 }
