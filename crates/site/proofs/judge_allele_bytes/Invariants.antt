-- `site::judge_allele_bytes` meets its contract. The loop's invariant: the bytes that are left decide.
use Rattle.std.proofs.Common.{◌≡◌, drop}
use Rattle.site.specs.Alleles.{allele_bytes}
use Rattle.site.proofs.judge_allele_bytes.Given as goal

abbrev pub invariant-loop-at : goal.invariant-loop-at
invariant-loop-at l = allele_bytes 0 l.part ≡ allele_bytes l.at (drop l.at l.part)
