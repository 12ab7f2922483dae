-- `vcf_calls::figure` meets its contract.
use Rattle.vcf_calls.proofs.Words.{missing_word}
use Rattle.vcf_calls.proofs.Pairs.{one_digit}
use Rattle.vcf_calls.proofs.figure.Goals as goal

pub returns-then-code-lt2 : goal.returns-then-code-lt2
returns-then-code-lt2 c = missing_word c.args.code c.if-code-lt2.true

pub returns : goal.returns
returns c = one_digit c.args.code c.if-code-lt2.false c.requires
