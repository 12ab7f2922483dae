-- `fixed::field_at` meets its contract.
use mathlib.Core.Path.{◌∙◌}
use native.Mathlib.Omega.{arith}
use lib.ListN.{drop}
use Rattle.words.proofs.Words.{number_part}
use Rattle.fixed.specs.Layout.{field}
use Rattle.fixed.proofs.field_at.Goals as goal

pub returns : goal.returns
unfolding field
returns c = c.word_at.ensures ∙ number_part 4 (drop c.args.at c.args.s.now) (omega arith)
