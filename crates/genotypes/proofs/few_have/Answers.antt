-- `genotypes::few_have` meets its contract.
use Rattle.std.proofs.Common.{◌∙◌, eqb, rules, tests}
use Rattle.std.proofs.lemmas.Iterator.Adapters.{YieldsList-from_rev_slice}
use Rattle.std.proofs.lemmas.Iterator.Search.{any_from_yields_List}
use Rattle.genotypes.proofs.Earlier.{among_reversed}
use Rattle.genotypes.proofs.few_have.Goals as goal

pub returns : goal.returns
returns c =
    any_from_yields_List (λ k. eqb k c.args.key) _ _ _ c.any.ensures.ran (YieldsList-from_rev_slice c.args.few.now cc) (λ x b q k. search (rules, tests))
    ∙ among_reversed c.args.key c.args.few.now
