-- `tally::refused_tally` meets its contract.
use Rattle.tally.proofs.refused_tally.Goals as goal

pub returns : goal.returns
returns c = simp c.without_all.ensures
