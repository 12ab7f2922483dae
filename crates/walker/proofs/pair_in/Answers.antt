-- `walker::pair_in` meets its contract.
use Rattle.walker.specs.Walk.{pair_in}
use Rattle.walker.proofs.pair_in.Goals as goal

pub returns : goal.returns
unfolding pair_in
returns c = simp (← c.field_at.ensures.value, c.as_pair.ensures)
