-- `walker::next_at` meets its contract.
use Rattle.walker.proofs.next_at.Goals as goal

pub returns : goal.returns
returns c = simp (← c.pair_at.ensures, c.after.ensures)
