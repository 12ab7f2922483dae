-- `build_append::put_head` meets its contract.
use Rattle.build_append.proofs.Writing.{filled_none}
use Rattle.build_append.proofs.put_head.Goals as goal

pub returns-in-Alone : goal.returns-in-Alone
returns-in-Alone c = rw c.in-Alone.is (filled_none _ _)
