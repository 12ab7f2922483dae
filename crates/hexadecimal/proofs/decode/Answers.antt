-- `decode`: each answer is that of the line as it was counted. Rests on proofs/Frames.
use Rattle.std.proofs.Common.{rules, ◌∙◌}
use Rattle.hexadecimal.proofs.Frames.{frame_counted, frame_says, kept, filled}
use Rattle.hexadecimal.proofs.decode.Goals as goal

pub returns-in_err-n-clause-told : goal.returns-in_err-n-clause-told
returns-in_err-n-clause-told c = rw (← frame_counted) (search rules)

pub returns-in_err-n-clause-written : goal.returns-in_err-n-clause-written
returns-in_err-n-clause-written c = kept _ _ _ (c.in_err-n.ensures.value ∙ frame_counted _ _)

pub returns-clause-told : goal.returns-clause-told
returns-clause-told c = rw (← frame_counted) (search rules)

pub returns-clause-written : goal.returns-clause-written
returns-clause-written c = rw c.store.ensures (filled _ _ _ _ (c.in_ok-n.ensures.value ∙ frame_counted _ _) (frame_says _))
