-- `encode::store` meets its contract: law `stored`.
use Rattle.std.proofs.Common.{◌∙◌}
use Rattle.encode.proofs.Turns.{stored}
use Rattle.encode.proofs.store.Goals as goal

pub returns : goal.returns
returns g c = stored _ _ _ _ _ c.requires.0 c.requires.1 (c.copy_from_slice.ensures.after ∙ rw c.to_le_bytes.ensures)
