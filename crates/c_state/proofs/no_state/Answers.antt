-- `c_state::no_state` meets its contract.
use mathlib.Core.Path.{refl}
use Rattle.build.specs.Turns.{fresh_state}
use Rattle.c_state.proofs.no_state.Goals as goal

pub returns : goal.returns
unfolding fresh_state
returns c = refl
