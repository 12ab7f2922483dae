-- `fetch::part` meets its contract.
use native.Mathlib.Omega.{arith}
use Rattle.fetch.proofs.part.Goals as goal

pub slice_bounds-result-count : goal.slice_bounds-result-count
slice_bounds-result-count c =
    let i = rw c.in-Ok.is at c.requires in
    omega (arith, i)
