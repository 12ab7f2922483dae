-- An accepted record's length is that of its blocks, and lies in the list; so bytes follow it where they follow its blocks.
-- Rests on what an accepted record's front says, and on specs/Engine.
use mathlib.Core.Path.{◌≡◌, ap}
use mathlib.Core.List.{List}
use Prim.Native.Nat.{ℕ, ◌≤◌}
use native.Mathlib.Omega.{arith}
use lib.Dec.{ltb}
use lib.ListN.{length}
use Rattle.facts.specs.declared.Facts.{Facts}
use Rattle.fixed.specs.declared.Site.{Site}
use Rattle.fixed.proofs.Fits.{fits_blocks}
use Rattle.genotypes.specs.declared.Gt.{Gt}
use Rattle.record.specs.Reading.{reading, accepted_as}
use Rattle.record.proofs.Accepted.{accepted_fits}
use Rattle.cuts.specs.Engine.{goes_on, followed}

-- bytes follow an accepted record where its length is less than the list's
pub accepted_followed : (f : Facts) (s : List ℕ) (t : Site) (g : Gt) → reading f s ≡ accepted_as t g → followed s ≡ ltb t.length (length s)
unfolding followed
accepted_followed f s t g h = ap (goes_on (length s)) (fits_blocks f s t (accepted_fits f s t g h))

pub accepted_inside : (f : Facts) (s : List ℕ) (t : Site) (g : Gt) → reading f s ≡ accepted_as t g → (t.border ≤ t.length) × (t.length ≤ length s)
accepted_inside f s t g h =
    let x = accepted_fits f s t g h in
    let a = x.border in
    let b = x.whole in
    (omega arith, x.there)
