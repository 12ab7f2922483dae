-- The tallies of two parts of an accepted record add up. Rests on proofs/Accepted for what the chosen records' GT is, and on proofs/Divided.
use mathlib.Core.Path.{◌≡◌, refl, ap}
use mathlib.Core.List.{List, [], ◌∷◌}
use Prim.Native.Nat.{ℕ, ◌≤◌}
use lib.ListN.{length}
use Rattle.words.specs.Words.{Bytes}
use Rattle.facts.specs.declared.Facts.{Facts}
use Rattle.fixed.specs.declared.Site.{Site}
use Rattle.genotypes.specs.declared.Gt.{Gt}
use Rattle.record.specs.Reading.{reading, accepted_as}
use Rattle.calls.specs.Totals.{together}
use Rattle.tally.specs.Tally.{tallied}
use Rattle.choose.specs.Chosen.{chosen_record}
use Rattle.choose_laws.specs.Releases.{for_people}
use Rattle.choose_laws.specs.Divisions.{Division}
use Rattle.choose_laws.proofs.Accepted.{ReleasedGt, release}
use Rattle.choose_laws.proofs.Divided.{Part, kept, none, tallied_divided}

-- what is kept of GT in a chosen record: the chosen people's elements, or nothing where nobody is chosen
part : (t : Site) (cs s : List ℕ) (g g' : Gt) → ReleasedGt t cs s g g' → Part g t.people s cs g' (chosen_record t cs s)
part t [] s g g' h = none refl (ap (λ (x : Gt). x.len) h)
part t (c ∷ cs) s g g' h = kept h.code h.len h.inside (rw (h.code, h.len) h.elements)

pub tallied_sum : (f : Facts) (s : List ℕ) (t : Site) (g : Gt) (cs ds : List ℕ) → Bytes s → reading f s ≡ accepted_as t g → t.alleles ≤ 64
    → Division t.people cs ds
    → (tallied f s).calls
    ≡ together (tallied (for_people (length cs) f) (chosen_record t cs s)).calls (tallied (for_people (length ds) f) (chosen_record t ds s)).calls
tallied_sum f s t g cs ds b h a d =
    let x = release f s t g cs b h d.first in
    let y = release f s t g ds b h d.second in
    tallied_divided f s t g cs ds x.gt y.gt h a d x.read y.read (part t cs s g x.gt x.same) (part t ds s g y.gt y.same)
