-- The laws of the tally, proved: each cites the file of tally_laws that did the work. Rests on specs/Tallying.
use mathlib.Core.Path.{◌≡◌, ap}
use mathlib.Core.List.{List}
use Prim.Native.Nat.{ℕ, suc, ◌≤◌}
use native.Mathlib.Omega.{arith}
use Rattle.words.specs.Words.{Bytes}
use Rattle.facts.specs.declared.Facts.{Facts}
use Rattle.fixed.specs.declared.Site.{Site}
use Rattle.genotypes.specs.declared.Gt.{Gt}
use Rattle.record.specs.Reading.{reading, accepted_as}
use Rattle.choose_laws.proofs.Divided.{tallied_accepted}
use Rattle.tally_laws.proofs.Gt.{accepted_gt_sound}
use Rattle.tally_laws.proofs.Slots.{slots_people, tally_slots, tally_with}
use Rattle.tally_laws.proofs.Calls.{tally_says}
use Rattle.laws.specs.Tallying.{Tally, Tallying}

tally : (f : Facts) (s : List ℕ) (t : Site) (g : Gt) → Bytes s → reading f s ≡ accepted_as t g → t.alleles ≤ 64 → Tally f s t g
tally f s t g b h a =
    let e = tallied_accepted f s t g h a in
    let k = accepted_gt_sound f s t g b h in
    record {
      counted = ap (λ r. r.answer) e;
      slots = rw e (tally_slots t.people t.alleles s g a k);
      people = rw e (tally_with t.people t.alleles s g k);
      missing = rw e (tally_says t.people t.alleles s g 0 k (omega arith));
      allele = λ i q. rw e (tally_says t.people t.alleles s g (suc i) k (omega arith));
    }

pub tallying : Tallying
tallying =
    record {
      tallies = tally;
      before = λ f s t g b h. slots_people t.people t.alleles s g (accepted_gt_sound f s t g b h);
    }
