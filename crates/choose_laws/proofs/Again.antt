-- Choosing from a choice is choosing once. Rests on proofs/Choices, proofs/Filled and proofs/Sites.
use mathlib.Core.Path.{◌≡◌, refl, sym, ◌∙◌, ap}
use mathlib.Core.List.{List, [], ◌∷◌}
use mathlib.Core.Bool.{true}
use Prim.Native.Nat.{ℕ, zero, suc, ◌-◌, ◌*◌, ◌≤◌}
use native.Mathlib.Omega.{arith}
use lib.ListN.{length, get_or, take, drop, length-map}
use lib.Seq.{take-length, sets}
use Rattle.words.specs.Words.{bytes}
use Rattle.words.proofs.Words.{length_bytes}
use Rattle.types.specs.Rows.{width_of}
use Rattle.fixed.specs.Layout.{indiv_at, people_at, members_of}
use Rattle.facts.specs.declared.Facts.{Facts}
use Rattle.fixed.specs.declared.Site.{Site}
use Rattle.genotypes.specs.declared.Gt.{Gt}
use Rattle.record.specs.Reading.{reading, accepted_as}
use Rattle.choice.specs.Choice.{ascending}
use Rattle.choose.specs.Choose.{choosing}
use Rattle.choose.specs.Chosen.{chosen_fields, kept_formats, chosen_block, chosen_site, chosen_record}
use Rattle.choice.proofs.Choice.{ascends}
use Rattle.choose_laws.specs.Releases.{for_people, released_site, composed}
use Rattle.choose_laws.proofs.Choices.{ascending_composed, chosen_parts_composed}
use Rattle.choose_laws.proofs.Filled.{Filled, opened, filled}
use Rattle.choose_laws.proofs.Kept.{room, kept}
use Rattle.choose_laws.proofs.Sets.{sets_again, sets_swap}
use Rattle.choose_laws.proofs.Sites.{take_chosen_record, drop_chosen_record}

-- FORMAT fields chosen twice, at whatever place the chosen ones stand
pub chosen_fields_composed : (people n at at' : ℕ) (cs ds l : List ℕ) → ascending people cs ≡ true
    → ascending (length cs) ds ≡ true → Filled people n at l
    → chosen_fields (length cs) ds n at' (chosen_fields people cs n at l) ≡ chosen_fields people (composed cs ds) n at l
unfolding chosen_fields
chosen_fields_composed people zero at at' cs ds l p q h = refl
chosen_fields_composed people (suc n) at at' cs ds l p q h =
    let m = drop (h.first - at) l in
    let rest = chosen_fields people cs n h.stop (drop (h.stop - at) l) in
    let k = kept people at at' cs l rest h p in
    rw (
      h.here,
      k.here,
      k.head,
      k.elements,
      k.rest,
      chosen_parts_composed (h.len * width_of h.code) 0 people cs ds m rest p (room people at l h) q,
      chosen_fields_composed people n h.stop _ cs ds (drop (h.stop - at) l) p q h.rest,
    )

-- the genotype block of the chosen record
pub block_chosen_record : (t : Site) (cs s : List ℕ) → t.border ≤ length s
    → drop t.border (take (length (chosen_record t cs s)) (chosen_record t cs s)) ≡ chosen_block t cs s
block_chosen_record t cs s h = ap (drop t.border) (take-length (chosen_record t cs s)) ∙ drop_chosen_record t cs s h

-- what is kept of what is kept
kept_composed : (cs ds : List ℕ) (formats : ℕ) → ascending (length cs) ds ≡ true
    → kept_formats ds (kept_formats cs formats) ≡ kept_formats (composed cs ds) formats
kept_composed cs [] formats h = refl
kept_composed [] (d ∷ ds) formats h = let x = (ascends 0 0 d ds h).below in absurd (omega arith)
kept_composed (c ∷ cs) (d ∷ ds) formats h = refl

fields_again : (people formats at : ℕ) (cs ds l : List ℕ) → ascending people cs ≡ true → ascending (length cs) ds ≡ true
    → Filled people formats at l
    → chosen_fields (length cs) ds (kept_formats ds (kept_formats cs formats)) at (chosen_fields people cs (kept_formats cs formats) at l)
    ≡ chosen_fields people (composed cs ds) (kept_formats (composed cs ds) formats) at l
unfolding chosen_fields
fields_again people formats at cs [] l p q h = refl
fields_again people formats at [] (d ∷ ds) l p q h = let x = (ascends 0 0 d ds q).below in absurd (omega arith)
fields_again people formats at (c ∷ cs) (d ∷ ds) l p q h = chosen_fields_composed people formats at at (c ∷ cs) (d ∷ ds) l p q h

block_again : (t : Site) (cs ds s : List ℕ) → t.border ≤ length s → ascending t.people cs ≡ true
    → ascending (length cs) ds ≡ true → Filled t.people t.formats t.border (drop t.border (take t.length s))
    → chosen_block (released_site cs s t) ds (chosen_record t cs s) ≡ chosen_block t (composed cs ds) s
unfolding chosen_block
block_again t cs ds s b p q h =
    rw (block_chosen_record t cs s b) (fields_again t.people t.formats t.border cs ds (drop t.border (take t.length s)) p q h)

-- two numbers written at two places, and then two others there
stores_again : (l : List ℕ) (a b c d : ℕ)
    → sets (sets (sets (sets l indiv_at (bytes 4 a)) people_at (bytes 4 b)) indiv_at (bytes 4 c)) people_at (bytes 4 d)
    ≡ sets (sets l indiv_at (bytes 4 c)) people_at (bytes 4 d)
stores_again l a b c d =
    let same : (x y : ℕ) → length (bytes 4 x) ≡ length (bytes 4 y) = λ x y. length_bytes 4 x ∙ sym (length_bytes 4 y) in
    let n = length_bytes 4 c in
    rw (
      sym (sets_swap (bytes 4 c) (bytes 4 b) (sets l indiv_at (bytes 4 a)) indiv_at people_at (omega arith)),
      sets_again (bytes 4 a) (bytes 4 c) l indiv_at (same a c),
      sets_again (bytes 4 b) (bytes 4 d) (sets l indiv_at (bytes 4 c)) people_at (same b d),
    )

site_again : (t : Site) (cs ds s : List ℕ) (indiv : ℕ) → t.border ≤ length s → ascending (length cs) ds ≡ true
    → chosen_site (released_site cs s t) ds indiv (chosen_record t cs s) ≡ chosen_site t (composed cs ds) indiv s
unfolding chosen_site
site_again t cs ds s indiv b q =
    let e : take t.border (chosen_record t cs s) ≡ chosen_site t cs (length (chosen_block t cs s)) s = take_chosen_record t cs s b in
    rw (e, kept_composed cs ds t.formats q, length-map ds (λ d. get_or cs d 0))
    (stores_again (take t.border s) (length (chosen_block t cs s)) (members_of (kept_formats cs t.formats) (length cs)) indiv
    (members_of (kept_formats (composed cs ds) t.formats) (length ds)))

-- choosing from a chosen record is choosing once from the record
pub chosen_record_composed : (f : Facts) (s : List ℕ) (t : Site) (g : Gt) (cs ds : List ℕ) → reading f s ≡ accepted_as t g
    → ascending t.people cs ≡ true → ascending (length cs) ds ≡ true
    → chosen_record (released_site cs s t) ds (chosen_record t cs s) ≡ chosen_record t (composed cs ds) s
unfolding chosen_record
chosen_record_composed f s t g cs ds h p q =
    let o = opened f s t g h in
    let x = o.bordered in
    let y = o.inside in
    let b : t.border ≤ length s = omega arith in
    rw (block_again t cs ds s b p q (filled f s t g h), site_again t cs ds s (length (chosen_block t (composed cs ds) s)) b q)

-- and so is the answer, where the chosen record is accepted
pub choosing_composed : (f : Facts) (s : List ℕ) (t : Site) (g g' : Gt) (cs ds : List ℕ) (room : ℕ) → reading f s ≡ accepted_as t g
    → ascending t.people cs ≡ true → ascending (length cs) ds ≡ true
    → reading (for_people (length cs) f) (chosen_record t cs s) ≡ accepted_as (released_site cs s t) g'
    → choosing (for_people (length cs) f) ds room (chosen_record t cs s) ≡ choosing f (composed cs ds) room s
unfolding choosing
choosing_composed f s t g g' cs ds room h p q r =
    rw (r, h, q, ascending_composed t.people cs ds p q, chosen_record_composed f s t g cs ds h p q)
