-- The chosen record shows what the chosen people show: the site as it was, and their elements of each FORMAT field. Rests on proofs/Filled,
-- proofs/Kept, proofs/Numbers and proofs/Sites.
use mathlib.Core.Path.{◌≡◌, refl, sym, ◌∙◌, ap}
use mathlib.Core.List.{List, [], ◌∷◌, ◌++◌, map}
use mathlib.Core.Bool.{true}
use Prim.Native.Nat.{ℕ, zero, suc, ◌+◌, ◌-◌, ◌*◌, ◌/◌, ◌<◌, ◌≤◌}
use native.Mathlib.Omega.{arith}
use native.Mathlib.Nat.{mul-zero, mul-div_cancel}
use lib.ListN.{length, take, drop, replicate}
use lib.Seq.{take-nil, drop-nil}
use Rattle.types.specs.Rows.{width_of}
use Rattle.vectors.specs.Vectors.{shown_numbers, elements_of}
use Rattle.fixed.specs.Layout.{id_at}
use Rattle.facts.specs.declared.Facts.{Facts}
use Rattle.fixed.specs.declared.Site.{Site}
use Rattle.genotypes.specs.declared.Gt.{Gt}
use Rattle.record.specs.Reading.{reading, accepted_as}
use Rattle.fetch.specs.declared.Kind.TheVariants.{Format}
use Rattle.contents.specs.Contents.{shown_of}
use Rattle.contents.proofs.Blocks.{format_of, items_of, blocks_shown, shown_blocks}
use Rattle.choice.specs.Choice.{ascending, chosen_parts}
use Rattle.choose.specs.Chosen.{chosen_fields, kept_formats, chosen_block, chosen_record}
use Rattle.choose_laws.specs.Releases.{released_site, released_field, released_fields, released}
use Rattle.choose_laws.proofs.Filled.{Filled, opened, filled}
use Rattle.choose_laws.proofs.Kept.{room, kept}
use Rattle.choose_laws.proofs.Numbers.{shown_numbers_chosen_parts}
use Rattle.choose_laws.proofs.Again.{block_chosen_record}
use Rattle.choose_laws.proofs.Sites.{drop_chosen_site, take_chosen_record}

-- nothing is chosen from nothing
chosen_parts_nil : (size : ℕ) (cs : List ℕ) → chosen_parts {A = ℕ} size cs [] ≡ []
unfolding chosen_parts
chosen_parts_nil size [] = refl
chosen_parts_nil size (c ∷ cs) = rw (drop-nil {A = ℕ} (c * size), take-nil {A = ℕ} size) (chosen_parts_nil size cs)

-- the chosen people's elements of a field
elements_of_chosen_parts : (t n people : ℕ) (cs l m : List ℕ) → ascending people cs ≡ true → people * (n * width_of t) ≤ length l
    → elements_of t (length cs * n * width_of t) (chosen_parts (n * width_of t) cs l ++ m)
    ≡ chosen_parts n cs (elements_of t (people * n * width_of t) l)
unfolding elements_of shown_numbers
elements_of_chosen_parts t n people cs l m h r = by_width (width_of t) r
  where
    by_width : (w : ℕ) → people * (n * w) ≤ length l
        → shown_numbers t w (length cs * n * w / w) (chosen_parts (n * w) cs l ++ m) ≡ chosen_parts n cs (shown_numbers t w (people * n * w / w) l)
    by_width zero q = rw (mul-zero (length cs * n), mul-zero (people * n)) (sym (chosen_parts_nil n cs))
    by_width (suc w) q =
        let p : 0 < suc w = omega arith in
        rw (mul-div_cancel (length cs * n) p, mul-div_cancel (people * n) p) (shown_numbers_chosen_parts t (suc w) n 0 people cs l m h q)

-- what the chosen people's FORMAT fields show, at whatever place they stand
each_chosen_fields : (people n at at' : ℕ) (cs l : List ℕ) → ascending people cs ≡ true → Filled people n at l
    → map format_of (items_of (length cs) (replicate n Format) at' (chosen_fields people cs n at l))
    ≡ map (released_field cs) (map format_of (items_of people (replicate n Format) at l))
unfolding chosen_fields items_of
each_chosen_fields people zero at at' cs l p h = refl
each_chosen_fields people (suc n) at at' cs l p h =
    let m = drop (h.first - at) l in
    let rest = chosen_fields people cs n h.stop (drop (h.stop - at) l) in
    let k = kept people at at' cs l rest h p in
    let first = at' + (h.first - at) in
    let size = length cs * h.len * width_of h.code in
    let x : first + size - first ≡ size = omega arith in
    let y : h.stop - h.first ≡ people * h.len * width_of h.code = let e = h.ends in omega arith in
    rw (
      h.here,
      k.here,
      k.elements,
      k.rest,
      x,
      y,
      elements_of_chosen_parts h.code h.len people cs m rest p (room people at l h),
      each_chosen_fields people n h.stop (first + size) cs (drop (h.stop - at) l) p h.rest,
    )

-- the same of the fields that are kept
each_kept : (people formats at : ℕ) (cs l : List ℕ) → ascending people cs ≡ true → Filled people formats at l
    → map format_of (items_of (length cs) (replicate (kept_formats cs formats) Format) at (chosen_fields people cs (kept_formats cs formats) at l))
    ≡ released_fields cs (map format_of (items_of people (replicate formats Format) at l))
unfolding items_of
each_kept people formats at [] l p h = refl
each_kept people formats at (c ∷ cs) l p h = each_chosen_fields people formats at at (c ∷ cs) l p h

-- the chosen record shows what is released
pub shown_of_chosen_record : (f : Facts) (s : List ℕ) (t : Site) (g : Gt) (cs : List ℕ) → reading f s ≡ accepted_as t g
    → ascending t.people cs ≡ true → shown_of (released_site cs s t) (chosen_record t cs s) ≡ released cs (shown_of t s)
unfolding blocks_shown chosen_block
shown_of_chosen_record f s t g cs h p =
    let o = opened f s t g h in
    let x = o.bordered in
    let y = o.inside in
    let b : t.border ≤ length s = omega arith in
    let block = drop id_at (take t.border s) in
    let calls = drop t.border (take t.length s) in
    let same : drop id_at (take t.border (chosen_record t cs s)) ≡ block =
    ap (drop id_at) (take_chosen_record t cs s b) ∙ drop_chosen_site t cs (length (chosen_block t cs s)) s in
    let fields = each_kept t.people t.formats t.border cs calls p (filled f s t g h) in
    rw (shown_blocks (released_site cs s t) (chosen_record t cs s), shown_blocks t s, same, block_chosen_record t cs s b, fields)
