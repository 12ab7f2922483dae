-- Choosing everybody gives the record back, byte by byte. Rests on proofs/Filled and on words' laws of written numbers.
use mathlib.Core.Path.{◌≡◌, refl, sym}
use mathlib.Core.List.{List}
use Prim.Native.Nat.{ℕ, zero, suc, ◌+◌, ◌-◌, ◌*◌, ◌≤◌}
use native.Mathlib.Omega.{arith}
use native.Mathlib.Nat.{mul_assoc}
use lib.ListN.{length, take, drop, length-drop, take-append-drop}
use lib.Seq.{drop-drop, take-add, take-take, length-take-le, sets, sets-eq}
use Rattle.words.specs.Words.{number, bytes, Bytes}
use Rattle.words.proofs.Words.{bytes_le}
use Rattle.types.specs.Rows.{width_of}
use Rattle.fixed.specs.Layout.{indiv_at, people_at, field}
use Rattle.facts.specs.declared.Facts.{Facts}
use Rattle.fixed.specs.declared.Site.{Site}
use Rattle.genotypes.specs.declared.Gt.{Gt}
use Rattle.record.specs.Reading.{reading, accepted_as}
use Rattle.fetch_laws.proofs.Bytes.{part_of_lem}
use Rattle.choose.specs.Chosen.{chosen_fields, kept_formats, chosen_block, chosen_site, chosen_record}
use Rattle.choose_laws.specs.Releases.{people_from, everybody}
use Rattle.choose_laws.proofs.Filled.{Filled, opened, filled}
use Rattle.choose_laws.proofs.Choices.{length_people_from, chosen_parts_everybody}
use Rattle.choose_laws.proofs.Stored.{Bytes_drop, Bytes_take}

-- everybody's FORMAT fields are all bytes of those that fill a list
pub chosen_fields_everybody : (people n at : ℕ) (l : List ℕ) → Filled people n at l → chosen_fields people (everybody people) n at l ≡ l
unfolding chosen_fields
chosen_fields_everybody people zero at l h = sym h
chosen_fields_everybody people (suc n) at l h =
    let w = width_of h.code in
    let a = h.later in
    let b = h.ends in
    let m = drop (h.first - at) l in
    let e : people * (h.len * w) ≡ h.stop - h.first = rw (sym (mul_assoc people h.len w)) (omega arith) in
    let i : h.first - at + (h.stop - h.first) ≡ h.stop - at = omega arith in
    let d : drop (h.stop - at) l ≡ drop (h.stop - h.first) m = rw (drop-drop (h.stop - h.first) (h.first - at) l, i) in
    rw (
      h.here,
      chosen_parts_everybody (h.len * w) people m,
      chosen_fields_everybody people n h.stop (drop (h.stop - at) l) h.rest,
      e,
      d,
      take-append-drop (h.stop - h.first) m,
    )
    (take-append-drop (h.first - at) l)

-- a fixed field that is written as it was read leaves the bytes as they were
sets_field : (at end : ℕ) (s : List ℕ) → Bytes s → at + 4 ≤ end → end ≤ length s → sets (take end s) at (bytes 4 (field at s)) ≡ take end s
unfolding field number
sets_field at end s h r q =
    let four = take 4 (drop at s) in
    let n : length four ≡ 4 = length-take-le 4 (drop at s) (rw length-drop (omega arith)) in
    let e : bytes 4 (number 4 (drop at s)) ≡ four = rw n at (bytes_le four (Bytes_take 4 (drop at s) (Bytes_drop at s h))) in
    let k : length (take end s) ≡ end = length-take-le end s q in
    rw (e, sets-eq four (take end s) at (rw (n, k) r), n, sym (part_of_lem s at 4 end r), sym (take-add at 4 (take end s)))
    (take-append-drop (at + 4) (take end s))

kept_everybody : (people formats : ℕ) → (people ≡ 0 → formats ≡ 0) → kept_formats (everybody people) formats ≡ formats
unfolding people_from
kept_everybody zero formats h = sym (h refl)
kept_everybody (suc people) formats h = refl

-- choosing everybody gives the same bytes
pub chosen_record_everybody : (f : Facts) (s : List ℕ) (t : Site) (g : Gt) → Bytes s → reading f s ≡ accepted_as t g
    → chosen_record t (everybody t.people) s ≡ take t.length s
unfolding chosen_record chosen_block chosen_site
chosen_record_everybody f s t g b h =
    let o = opened f s t g h in
    let x = o.sited in
    let y = o.bordered in
    let z = o.inside in
    let block = drop t.border (take t.length s) in
    let n : length block ≡ field indiv_at s =
    rw (length-drop t.border (take t.length s), length-take-le t.length s z, o.indiv) in
    rw (
      kept_everybody t.people t.formats o.nobody,
      chosen_fields_everybody t.people t.formats t.border block (filled f s t g h),
      n,
      length_people_from 0 t.people,
      sym o.members,
      sets_field indiv_at t.border s b (omega arith) (omega arith),
      sets_field people_at t.border s b (omega arith) (omega arith),
      sym (take-take t.border t.length s y),
    )
    (take-append-drop t.border (take t.length s))
