-- GT of an accepted record: all its elements are there, they were judged as GT's codes, and where it has a length its type has a width. Rests on what
-- reading judged of a FORMAT field.
use mathlib.Core.Path.{◌≡◌, refl, ◌∙◌}
use mathlib.Core.List.{List, []}
use mathlib.Core.Bool.{Bool, true, false}
use Prim.Native.Nat.{ℕ, zero, suc, ◌+◌, ◌-◌, ◌*◌, ◌/◌, ◌<◌, ◌≤◌}
use native.Mathlib.Omega.{arith}
use native.Mathlib.Nat.{mul-zero, zero-mul, div-zero}
use lib.Dec.{eqb}
use lib.ListN.{length, take, drop, length-drop}
use lib.Seq.{length-take-le}
use Rattle.words.specs.Pick.{pick}
use Rattle.words.specs.Words.{Bytes}
use Rattle.words.proofs.Places.{drop_on}
use Rattle.types.specs.Rows.{row_of, width_of, allowed}
use Rattle.types.specs.declared.Use.TheVariants.{Gt as GtUse}
use Rattle.vectors.specs.Sound.{code_most, sound}
use Rattle.vectors.specs.Vectors.{judged, vectors, Sound}
use Rattle.facts.specs.declared.Facts.{Facts}
use Rattle.fixed.specs.declared.Site.{Site}
use Rattle.genotypes.specs.Formats.{formats, role_of, gt_now, gt_at, no_gt, gt_part}
use Rattle.genotypes.specs.declared.Gt.{Gt}
use Rattle.record.specs.Reading.{reading, genotypes_of, accepted_as}
use Rattle.record.proofs.Accepted.{accepted}
use Rattle.fetch.proofs.Inside.{drop_past}
use Rattle.fetch_laws.proofs.Agree.{sound_there, sound_judged}
use Rattle.fetch_laws.proofs.Bytes.{part_of_lem}
use Rattle.fetch_laws.proofs.FormatFields.{JudgedField, formats_field}
use Rattle.fetch_laws.proofs.Present.{present_typed}
use Rattle.choose_laws.proofs.Blocks.{formats_ended}
use Rattle.choose_laws.proofs.Filled.{opened}
use Rattle.choose_laws.proofs.Stored.{Bytes_drop, Bytes_take}
use Rattle.keeps_laws.proofs.Elements.{by_wide}
use Rattle.std.specs.Prelude.{Ok}
use Rattle.values.specs.Answers.{whole}
use Rattle.keeps_laws.proofs.Descriptors.{Stands, empty, filled, described_long}

pub record GtSound (people alleles : ℕ) (s : List ℕ) (g : Gt) : Type 0 where
  pub inside : g.first + people * g.len * width_of g.code ≤ length s
  pub codes : judged (code_most alleles g.code) g.code g.len (gt_part people g s) ≡ Sound
  pub wide : 0 < g.len → 0 < width_of g.code
  pub integers : 0 < g.len → (0 < g.code) × (g.code < 4)

-- all its elements are there
pub length_gt_part : (people alleles : ℕ) (s : List ℕ) (g : Gt) → GtSound people alleles s g
    → length (gt_part people g s) ≡ people * g.len * width_of g.code
length_gt_part people alleles s g h =
    let i = h.inside in
    length-take-le (people * g.len * width_of g.code) (drop g.first s) (rw (length-drop g.first s) (omega arith))

-- where there is no GT there is nothing to judge
no_gt_lem : (people alleles : ℕ) (s : List ℕ) → GtSound people alleles s no_gt
unfolding judged vectors width_of
no_gt_lem people alleles s =
    let e : people * 0 * width_of 0 ≡ 0 = rw (mul-zero people, zero-mul (width_of 0)) in
    record { inside = omega arith; codes = rw (e, div-zero (0 / width_of 0)); wide = λ h. absurd (omega arith); integers = λ h. absurd (omega arith) }

-- a type with a width that GT may have is one of integers
gt_integers : (t : ℕ) → 0 < width_of t → allowed (row_of t) GtUse ≡ true → (0 < t) × (t < 4)
unfolding row_of
gt_integers t w h =
    by_wide (λ t. allowed (row_of t) GtUse ≡ true → (0 < t) × (t < 4)) (λ e. (omega arith, omega arith)) (λ e. (omega arith, omega arith))
    (λ e. (omega arith, omega arith)) (λ e. let z : ◌≡◌ {A = ℕ} 0 1 = cc in absurd (omega arith))
    (λ e. let z : ◌≡◌ {A = ℕ} 0 1 = cc in absurd (omega arith)) t w h

-- a field that is judged as GT
field_sound : (strings people gt alleles n : ℕ) (earlier : List ℕ) (known : Gt) (at : ℕ) (s : List ℕ) {g : Gt} → Bytes s → at ≤ length s
    → (j : JudgedField strings people gt alleles n earlier known at (drop at s) g) → role_of j.key gt ≡ GtUse
    → GtSound people alleles s (gt_at j.code j.len j.first)
field_sound strings people gt alleles n earlier known at s b i j role =
    let l = drop (j.next - at) (drop at s) in
    let a = j.key_later in
    let c = j.later in
    let o = rw (length-drop at s) at j.inside in
    let e = j.ends in
    let value : sound people alleles GtUse j.next l ≡ whole j.code j.len j.first j.stop = rw role at j.value in
    let there = sound_there people alleles GtUse j.next l j.code j.len j.first j.stop value in
    let typed = present_typed people GtUse j.next l j.code j.len j.first j.stop there in
    let stands = described_long GtUse j.next l j.code j.len j.first typed.descriptor (Bytes_drop (j.next - at) (drop at s) (Bytes_drop at s b)) in
    let same : drop (j.first - j.next) l ≡ drop j.first s =
    drop_past (drop at s) at j.next j.first a c ∙ drop_on s at j.first (omega arith) in
    let size : j.stop - j.first ≡ people * j.len * width_of j.code = omega arith in
    record {
      inside = omega arith;
      codes = rw (same, size) at (sound_judged people alleles GtUse j.next l j.code j.len j.first j.stop value);
      wide = λ h. by-stands stands.there h;
      integers = λ h. gt_integers j.code (by-stands stands.there h) stands.fits;
    }
  where
    by-stands : Stands j.code j.len → 0 < j.len → 0 < width_of j.code
    by-stands (empty x y) h = absurd (omega arith)
    by-stands (filled w) h = w

-- GT after a field, and after all
now_sound : (people alleles : ℕ) (s : List ℕ) (key gt : ℕ) (x y : Gt) → (role_of key gt ≡ GtUse → GtSound people alleles s x) → GtSound people alleles s y
    → GtSound people alleles s (gt_now key gt x y)
unfolding gt_now role_of
now_sound people alleles s key gt x y f h = by_key (eqb key gt) refl
  where
    by_key : (b : Bool) → eqb key gt ≡ b → GtSound people alleles s (pick b x y)
    by_key true e = f (rw e)
    by_key false e = h

formats_sound : (strings people gt alleles n : ℕ) (earlier : List ℕ) (known : Gt) (at : ℕ) (s : List ℕ) {g : Gt} → Bytes s → at ≤ length s
    → GtSound people alleles s known → formats strings people gt alleles n earlier known at (drop at s) ≡ Ok g → GtSound people alleles s g
formats_sound strings people gt alleles zero earlier known at s b i k h =
    rw (formats_ended strings people gt alleles earlier known at (drop at s) h) at k
formats_sound strings people gt alleles (suc n) earlier known at s b i k h =
    let j = formats_field strings people gt alleles n earlier known at (drop at s) h in
    let a = j.key_later in
    let c = j.later in
    let e = j.ends in
    let o = rw (length-drop at s) at j.inside in
    let p = drop_on s at j.stop (omega arith) in
    formats_sound strings people gt alleles n _ _ j.stop s b (omega arith)
    (now_sound people alleles s j.key gt _ known (field_sound strings people gt alleles n earlier known at s b i j) k) (rw p at j.on)

-- the law
pub accepted_gt_sound : (f : Facts) (s : List ℕ) (t : Site) (g : Gt) → Bytes s → reading f s ≡ accepted_as t g → GtSound t.people t.alleles s g
unfolding genotypes_of
accepted_gt_sound f s t g b h =
    let o = opened f s t g h in
    let x = o.bordered in
    let y = o.inside in
    let u = take t.length s in
    let e : length u ≡ t.length = length-take-le t.length s y in
    let r = formats_sound f.strings f.people f.gt t.alleles t.formats [] no_gt t.border u (Bytes_take t.length s b)
    (rw e x) (no_gt_lem f.people t.alleles u) (accepted f s t g h).genotypes in
    let i = r.inside in
    let p = part_of_lem s g.first (f.people * g.len * width_of g.code) t.length (omega arith) in
    rw o.given (record { inside = omega arith; codes = rw p at r.codes; wide = r.wide; integers = r.integers })
