-- FORMAT fields passed one after the other: one turn of the walk for their size. Rests on specs/Sizes, and on fetch for the field at the
-- front of a list.
use mathlib.Core.Path.{◌≡◌, refl}
use mathlib.Core.List.{List}
use Prim.Native.Nat.{ℕ, zero, suc, ◌+◌, ◌-◌, ◌*◌, ◌<◌, ◌≤◌}
use native.Mathlib.Omega.{arith}
use native.Mathlib.Nat.{mul_assoc, mul-le-mul_right}
use native.Mathlib.Numerals.{sub-one}
use lib.ListN.{length, drop, length-drop}
use Rattle.words.proofs.Places.{drop_on}
use Rattle.types.specs.Rows.{width_of}
use Rattle.types.specs.declared.Use.TheVariants.{Format}
use Rattle.values.specs.declared.Refusal.{Refusal}
use Rattle.fetch.specs.Fields.{paired}
use Rattle.fetch.proofs.Inside.{paired_inside}
use Rattle.fetch_laws.proofs.Present.{paired_stop}
use Rattle.std.specs.Prelude.{Err, Ok}
use Rattle.fetch.specs.declared.Found.{Found}
use Rattle.values.specs.Answers.{Answer}
use Rattle.choice.specs.Sizes.{field_size, fields_size}

-- some people's parts are no more than everybody's
pub kept_parts : (kept people n w : ℕ) → kept ≤ people → kept * (n * w) ≤ people * n * w
kept_parts kept people n w h = rw (mul_assoc people n w) (mul-le-mul_right (n * w) h)

-- and so they end before the field does
pub parts_fit : (people kept at : ℕ) (l : List ℕ) {x : Found} → kept ≤ people → paired people Format at l ≡ Ok x
    → x.place + kept * (x.len * width_of x.code) ≤ x.stop
parts_fit people kept at l {x = x} h e =
    let stop = paired_stop people Format at l e in
    let parts = kept_parts kept people x.len (width_of x.code) h in
    omega arith

-- the next field, where some are left
pub size_turn : (people kept n at : ℕ) (s : List ℕ) {x : Found} → 0 < n
    → paired people Format at (drop at s) ≡ Ok x → at ≤ x.stop
    → fields_size people kept n at (drop at s) ≡ x.place - at + kept * (x.len * width_of x.code) + fields_size people kept (n - 1) x.stop (drop x.stop s)
unfolding fields_size
size_turn people kept zero at s z h r = absurd (omega arith)
size_turn people kept (suc n) at s {x = x} z h r = rw (h, sub-one, drop_on s at x.stop r)

-- no field is there
pub size_none : (people kept n at : ℕ) (s : List ℕ) {r : Refusal} → 0 < n → paired people Format at (drop at s) ≡ Err r
    → fields_size people kept n at (drop at s) ≡ 0
unfolding fields_size
size_none people kept zero at s z h = absurd (omega arith)
size_none people kept (suc n) at s z h = rw h

-- some people's fields are no longer than everybody's
pub size_inside : (people kept n at : ℕ) (l : List ℕ) → kept ≤ people → fields_size people kept n at l ≤ length l
unfolding fields_size
size_inside people kept zero at l h = omega arith
size_inside people kept (suc n) at l h = by_field (paired people Format at l) refl (λ q m. size_inside people kept n q m h)
  where
    by_field : (f : Answer Found) → paired people Format at l ≡ f → ((q : ℕ) (m : List ℕ) → fields_size people kept n q m ≤ length m)
        → field_size kept at l (fields_size people kept n) f ≤ length l
    by_field (Err r) e on = omega arith
    by_field (Ok x) e on =
        let i = rw e at (paired_inside people Format at l) in
        let st = paired_stop people Format at l e in
        let k = kept_parts kept people x.len (width_of x.code) h in
        let r = rw (length-drop (x.stop - at) l) at (on x.stop (drop (x.stop - at) l)) in
        omega (arith, i)
