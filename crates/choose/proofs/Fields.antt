-- FORMAT fields passed one after the other: one turn of the walk for their chosen bytes. Rests on specs/Chosen, on
-- choice for their size, and on fetch for the field at the front of a list.
use mathlib.Core.Path.{◌≡◌, refl}
use mathlib.Core.List.{List, [], ◌++◌}
use mathlib.Core.Bool.{true}
use Prim.Native.Nat.{ℕ, zero, suc, ◌-◌, ◌*◌, ◌<◌, ◌≤◌}
use native.Mathlib.Omega.{arith}
use native.Mathlib.Nat.{mul_assoc}
use native.Mathlib.Numerals.{sub-one}
use lib.ListN.{length, take, drop, length-append, length-drop}
use lib.Seq.{length-take-le}
use Rattle.words.proofs.Places.{drop_on}
use Rattle.types.specs.Rows.{width_of}
use Rattle.types.specs.declared.Use.TheVariants.{Format}
use Rattle.values.specs.declared.Refusal.{Refusal}
use Rattle.fetch.specs.Fields.{paired}
use Rattle.fetch.proofs.Inside.{paired_inside}
use Rattle.fetch_laws.proofs.Present.{paired_stop}
use Rattle.choice.specs.Choice.{ascending, chosen_parts}
use Rattle.choice.specs.Sizes.{field_size, fields_size}
use Rattle.choice.proofs.Choice.{length_chosen_parts}
use Rattle.std.specs.Prelude.{Err, Ok}
use Rattle.fetch.specs.declared.Found.{Found}
use Rattle.values.specs.Answers.{Answer}
use Rattle.choose.specs.Chosen.{chosen_field, chosen_fields}

-- the next field, where some are left: its chosen bytes
pub fields_turn : (people : ℕ) (cs : List ℕ) (n at : ℕ) (s : List ℕ) {x : Found} → 0 < n
    → paired people Format at (drop at s) ≡ Ok x → at ≤ x.place → x.place ≤ x.stop
    → chosen_fields people cs n at (drop at s)
    ≡ take (x.place - at) (drop at s) ++ (chosen_parts (x.len * width_of x.code) cs (drop x.place s) ++ chosen_fields people cs (n - 1) x.stop (drop x.stop s))
unfolding chosen_fields
fields_turn people cs zero at s z h r e = absurd (omega arith)
fields_turn people cs (suc n) at s {x = x} z h r e = rw (h, sub-one, drop_on s at x.place r, drop_on s at x.stop (omega arith))

-- no field is there
pub fields_none : (people : ℕ) (cs : List ℕ) (n at : ℕ) (s : List ℕ) {r : Refusal} → 0 < n → paired people Format at (drop at s) ≡ Err r
    → chosen_fields people cs n at (drop at s) ≡ []
unfolding chosen_fields
fields_none people cs zero at s z h = absurd (omega arith)
fields_none people cs (suc n) at s z h = rw h

-- the chosen fields are as long as their size says
pub length_chosen_fields : (people : ℕ) (cs : List ℕ) (n at : ℕ) (l : List ℕ) → ascending people cs ≡ true
    → length (chosen_fields people cs n at l) ≡ fields_size people (length cs) n at l
unfolding chosen_fields fields_size
length_chosen_fields people cs zero at l h = refl
length_chosen_fields people cs (suc n) at l h = by_field (paired people Format at l) refl (λ q m. length_chosen_fields people cs n q m h)
  where
    by_field : (f : Answer Found) → paired people Format at l ≡ f
        → ((q : ℕ) (m : List ℕ) → length (chosen_fields people cs n q m) ≡ fields_size people (length cs) n q m)
        → length (chosen_field cs at l (chosen_fields people cs n) f) ≡ field_size (length cs) at l (fields_size people (length cs) n) f
    by_field (Err r) e on = refl
    by_field (Ok x) e on =
        let i = rw e at (paired_inside people Format at l) in
        let st = paired_stop people Format at l e in
        let q = mul_assoc people x.len (width_of x.code) in
        let room : people * (x.len * width_of x.code) ≤ length (drop (x.place - at) l) = rw length-drop (omega (arith, i)) in
        let head : length (take (x.place - at) l) ≡ x.place - at = length-take-le (x.place - at) l (omega (arith, i)) in
        rw (length-append, length-append, head, length_chosen_parts (x.len * width_of x.code) 0 people cs (drop (x.place - at) l) h room, on x.stop (drop (x.stop - at) l))
        (omega arith)
