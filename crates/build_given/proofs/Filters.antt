-- FILTER's number by two indices: the first element that is no offset, and the first repeat among those before it. Rests on site's law of the
-- two, which says the place as well.
use mathlib.Core.Path.{◌≡◌, refl, ◌∙◌, ap}
use mathlib.Core.List.{List, [], map}
use mathlib.Core.Bool.{Bool, true, false}
use Prim.Native.Nat.{ℕ, ◌+◌, ◌*◌}
use lib.Dec.{ltb}
use lib.IntN.{ℤ}
use lib.ListN.{length, take, length-map}
use mir.Syntax.{w32}
use mir.Val.{of_z}
use Rattle.words.specs.Pick.{pick}
use Rattle.vectors.specs.Vectors.{unsound, Sound}
use Rattle.repeats.specs.Repeats.{first_outside, repeat_after, first_repeat}
use Rattle.repeats.proofs.Lists.{map_part}
use Rattle.site.proofs.Filters.{verdict, filters_verdict}
use Rattle.build_given.specs.Given.{number_of, filters_number}

number_verdict : (r k n : ℕ) → number_of (verdict 0 0 r k n) ≡ pick (ltb r k) 11 (pick (ltb k n) 8 0)
number_verdict r k n = by_tests (ltb r k) (ltb k n)
  where
    by_tests : (a b : Bool) → number_of (pick a (unsound 11 (0 + r * 0)) (pick b (unsound 8 (0 + k * 0)) Sound)) ≡ pick a 11 (pick b 8 0)
    by_tests true b = refl
    by_tests false true = refl
    by_tests false false = refl

pub filters_number_by : (zs : List ℤ) (strings k r : ℕ) → k ≡ first_outside strings (map (of_z w32) zs) → r ≡ first_repeat (map (of_z w32) (take k zs))
    → filters_number strings (map (of_z w32) zs) ≡ pick (ltb r k) 11 (pick (ltb k (length zs)) 8 0)
unfolding filters_number first_repeat
filters_number_by zs strings k r ek er =
    let xs = map (of_z w32) zs in
    let q : r ≡ repeat_after [] (take k xs) = er ∙ ap first_repeat (map_part (of_z w32) zs k) in
    ap number_of (filters_verdict strings 0 0 [] xs) ∙ rw (← ek, ← q, length-map zs (of_z w32)) (number_verdict r k (length zs))
