-- A sound FORMAT value of everybody gives a sound value of the chosen people. Rests on fetch_laws' Fronts and proofs/Judging.
use mathlib.Core.Path.{◌≡◌}
use mathlib.Core.List.{List, ◌++◌}
use mathlib.Core.Bool.{true}
use Prim.Native.Nat.{ℕ, ◌+◌, ◌-◌, ◌*◌, ◌≤◌}
use native.Mathlib.Omega.{arith}
use native.Mathlib.Nat.{mul_assoc}
use lib.ListN.{length, take, drop, length-drop}
use lib.Seq.{length-take-le, take_at, drop_at}
use Rattle.types.specs.Rows.{width_of}
use Rattle.types.specs.declared.Use.{Use}
use Rattle.values.specs.Values.{present}
use Rattle.vectors.specs.Sound.{sound, most_of}
use Rattle.vectors.specs.Vectors.{judged, Sound}
use Rattle.fetch_laws.proofs.Agree.{sound_there, sound_judged}
use Rattle.fetch_laws.proofs.Present.{present_typed}
use Rattle.choice.specs.Choice.{ascending, chosen_parts}
use Rattle.choice.proofs.Choice.{length_chosen_parts}
use Rattle.fetch_laws.proofs.Fronts.{present_front}
use Rattle.values.specs.Answers.{whole}
use Rattle.choose_laws.proofs.Judging.{chosen_parts_take, judged_chosen_parts}

-- everybody's elements are there, so the chosen people's are
pub length_chosen : (people : ℕ) (role : Use) (at : ℕ) (l cs : List ℕ) (t n first stop : ℕ) → ascending people cs ≡ true
    → present people role at l ≡ whole t n first stop
    → length (chosen_parts (n * width_of t) cs (drop (first - at) l)) ≡ length cs * n * width_of t
length_chosen people role at l cs t n first stop c h =
    let i = present_typed people role at l t n first stop h in
    let a = i.ends in
    let b = i.later in
    let d = i.inside in
    let e : people * (n * width_of t) ≤ length (drop (first - at) l) = rw length-drop (omega (arith, mul_assoc people n (width_of t))) in
    rw (length_chosen_parts (n * width_of t) 0 people cs (drop (first - at) l) c e, mul_assoc)

-- the law: so the chosen people's value is sound, at any place and before whatever follows
pub sound_chosen_parts : (people alleles : ℕ) (role : Use) (at at' : ℕ) (l cs m : List ℕ) (t n first stop : ℕ) → ascending people cs ≡ true
    → sound people alleles role at l ≡ whole t n first stop
    → sound (length cs) alleles role at' (take (first - at) l ++ (chosen_parts (n * width_of t) cs (drop (first - at) l) ++ m))
    ≡ whole t n (at' + (first - at)) (at' + (first - at) + length cs * n * width_of t)
unfolding sound
sound_chosen_parts people alleles role at at' l cs m t n first stop c h =
    let p = sound_there people alleles role at l t n first stop h in
    let j = sound_judged people alleles role at l t n first stop h in
    let i = present_typed people role at l t n first stop p in
    let a = i.ends in
    let b = i.later in
    let d = i.inside in
    let size = n * width_of t in
    let rest = drop (first - at) l in
    let e : stop - first ≡ people * size = omega (arith, mul_assoc people n (width_of t)) in
    let k : length (take (people * size) rest) ≡ people * size = length-take-le (people * size) rest (rw length-drop (omega arith)) in
    let els = chosen_parts size cs rest in
    let x = length_chosen people role at l cs t n first stop c p in
    let o : drop (at' + (first - at) - at') (take (first - at) l ++ (els ++ m)) ≡ els ++ m =
    drop_at (take (first - at) l) (els ++ m) (at' + (first - at) - at') (rw (length-take-le (first - at) l (omega arith)) (omega arith)) in
    let q : take (at' + (first - at) + length cs * n * width_of t - (at' + (first - at))) (els ++ m) ≡ els =
    take_at els m (at' + (first - at) + length cs * n * width_of t - (at' + (first - at))) (rw x (omega arith)) in
    let y : judged (most_of role alleles t) t n (take (people * size) rest) ≡ Sound = rw e at j in
    let z : judged (most_of role alleles t) t n els ≡ Sound =
    rw (chosen_parts_take size 0 people cs rest c) at (judged_chosen_parts (most_of role alleles t) t n people cs (take (people * size) rest) c k y) in
    rw (present_front people (length cs) role at at' l els m t n first stop p x, o, q, z)
