-- A sound genotype block of everybody gives a sound block of the chosen people, with GT at its place there. Rests on fetch_laws' Fronts,
-- proofs/Fields and the definitions of genotypes.
use mathlib.Core.Path.{◌≡◌, refl, sym, ◌∙◌, ap}
use mathlib.Core.List.{List, [], ◌∷◌, ◌++◌, append_assoc}
use mathlib.Core.Bool.{Bool, true, false}
use Prim.Native.Nat.{ℕ, zero, suc, ◌+◌, ◌-◌, ◌*◌, ◌≤◌}
use native.Mathlib.Omega.{arith}
use native.Mathlib.Nat.{mul_assoc, mul-zero, zero-mul}
use lib.Dec.{eqb}
use lib.ListN.{length, take, drop, length-append, length-drop}
use lib.Seq.{length-take-le, take_at, drop_at}
use Rattle.words.specs.Pick.{pick}
use Rattle.words.proofs.Places.{drop_on}
use Rattle.types.specs.Rows.{width_of}
use Rattle.types.specs.declared.Use.TheVariants.{Format}
use Rattle.vectors.specs.Sound.{sound}
use Rattle.genotypes.specs.Formats.{format_field, so_many, formats, role_of, gt_now, gt_at, no_gt}
use Rattle.genotypes.specs.declared.Gt.{Gt}
use Rattle.fetch.proofs.Inside.{drop_past}
use Rattle.fetch_laws.proofs.FormatFields.{JudgedField, format_there, formats_field}
use Rattle.choice.specs.Choice.{ascending, chosen_parts}
use Rattle.choose.specs.Chosen.{chosen_fields}
use Rattle.fetch_laws.proofs.Fronts.{keyed_front, take_past}
use Rattle.choose_laws.proofs.Judging.{chosen_parts_take}
use Rattle.std.specs.Prelude.{Ok}
use Rattle.values.specs.Answers.{whole}
use Rattle.choose_laws.proofs.Fields.{length_chosen, sound_chosen_parts}

-- the chosen people's elements of a field that is judged sound are there
length_judged : (strings people gt alleles n : ℕ) (earlier : List ℕ) (known : Gt) (at : ℕ) (l cs : List ℕ) {g : Gt}
    → ascending people cs ≡ true → (j : JudgedField strings people gt alleles n earlier known at l g)
    → length (chosen_parts (j.len * width_of j.code) cs (drop (j.first - at) l)) ≡ length cs * j.len * width_of j.code
length_judged strings people gt alleles n earlier known at l cs c j =
    let l1 = drop (j.next - at) l in
    let there = format_there people alleles j.key gt j.next l1 j.code j.len j.first j.stop j.value in
    rw (drop_past l at j.next j.first j.key_later j.later) at
    (length_chosen people Format j.next l1 cs j.code j.len j.first j.stop c there)

-- one FORMAT field of the chosen people, before whatever follows it
formats_chosen_field : (strings people gt alleles n : ℕ) (earlier : List ℕ) (known known' : Gt) (at at' : ℕ) (l cs m : List ℕ) {g : Gt}
    → ascending people cs ≡ true → (j : JudgedField strings people gt alleles n earlier known at l g)
    → formats strings (length cs) gt alleles (suc n) earlier known' at'
    (take (j.first - at) l ++ (chosen_parts (j.len * width_of j.code) cs (drop (j.first - at) l) ++ m))
    ≡ formats strings (length cs) gt alleles n (earlier ++ (j.key ∷ [])) (gt_now j.key gt (gt_at j.code j.len (at' + (j.first - at))) known')
    (at' + (j.first - at) + length cs * j.len * width_of j.code) m
unfolding format_field so_many formats
formats_chosen_field strings people gt alleles n earlier known known' at at' l cs m {g} c j =
    let a = j.key_later in
    let b = j.later in
    let o = j.ends in
    let i = j.inside in
    let next = j.next in
    let first = j.first in
    let size = j.len * width_of j.code in
    let l1 = drop (next - at) l in
    let p = drop_past l at next first a b in
    let els = chosen_parts size cs (drop (first - at) l) in
    let rest = take (first - next) l1 ++ (els ++ m) in
    let next' = at' + (next - at) in
    let split : take (first - at) l ++ (els ++ m) ≡ take (next - at) l ++ rest = rw (take_past l at next first a b, append_assoc) in
    let d : drop (next' - at') (take (next - at) l ++ rest) ≡ rest =
    drop_at (take (next - at) l) rest (next' - at') (rw (length-take-le (next - at) l (omega arith)) (omega arith)) in
    let s : sound (length cs) alleles (role_of j.key gt) next' rest
    ≡ whole j.code j.len (next' + (first - next)) (next' + (first - next) + length cs * j.len * width_of j.code) =
    rw p at (sound_chosen_parts people alleles (role_of j.key gt) next next' l1 cs m j.code j.len first j.stop c j.value) in
    let x = length_judged strings people gt alleles n earlier known at l cs c j in
    let y : next' + (first - next) ≡ at' + (first - at) = omega arith in
    let stop' = at' + (first - at) + length cs * j.len * width_of j.code in
    let z : drop (stop' - next') rest ≡ m =
    ap (drop (stop' - next')) (sym (append_assoc (take (first - next) l1) els m)) ∙ drop_at (take (first - next) l1 ++ els) m (stop' - next')
    (rw (length-append, x, length-take-le (first - next) l1 (rw length-drop (omega arith))) (omega arith)) in
    let behind : drop (stop' - at') (take (next - at) l ++ rest) ≡ m =
    sym (drop_past (take (next - at) l ++ rest) at' next' stop' (omega arith) (omega arith)) ∙ ap (drop (stop' - next')) d ∙ z in
    rw (split, keyed_front strings at at' l rest j.key next j.number, j.once, d, s, y, behind)

-- GT in a record and in the chosen one: the same type and length, all elements there, and in the chosen one those of the chosen people
pub record SameGt (people : ℕ) (cs s s' : List ℕ) (g g' : Gt) : Type 0 where
  pub code : g'.code ≡ g.code
  pub len : g'.len ≡ g.len
  pub inside : g.first + people * g.len * width_of g.code ≤ length s
  pub inside' : g'.first + length cs * g.len * width_of g.code ≤ length s'
  pub elements : take (length cs * g.len * width_of g.code) (drop g'.first s')
      ≡ chosen_parts (g.len * width_of g.code) cs (take (people * g.len * width_of g.code) (drop g.first s))

-- parts of no size are nothing
chosen_parts_none : (cs l : List ℕ) → chosen_parts 0 cs l ≡ []
unfolding chosen_parts
chosen_parts_none [] l = refl
chosen_parts_none (c ∷ cs) l = rw (chosen_parts_none cs l)

-- no GT is the same in both
pub no_gt_lem : (people : ℕ) (cs s s' : List ℕ) → SameGt people cs s s' no_gt no_gt
no_gt_lem people cs s s' =
    let a : people * 0 * width_of 0 ≡ 0 = rw (mul-zero people, zero-mul (width_of 0)) in
    let b : length cs * 0 * width_of 0 ≡ 0 = rw (mul-zero (length cs), zero-mul (width_of 0)) in
    record {
      code = refl;
      len = refl;
      inside = omega arith;
      inside' = omega arith;
      elements = rw (b, zero-mul (width_of 0), chosen_parts_none);
    }

-- GT after a field
same_now : (people : ℕ) (cs s s' : List ℕ) (key gt : ℕ) (x x' y y' : Gt) → SameGt people cs s s' x x' → SameGt people cs s s' y y'
    → SameGt people cs s s' (gt_now key gt x y) (gt_now key gt x' y')
unfolding gt_now
same_now people cs s s' key gt x x' y y' a b = by_key (eqb key gt)
  where
    by_key : (c : Bool) → SameGt people cs s s' (pick c x y) (pick c x' y')
    by_key true = a
    by_key false = b

-- the chosen block: how it is read, and where its GT stands
pub record Block (strings people gt alleles n : ℕ) (earlier : List ℕ) (known' : Gt) (at' : ℕ) (cs s s' : List ℕ) (g : Gt) : Type 0 where
  pub known : Gt
  pub read : formats strings (length cs) gt alleles n earlier known' at' (drop at' s') ≡ Ok known
  pub same : SameGt people cs s s' g known

-- no field is left, and no byte
pub formats_ended : (strings people gt alleles : ℕ) (earlier : List ℕ) (known : Gt) (at : ℕ) (l : List ℕ) {g : Gt}
    → formats strings people gt alleles zero earlier known at l ≡ Ok g → known ≡ g
unfolding format_field so_many formats
formats_ended strings people gt alleles earlier known at [] h = cc
formats_ended strings people gt alleles earlier known at (b ∷ rest) h = cc

pub formats_none : (strings people gt alleles : ℕ) (earlier : List ℕ) (known : Gt) (at : ℕ)
    → formats strings people gt alleles zero earlier known at [] ≡ Ok known
unfolding format_field so_many formats
formats_none strings people gt alleles earlier known at = refl

-- a field, and then the block from its end on
block_on : (strings people gt alleles n : ℕ) (earlier on : List ℕ) (known' now : Gt) (at' stop' : ℕ) (cs s s' front m : List ℕ) (g : Gt)
    → drop at' s' ≡ front → drop stop' s' ≡ m
    → formats strings (length cs) gt alleles (suc n) earlier known' at' front ≡ formats strings (length cs) gt alleles n on now stop' m
    → Block strings people gt alleles n on now stop' cs s s' g → Block strings people gt alleles (suc n) earlier known' at' cs s s' g
block_on strings people gt alleles n earlier on known' now at' stop' cs s s' front m g e v step r =
    record { known = r.known; read = rw (e, step) (rw v at r.read); same = r.same }

-- the law: where the fields of everybody are sound from a place on, the chosen people's are, from any place of another list on
pub formats_chosen_fields : (strings people gt alleles n : ℕ) (earlier : List ℕ) (known known' : Gt) (at at' : ℕ) (cs s s' : List ℕ) {g : Gt}
    → ascending people cs ≡ true → at ≤ length s → at' ≤ length s' → SameGt people cs s s' known known'
    → drop at' s' ≡ chosen_fields people cs n at (drop at s)
    → formats strings people gt alleles n earlier known at (drop at s) ≡ Ok g
    → Block strings people gt alleles n earlier known' at' cs s s' g
unfolding chosen_fields
formats_chosen_fields strings people gt alleles zero earlier known known' at at' cs s s' c i i' k e h =
    record {
      known = known';
      read = rw e (formats_none strings (length cs) gt alleles earlier known' at');
      same = rw (formats_ended strings people gt alleles earlier known at (drop at s) h) at k;
    }
formats_chosen_fields strings people gt alleles (suc n) earlier known known' at at' cs s s' {g} c i i' k e h =
    let l = drop at s in
    let j = formats_field strings people gt alleles n earlier known at l h in
    let first = j.first in
    let stop = j.stop in
    let a = j.key_later in
    let b = j.later in
    let d = j.ends in
    let o = rw (length-drop at s) at j.inside in
    let size = j.len * width_of j.code in
    let els = chosen_parts size cs (drop (first - at) l) in
    let m = chosen_fields people cs n stop (drop (stop - at) l) in
    let split : drop at' s' ≡ take (first - at) l ++ (els ++ m) = rw j.field at e in
    let x = length_judged strings people gt alleles n earlier known at l cs c j in
    let y : length (take (first - at) l) ≡ first - at = length-take-le (first - at) l (rw (length-drop at s) (omega arith)) in
    let first' = at' + (first - at) in
    let stop' = first' + length cs * j.len * width_of j.code in
    let u : drop first' s' ≡ els ++ m =
    sym (drop_on s' at' first' (omega arith)) ∙ ap (drop (first' - at')) split
    ∙ drop_at (take (first - at) l) (els ++ m) (first' - at') (rw y (omega arith)) in
    let v : drop stop' s' ≡ m =
    sym (drop_on s' first' stop' (omega arith)) ∙ ap (drop (stop' - first')) u ∙ drop_at els m (stop' - first') (rw x (omega arith)) in
    let w : length (drop at' s') ≡ first - at + length cs * j.len * width_of j.code + length m =
    rw (split, length-append, length-append, x, y) (omega arith) in
    let w' = rw (length-drop at' s') at w in
    let p = drop_on s at stop (omega arith) in
    let q = drop_on s at first (omega arith) in
    let here : SameGt people cs s s' (gt_at j.code j.len first) (gt_at j.code j.len first') =
    record {
      code = refl;
      len = refl;
      inside = omega arith;
      inside' = omega arith;
      elements = rw (
        u,
        take_at els m (length cs * j.len * width_of j.code) x,
        mul_assoc people j.len (width_of j.code),
        chosen_parts_take size 0 people cs (drop first s) c,
        q,
      );
    } in
    let known1 = gt_now j.key gt (gt_at j.code j.len first) known in
    let known1' = gt_now j.key gt (gt_at j.code j.len first') known' in
    let now = same_now people cs s s' j.key gt _ _ known known' here k in
    let on : formats strings people gt alleles n (earlier ++ (j.key ∷ [])) known1 stop (drop stop s) ≡ Ok g = rw p at j.on in
    let r = formats_chosen_fields strings people gt alleles n (earlier ++ (j.key ∷ [])) known1 known1' stop stop' cs s s' c (omega arith) (omega arith) now
    (rw p at v) on in
    block_on strings people gt alleles n earlier (earlier ++ (j.key ∷ [])) known' known1' at' stop' cs s s' (take (first - at) l ++ (els ++ m)) m g split v
    (formats_chosen_field strings people gt alleles n earlier known known' at at' l cs m c j) r
