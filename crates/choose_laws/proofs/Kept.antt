-- A FORMAT field that is there, with the chosen people's elements in place of everybody's and before whatever follows: what is read of it.
-- Rests on fetch_laws' Fronts and proofs/Filled.
use mathlib.Core.Path.{◌≡◌, sym, ◌∙◌}
use mathlib.Core.List.{List, ◌++◌}
use mathlib.Core.Bool.{true}
use Prim.Native.Nat.{ℕ, ◌+◌, ◌-◌, ◌*◌, ◌≤◌}
use native.Mathlib.Omega.{arith}
use native.Mathlib.Nat.{mul_assoc}
use lib.ListN.{length, take, drop, length-drop}
use lib.Seq.{drop-drop, take_at, drop_at, length-take-le}
use Rattle.types.specs.Rows.{width_of}
use Rattle.types.specs.declared.Use.TheVariants.{Format}
use Rattle.fetch.specs.Fields.{paired, found_field}
use Rattle.choice.specs.Choice.{ascending, chosen_parts}
use Rattle.choice.proofs.Choice.{length_chosen_parts}
use Rattle.choose_laws.proofs.Filled.{Fill}
use Rattle.fetch_laws.proofs.Fronts.{paired_front}

-- a list that begins with such a field: the field, and the list's parts
pub record Kept (key code len front at k : ℕ) (before els m x : List ℕ) : Type 0 where
  pub here : paired k Format at x ≡ found_field key code len (at + front) (at + front + k * len * width_of code)
  pub head : take (at + front - at) x ≡ before
  pub elements : drop (at + front - at) x ≡ els ++ m
  pub rest : drop (at + front + k * len * width_of code - at) x ≡ m

-- all people's elements are there
pub room : (people at : ℕ) (l : List ℕ) {After : ℕ → List ℕ → Type 0} (h : Fill people at l After)
    → people * (h.len * width_of h.code) ≤ length (drop (h.first - at) l)
room people at l h =
    let a = h.later in
    let b = h.ends in
    let c = h.inside in
    rw (sym (mul_assoc people h.len (width_of h.code)), length-drop (h.first - at) l) (omega arith)

pub kept : (people at at' : ℕ) (cs l m : List ℕ) {After : ℕ → List ℕ → Type 0} (h : Fill people at l After) → ascending people cs ≡ true
    → Kept h.key h.code h.len (h.first - at) at' (length cs) (take (h.first - at) l)
    (chosen_parts (h.len * width_of h.code) cs (drop (h.first - at) l)) m
    (take (h.first - at) l ++ (chosen_parts (h.len * width_of h.code) cs (drop (h.first - at) l) ++ m))
kept people at at' cs l m h p =
    let w = width_of h.code in
    let k = length cs in
    let a = h.later in
    let b = h.ends in
    let c = h.inside in
    let front = h.first - at in
    let els = chosen_parts (h.len * w) cs (drop front l) in
    let i : length els ≡ k * h.len * w =
    length_chosen_parts (h.len * w) 0 people cs (drop front l) p (room people at l h) ∙ sym (mul_assoc k h.len w) in
    let j : length (take front l) ≡ at' + front - at' = length-take-le front l (omega arith) ∙ omega arith in
    let u : drop (at' + front - at') (take front l ++ (els ++ m)) ≡ els ++ m = drop_at (take front l) (els ++ m) (at' + front - at') j in
    let v : at' + front + k * h.len * w - at' ≡ at' + front - at' + k * h.len * w = omega arith in
    record {
      here = paired_front people k Format at at' l els m h.key h.code h.len h.first h.stop h.here i;
      head = take_at (take front l) (els ++ m) (at' + front - at') j;
      elements = u;
      rest = rw (v, sym (drop-drop (k * h.len * w) (at' + front - at') (take front l ++ (els ++ m))), u) (drop_at els m (k * h.len * w) i);
    }
