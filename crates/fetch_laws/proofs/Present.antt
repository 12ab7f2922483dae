-- A value and a field that are there: the descriptor, the key, and where they end. Rests on fetch/specs/Fetch and fetch/proofs/Inside.
use mathlib.Core.Path.{◌≡◌, refl, sym}
use mathlib.Core.List.{List}
use mathlib.Core.Bool.{Bool, true, false}
use Prim.Native.Nat.{ℕ, ◌+◌, ◌-◌, ◌*◌, ◌≤◌}
use native.Mathlib.Omega.{arith}
use lib.Dec.{leb}
use lib.ListN.{length, drop}
use Rattle.words.specs.Pick.{pick}
use Rattle.types.specs.Rows.{width_of}
use Rattle.types.specs.declared.Use.{Use}
use Rattle.values.specs.Answers.{no_value, whole, IntegerInside, ValueInside, Answer, one, typed}
use Rattle.values.specs.Values.{integer, described, with_elements, present}
use Rattle.fetch.specs.declared.Found.{Found}
use Rattle.fetch.specs.Fields.{value_field, pair_field, paired, found_field}
use Rattle.values.specs.declared.Value.{Value}
use Rattle.values.specs.declared.Descriptor.{Descriptor}
use Rattle.std.specs.Prelude.{Err, Ok}
use Rattle.values.specs.declared.Integer.{Integer}
use Rattle.values.proofs.Held.{same_whole}
use Rattle.fetch.proofs.Held.{same_field}
use Rattle.fetch.proofs.Inside.{integer_inside, present_inside}

-- a value that is there: its descriptor, and where it ends
pub record There (vectors : ℕ) (role : Use) (at : ℕ) (l : List ℕ) (t n first stop : ℕ) : Type 0 where
  pub descriptor : described role at l ≡ typed t n first
  pub ends : stop ≡ first + vectors * n * width_of t
  pub later : at ≤ first
  pub inside : stop ≤ at + length l

pub present_typed : (vectors : ℕ) (role : Use) (at : ℕ) (l : List ℕ) (t n first stop : ℕ) → present vectors role at l ≡ whole t n first stop
    → There vectors role at l t n first stop
unfolding present
present_typed vectors role at l t n first stop h =
    by-descriptor (described role at l) refl h (rw h at (present_inside vectors role at l))
  where
    by-test : (t' n' first' : ℕ) (a : Bool) → described role at l ≡ typed t' n' first'
        → pick a (whole t' n' first' (first' + vectors * n' * width_of t')) (no_value 3 (at + length l)) ≡ whole t n first stop
        → ValueInside at (at + length l) (whole t n first stop) → There vectors role at l t n first stop
    by-test t' n' first' false p e i = let z : ◌≡◌ {A = ℕ} 0 1 = cc in absurd (omega arith)
    by-test t' n' first' true p e i =
        let k = same_whole e in
        let d : described role at l ≡ typed t n first = rw (p, k.0, k.1, k.2) in
        let s : stop ≡ first + vectors * n * width_of t = rw (sym k.3, k.0, k.1, k.2) in
        record { descriptor = d; ends = s; later = omega arith; inside = omega arith }

    by-descriptor : (d : Answer Descriptor) → described role at l ≡ d → with_elements vectors (at + length l) d ≡ whole t n first stop
        → ValueInside at (at + length l) (whole t n first stop) → There vectors role at l t n first stop
    by-descriptor (Err r) p e i = let z : ◌≡◌ {A = ℕ} 0 1 = cc in absurd (omega arith)
    by-descriptor (Ok d) p e i = by-test d.code d.len d.first (leb (d.first + vectors * d.len * width_of d.code) (at + length l)) p e i

-- a field that is there: its key, and its value after it
pub record Keyed (vectors : ℕ) (role : Use) (at : ℕ) (l : List ℕ) (key t n first stop : ℕ) : Type 0 where
  pub next : ℕ
  pub number : integer at l ≡ one key next
  pub value : present vectors role next (drop (next - at) l) ≡ whole t n first stop
  pub later : at ≤ next
  pub inside : next ≤ at + length l

pub paired_keyed : (vectors : ℕ) (role : Use) (at : ℕ) (l : List ℕ) (key t n first stop : ℕ) → paired vectors role at l ≡ found_field key t n first stop
    → Keyed vectors role at l key t n first stop
unfolding paired
paired_keyed vectors role at l key t n first stop h = by_key (integer at l) refl (integer_inside at l) h
  where
    by_value : (x next : ℕ) (v : Answer Value) → integer at l ≡ one x next → at ≤ next → next ≤ at + length l
        → present vectors role next (drop (next - at) l) ≡ v → value_field x v ≡ found_field key t n first stop
        → Keyed vectors role at l key t n first stop
    by_value x next (Err r) p a b q e = let z : ◌≡◌ {A = ℕ} 0 1 = cc in absurd (omega arith)
    by_value x next (Ok v) p a b q e =
        let k = same_field e in
        let i : integer at l ≡ one key next = rw (p, k.0) in
        let j : present vectors role next (drop (next - at) l) ≡ whole t n first stop = rw (q, k.1, k.2, k.3, k.4) in
        record { next = next; number = i; value = j; later = a; inside = b }

    by_key : (i : Answer Integer) → integer at l ≡ i → IntegerInside at (at + length l) i → pair_field vectors role at l i ≡ found_field key t n first stop
        → Keyed vectors role at l key t n first stop
    by_key (Err r) p k e = let z : ◌≡◌ {A = ℕ} 0 1 = cc in absurd (omega arith)
    by_key (Ok i) p k e = by_value i.bits i.next (present vectors role i.next (drop (i.next - at) l)) p (omega arith) (omega arith) refl e

-- a field ends where so many vectors of its length do
pub paired_stop : (vectors : ℕ) (role : Use) (at : ℕ) (l : List ℕ) {x : Found}
    → paired vectors role at l ≡ Ok x → x.stop ≡ x.place + vectors * x.len * width_of x.code
paired_stop vectors role at l {x = x} h =
    let k = paired_keyed vectors role at l x.key x.code x.len x.place x.stop h in
    (present_typed vectors role k.next (drop (k.next - at) l) x.code x.len x.place x.stop k.value).ends
