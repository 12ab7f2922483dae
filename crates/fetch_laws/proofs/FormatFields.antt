-- FORMAT fields that reading judged sound are passed to the same end: GT's types are FORMAT's too. Rests on proofs/Agree and on the
-- definitions of genotypes.
use mathlib.Core.Path.{◌≡◌, refl, ◌∙◌}
use mathlib.Core.List.{List, [], ◌∷◌, ◌++◌}
use mathlib.Core.Bool.{Bool, true, false}
use Prim.Native.Nat.{ℕ, zero, suc, ◌+◌, ◌-◌, ◌*◌, ◌/◌, ◌%◌, ◌≤◌}
use native.Mathlib.Omega.{arith}
use lib.Dec.{eqb, ltb}
use lib.ListN.{length, get_or, drop, length-drop}
use Rattle.words.specs.Lists.{among}
use Rattle.words.specs.Pick.{pick}
use Rattle.words.specs.Words.{outside}
use Rattle.types.specs.Rows.{rows, row_of, width_of, unused}
use Rattle.types.specs.declared.Row.{Row}
use Rattle.types.specs.declared.Use.TheVariants.{Format as FormatUse, Gt as GtUse}
use Rattle.values.specs.Answers.{IntegerInside, no_integer, one, no_descriptor, typed, Answer, whole}
use Rattle.values.specs.Values.{integer, in_dictionary, keyed, with_length, true_length, may_stand, described, with_elements, present}
use Rattle.vectors.specs.Sound.{sound}
use Rattle.site.specs.Steps.{times}
use Rattle.genotypes.specs.Formats.{with_value, after_key, format_field, Before, Came, after_field, format_step, and_on, so_many, all_read, formats, no_field, role_of, gt_now, gt_at}
use Rattle.genotypes.specs.declared.Gt.{Gt}
use Rattle.fetch.specs.Fields.{value_field, pair_field, paired, found_field}
use Rattle.fetch.specs.Engine.{field_step, passing}
use Rattle.fetch.specs.declared.Kind.TheVariants.{Format}
use Rattle.fetch.proofs.Inside.{keyed_inside}
use Rattle.fetch_laws.specs.InTurn.{format_value, format}
use Rattle.fetch_laws.proofs.Rows.{implied, each}
use Rattle.fetch_laws.proofs.Agree.{sound_there, sound_past, value_passed}
use Rattle.values.specs.declared.Value.{Value}
use Rattle.values.specs.declared.Descriptor.{Descriptor}
use Rattle.std.specs.Prelude.{Err, Ok}
use Rattle.values.specs.declared.Integer.{Integer}
use Rattle.fetch_laws.proofs.Present.{present_typed}

-- a row that allows GT allows FORMAT, at each row of the table
abbrev wider : Row → Bool
wider r = pick r.gt r.format true

gt_format : (t : ℕ) → (row_of t).gt ≡ true → (row_of t).format ≡ true
unfolding row_of
gt_format t h = implied (get_or rows t unused).gt (get_or rows t unused).format (each wider rows unused t refl refl) h

-- and so does a descriptor: type 0 has length 0 for both
wider_test : (a b c : Bool) → (a ≡ true → b ≡ true) → pick a c false ≡ true → pick b c false ≡ true
wider_test true b c f h = rw (f refl) h
wider_test false b c f h = cc

gt_stands : (t n : ℕ) → may_stand GtUse t n ≡ true → may_stand FormatUse t n ≡ true
unfolding may_stand
gt_stands t n h = wider_test (row_of t).gt (row_of t).format (pick (eqb t 0) (eqb n 0) true) (gt_format t) h

-- a test that lets more through, before the same answers
more_typed : (b c : Bool) (x : Answer Descriptor) (at : ℕ) {t n first : ℕ} → (b ≡ true → c ≡ true)
    → pick b x (no_descriptor 6 at) ≡ typed t n first → pick c x (no_descriptor 6 at) ≡ typed t n first
more_typed true true x at f h = h
more_typed true false x at f h = let z = f refl in cc
more_typed false c x at f h = cc

gt_described : (at : ℕ) (l : List ℕ) {t n first : ℕ} → described GtUse at l ≡ typed t n first → described FormatUse at l ≡ typed t n first
unfolding described
gt_described at [] h = h
gt_described at (d ∷ rest) h =
    more_typed (may_stand GtUse (d % 16) (d / 16)) (may_stand FormatUse (d % 16) (d / 16))
    (pick (ltb (d / 16) 15) (typed (d % 16) (d / 16) (at + 1)) (with_length (d % 16) (true_length (at + 1) rest))) at
    (gt_stands (d % 16) (d / 16)) h

role_described : (b : Bool) (at : ℕ) (l : List ℕ) (t n first : ℕ) → described (pick b GtUse FormatUse) at l ≡ typed t n first
    → described FormatUse at l ≡ typed t n first
role_described true at l t n first h = gt_described at l h
role_described false at l t n first h = h

same_elements : (vectors end : ℕ) (d e : Answer Descriptor) {t n first stop : ℕ} → ((t n first : ℕ) → d ≡ typed t n first → e ≡ typed t n first)
    → with_elements vectors end d ≡ whole t n first stop → with_elements vectors end e ≡ whole t n first stop
same_elements vectors end (Err r) e f h = cc
same_elements vectors end (Ok d) e f h = rw (f d.code d.len d.first refl) h

pub format_there : (people alleles key gt at : ℕ) (l : List ℕ) (t n first stop : ℕ)
    → sound people alleles (role_of key gt) at l ≡ whole t n first stop → present people FormatUse at l ≡ whole t n first stop
unfolding present role_of
format_there people alleles key gt at l t n first stop h =
    same_elements people (at + length l) (described (pick (eqb key gt) GtUse FormatUse) at l) (described FormatUse at l)
    (role_described (eqb key gt) at l) (sound_there people alleles (role_of key gt) at l t n first stop h)

-- what reading judged of a FORMAT field is passed to the same place
format_value_lem : (strings people gt alleles at : ℕ) (l : List ℕ) (i : Answer Integer) {q : ℕ}
    → format_value people gt alleles at l (in_dictionary strings at i) ≡ Ok q → field_step (pair_field people FormatUse at l i) ≡ Ok q
format_value_lem strings people gt alleles at l (Err r) h = h
format_value_lem strings people gt alleles at l (Ok i) h = by_key (outside strings i.bits) h
  where
    by_key : (b : Bool) {q' : ℕ} → format_value people gt alleles at l (pick b (no_integer 8 (at + 1)) (one i.bits i.next)) ≡ Ok q'
        → field_step (value_field i.bits (present people FormatUse i.next (drop (i.next - at) l))) ≡ Ok q'
    by_key true e = cc
    by_key false e =
        value_passed i.bits (present people FormatUse i.next (drop (i.next - at) l))
        ∙ sound_past (sound people alleles (role_of i.bits gt) i.next (drop (i.next - at) l)) (present people FormatUse i.next (drop (i.next - at) l)) (format_there people alleles i.bits gt i.next (drop (i.next - at) l)) e

pub format_passed : (strings people gt alleles at : ℕ) (l : List ℕ) (q : ℕ) → format strings people gt alleles at l ≡ Ok q
    → passing Format people at l ≡ Ok q
unfolding format passing paired keyed
format_passed strings people gt alleles at l q h = format_value_lem strings people gt alleles at l (integer at l) h

-- a key in the dictionary is an integer
pub keyed_integer : (strings at : ℕ) (l : List ℕ) (x next : ℕ) → keyed strings at l ≡ one x next → integer at l ≡ one x next
unfolding keyed
keyed_integer strings at l x next h = by-integer (integer at l) h
  where
    by-test : (y q : ℕ) (a : Bool) → pick a (no_integer 8 (at + 1)) (one y q) ≡ one x next → one y q ≡ one x next
    by-test y q true e = cc
    by-test y q false e = e

    by-integer : (i : Answer Integer) → in_dictionary strings at i ≡ one x next → i ≡ one x next
    by-integer (Err r) e = cc
    by-integer (Ok i) e = by-test i.bits i.next (outside strings i.bits) e

-- a FORMAT field that is judged sound before the rest of its block: its key, its value, and what follows them
pub record JudgedField (strings people gt alleles n : ℕ) (earlier : List ℕ) (known : Gt) (at : ℕ) (l : List ℕ) (g : Gt) : Type 0 where
  pub key : ℕ
  pub next : ℕ
  pub code : ℕ
  pub len : ℕ
  pub first : ℕ
  pub stop : ℕ
  pub number : keyed strings at l ≡ one key next
  pub once : among key earlier ≡ false
  pub value : sound people alleles (role_of key gt) next (drop (next - at) l) ≡ whole code len first stop
  pub field : paired people FormatUse at l ≡ found_field key code len first stop
  pub ends : stop ≡ first + people * len * width_of code
  pub key_later : at ≤ next
  pub later : next ≤ first
  pub inside : stop ≤ at + length l
  pub on : formats strings people gt alleles n (earlier ++ (key ∷ [])) (gt_now key gt (gt_at code len first) known) stop (drop (stop - at) l) ≡ Ok g

-- the first field of a block that is sound
pub formats_field : (strings people gt alleles n : ℕ) (earlier : List ℕ) (known : Gt) (at : ℕ) (l : List ℕ) {g : Gt}
    → formats strings people gt alleles (suc n) earlier known at l ≡ Ok g → JudgedField strings people gt alleles n earlier known at l g
unfolding format_field so_many formats paired
formats_field strings people gt alleles n earlier known at l {g} h = by_key (keyed strings at l) refl (keyed_inside strings at l) h
  where
    before : Before
    before = record { earlier = earlier; known = known; at = at; left = l }

    rest : Before → Came
    rest = so_many (format_step strings people gt alleles) n

    by_value : (key next : ℕ) (c : Bool) (v : Answer Value) → keyed strings at l ≡ one key next → at ≤ next → next ≤ at + length l
        → among key earlier ≡ c → sound people alleles (role_of key gt) next (drop (next - at) l) ≡ v
        → all_read (and_on (after_field gt before (pick c (no_field 11 (at + 1)) (with_value key v))) rest) ≡ Ok g
        → JudgedField strings people gt alleles n earlier known at l g
    by_value key next true v p a b q s e = let z : ◌≡◌ {A = ℕ} 0 1 = cc in absurd (omega arith)
    by_value key next false (Err r) p a b q s e = let z : ◌≡◌ {A = ℕ} 0 1 = cc in absurd (omega arith)
    by_value key next false (Ok v) p a b q s e =
        let there = format_there people alleles key gt next (drop (next - at) l) v.code v.len v.first v.stop s in
        let i = present_typed people FormatUse next (drop (next - at) l) v.code v.len v.first v.stop there in
        let x = i.ends in
        let y = i.later in
        let z = rw (length-drop (next - at) l) at i.inside in
        record {
          key = key;
          next = next;
          code = v.code;
          len = v.len;
          first = v.first;
          stop = v.stop;
          number = p;
          once = q;
          value = s;
          field = rw (keyed_integer strings at l key next p, there);
          ends = x;
          key_later = a;
          later = y;
          inside = omega arith;
          on = e;
        }

    by_key : (i : Answer Integer) → keyed strings at l ≡ i → IntegerInside at (at + length l) i
        → all_read (and_on (after_field gt before (after_key people gt alleles earlier at l i)) rest) ≡ Ok g → JudgedField strings people gt alleles n earlier known at l g
    by_key (Err r) p k e = let z : ◌≡◌ {A = ℕ} 0 1 = cc in absurd (omega arith)
    by_key (Ok i) p k e =
        by_value i.bits i.next (among i.bits earlier) (sound people alleles (role_of i.bits gt) i.next (drop (i.next - at) l)) p (omega arith) (omega arith) refl refl e

-- so many FORMAT fields that are sound
pub record Ends (strings people gt alleles n at : ℕ) (l : List ℕ) : Type 0 where
  pub end : ℕ
  pub walked : times (format strings people gt alleles) n at l ≡ Ok end

pub formats_judged : (strings people gt alleles n : ℕ) (earlier : List ℕ) (known : Gt) (at : ℕ) (l : List ℕ) {g : Gt}
    → formats strings people gt alleles n earlier known at l ≡ Ok g → Ends strings people gt alleles n at l
unfolding times format
formats_judged strings people gt alleles zero earlier known at l h = record { end = at; walked = refl }
formats_judged strings people gt alleles (suc n) earlier known at l h =
    let j = formats_field strings people gt alleles n earlier known at l h in
    let r = formats_judged strings people gt alleles n _ _ j.stop (drop (j.stop - at) l) j.on in
    record { end = r.end; walked = rw (j.number, j.value) r.walked }
