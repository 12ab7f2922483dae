-- The genotype block in turn: it is sound where each field is judged sound in turn, no byte is over and no key stands twice, and GT is the one field
-- with GT's key. Rests on specs/InTurn, proofs/Turns, proofs/FormatFields and the definitions of genotypes.
use mathlib.Core.Path.{◌≡◌, refl, sym, ◌∙◌}
use mathlib.Core.List.{List, [], ◌∷◌, ◌++◌}
use mathlib.Core.Bool.{Bool, true, false}
use Prim.Native.Nat.{ℕ, zero, suc, ◌+◌, ◌-◌, ◌≤◌}
use native.Mathlib.Nat.{sub_self}
use native.Mathlib.Omega.{arith}
use lib.Dec.{eqb}
use lib.ListN.{length, drop, replicate}
use borrow.Author.Tests.{ne_eqb}
use Rattle.words.specs.Lists.{among}
use Rattle.words.specs.Pick.{pick}
use Rattle.words.proofs.Pick.{pick_test}
use Rattle.types.specs.declared.Use.TheVariants.{Format as FormatUse}
use Rattle.values.specs.Answers.{IntegerInside, Answer, one, whole}
use Rattle.values.specs.Values.{keyed}
use Rattle.vectors.specs.Sound.{sound}
use Rattle.facts.specs.declared.Facts.{Facts}
use Rattle.fixed.specs.declared.Site.{Site}
use Rattle.site.specs.Steps.{value_step}
use Rattle.genotypes.specs.Formats.{format_field, so_many, formats, none_over, role_of, gt_now, gt_at, no_gt}
use Rattle.genotypes.specs.declared.Gt.{Gt}
use Rattle.fetch.specs.Fields.{paired, found_field}
use Rattle.fetch.specs.Account.{fields_of}
use Rattle.fetch.specs.declared.Kind.TheVariants.{Format}
use Rattle.fetch.proofs.Inside.{keyed_inside, drop_past}
use Rattle.fetch_laws.specs.InTurn.{format_value, format, judging, in_turn, NoneTwice, keys_of, gt_in}
use Rattle.fetch_laws.proofs.Agree.{went}
use Rattle.fetch_laws.proofs.FormatFields.{format_there, keyed_integer, formats_field}
use Rattle.fetch_laws.proofs.Present.{present_typed}
use Rattle.values.specs.declared.Value.{Value}
use Rattle.std.specs.Prelude.{Err, Ok}
use Rattle.values.specs.declared.Integer.{Integer}
use Rattle.fetch_laws.proofs.Turns.{turns_within}

-- among keys and one more: among them, or that one
pub among_more : (x key : ℕ) (earlier : List ℕ) → among x (earlier ++ (key ∷ [])) ≡ pick (among x earlier) true (eqb key x)
unfolding among
among_more x key [] = pick_test (eqb key x)
among_more x key (y ∷ ys) = rw (among_more x key ys) (by-test (eqb y x))
  where
    by-test : (b : Bool) → pick b true (pick (among x ys) true (eqb key x)) ≡ pick (pick b true (among x ys)) true (eqb key x)
    by-test true = refl
    by-test false = refl

-- a key that stood earlier is another than one that did not
other_key : (key x : ℕ) (earlier : List ℕ) → among key earlier ≡ false → among x earlier ≡ true → eqb key x ≡ false
other_key key x earlier h k = ne_eqb key x (λ e. let y = rw e at h in let z : ◌≡◌ {A = ℕ} 0 1 = cc in absurd (omega arith))

-- no field is left, and no byte
none_over_lem : (known : Gt) (at : ℕ) (l : List ℕ) {g : Gt} → none_over known at l ≡ Ok g → (l ≡ []) × (known ≡ g)
none_over_lem known at [] h = (refl, cc)
none_over_lem known at (b ∷ rest) h = let z : ◌≡◌ {A = ℕ} 0 1 = cc in absurd (omega arith)

-- so many FORMAT fields that are sound: each is judged sound in turn, to the last byte, and no key stands twice
pub record Turns (f : Facts) (t : Site) (n : ℕ) (earlier : List ℕ) (at : ℕ) (l : List ℕ) : Type 0 where
  pub end : ℕ
  pub walked : in_turn (judging f t) (replicate n Format) at l ≡ Ok end
  pub over : drop (end - at) l ≡ []
  pub once : NoneTwice earlier (keys_of (fields_of f.people (replicate n Format) at l))

pub formats_turns : (f : Facts) (t : Site) (n : ℕ) (earlier : List ℕ) (known : Gt) (at : ℕ) (l : List ℕ) {g : Gt}
    → formats f.strings f.people f.gt t.alleles n earlier known at l ≡ Ok g → Turns f t n earlier at l
unfolding format_field so_many formats format in_turn fields_of
formats_turns f t zero earlier known at l h =
    record { end = at; walked = refl; over = rw (sub_self at) (none_over_lem known at l h).0; once = tt }
formats_turns f t (suc n) earlier known at l h =
    let j = formats_field f.strings f.people f.gt t.alleles n earlier known at l h in
    let r = formats_turns f t n _ _ j.stop (drop (j.stop - at) l) j.on in
    let i = turns_within f t (replicate n Format) j.stop (drop (j.stop - at) l) r.walked in
    let a = j.key_later in
    let b = j.later in
    let c = j.ends in
    record {
      end = r.end;
      walked = rw (j.number, j.value) r.walked;
      over = rw (drop_past l at j.stop r.end (omega arith) i.0) at r.over;
      once = rw j.field (j.once, r.once);
    }

-- a FORMAT field that is judged sound: its key, and its value after it
record Judged (f : Facts) (t : Site) (at : ℕ) (l : List ℕ) (stop : ℕ) : Type 0 where
  key : ℕ
  next : ℕ
  code : ℕ
  len : ℕ
  first : ℕ
  number : keyed f.strings at l ≡ one key next
  value : sound f.people t.alleles (role_of key f.gt) next (drop (next - at) l) ≡ whole code len first stop
  field : paired f.people FormatUse at l ≡ found_field key code len first stop
  key_later : at ≤ next
  later : next ≤ stop

judged_field : (f : Facts) (t : Site) (at : ℕ) (l : List ℕ) (stop : ℕ) → judging f t Format at l ≡ Ok stop → Judged f t at l stop
unfolding format paired
judged_field f t at l stop h = by_key (keyed f.strings at l) refl (keyed_inside f.strings at l) h
  where
    by_value : (key next : ℕ) (v : Answer Value) → keyed f.strings at l ≡ one key next → at ≤ next
        → sound f.people t.alleles (role_of key f.gt) next (drop (next - at) l) ≡ v → value_step v ≡ Ok stop → Judged f t at l stop
    by_value key next (Err r) p a s e = let z : ◌≡◌ {A = ℕ} 0 1 = cc in absurd (omega arith)
    by_value key next (Ok v') p a s e =
        let z : v'.stop ≡ stop = cc in
        let v = rw z at s in
        let there = format_there f.people t.alleles key f.gt next (drop (next - at) l) v'.code v'.len v'.first stop v in
        let i = present_typed f.people FormatUse next (drop (next - at) l) v'.code v'.len v'.first stop there in
        let x = i.ends in
        let y = i.later in
        record {
          key = key;
          next = next;
          code = v'.code;
          len = v'.len;
          first = v'.first;
          number = p;
          value = v;
          field = rw (keyed_integer f.strings at l key next p, there);
          key_later = a;
          later = omega arith;
        }

    by_key : (i : Answer Integer) → keyed f.strings at l ≡ i → IntegerInside at (at + length l) i → format_value f.people f.gt t.alleles at l i ≡ Ok stop
        → Judged f t at l stop
    by_key (Err r) p k e = let z : ◌≡◌ {A = ℕ} 0 1 = cc in absurd (omega arith)
    by_key (Ok i) p k e =
        by_value i.bits i.next (sound f.people t.alleles (role_of i.bits f.gt) i.next (drop (i.next - at) l)) p (omega arith) refl e

-- the other way: fields that are judged sound in turn, to the last byte, and no key twice
pub record Sounds (f : Facts) (t : Site) (n : ℕ) (earlier : List ℕ) (known : Gt) (at : ℕ) (l : List ℕ) : Type 0 where
  pub gt : Gt
  pub all : formats f.strings f.people f.gt t.alleles n earlier known at l ≡ Ok gt

pub turns_formats : (f : Facts) (t : Site) (n : ℕ) (earlier : List ℕ) (known : Gt) (at : ℕ) (l : List ℕ) {e : ℕ}
    → in_turn (judging f t) (replicate n Format) at l ≡ Ok e → drop (e - at) l ≡ []
    → NoneTwice earlier (keys_of (fields_of f.people (replicate n Format) at l)) → Sounds f t n earlier known at l
unfolding format_field so_many formats in_turn fields_of
turns_formats f t zero earlier known at l {e} h o k =
    let z : at ≡ e = cc in
    let d : l ≡ [] = rw (← z, sub_self at) at o in
    record { gt = known; all = rw d }
turns_formats f t (suc n) earlier known at l {e} h o k =
    let w = went at l (judging f t Format at l) (in_turn (judging f t) (replicate n Format)) h in
    let q = w.place in
    let j = judged_field f t at l q w.here in
    let i = turns_within f t (replicate n Format) q (drop (q - at) l) w.on in
    let a = j.key_later in
    let b = j.later in
    let c = rw j.field at k in
    let r = turns_formats f t n (earlier ++ (j.key ∷ [])) (gt_now j.key f.gt (gt_at j.code j.len j.first) known) q (drop (q - at) l) w.on
    (rw (drop_past l at q e (omega arith) i.0) o) c.1 in
    record { gt = r.gt; all = rw (j.number, c.0, j.value) r.all }

-- GT, once it is known, stays: its key does not stand again
gt_kept : (f : Facts) (t : Site) (n : ℕ) (earlier : List ℕ) (known : Gt) (at : ℕ) (l : List ℕ) {g : Gt} → among f.gt earlier ≡ true
    → formats f.strings f.people f.gt t.alleles n earlier known at l ≡ Ok g → known ≡ g
unfolding format_field so_many formats gt_now
gt_kept f t zero earlier known at l h e = (none_over_lem known at l e).1
gt_kept f t (suc n) earlier known at l h e =
    let j = formats_field f.strings f.people f.gt t.alleles n earlier known at l e in
    gt_kept f t n (earlier ++ (j.key ∷ [])) known j.stop (drop (j.stop - at) l) (rw (among_more f.gt j.key earlier, h))
    (rw (other_key j.key f.gt earlier j.once h) at j.on)

-- and it is the field with GT's key
pub formats_gt : (f : Facts) (t : Site) (n : ℕ) (earlier : List ℕ) (at : ℕ) (l : List ℕ) {g : Gt}
    → formats f.strings f.people f.gt t.alleles n earlier no_gt at l ≡ Ok g
    → g ≡ gt_in f.gt (fields_of f.people (replicate n Format) at l)
unfolding format_field so_many formats gt_now gt_in fields_of
formats_gt f t zero earlier at l h = sym (none_over_lem no_gt at l h).1
formats_gt f t (suc n) earlier at l {g} h =
    let j = formats_field f.strings f.people f.gt t.alleles n earlier no_gt at l h in
    rw j.field (by-test j.key j.code j.len j.first j.stop (eqb j.key f.gt) refl j.on
    (formats_gt f t n (earlier ++ (j.key ∷ [])) j.stop (drop (j.stop - at) l)))
  where
    on : ℕ → ℕ → Gt → Type 0
    on key stop known = formats f.strings f.people f.gt t.alleles n (earlier ++ (key ∷ [])) known stop (drop (stop - at) l) ≡ Ok g

    rest : ℕ → Gt
    rest stop = gt_in f.gt (fields_of f.people (replicate n Format) stop (drop (stop - at) l))

    by-test : (key code len first stop : ℕ) (b : Bool) → eqb key f.gt ≡ b → on key stop (pick b (gt_at code len first) no_gt)
        → (on key stop no_gt → g ≡ rest stop) → g ≡ pick b (gt_at code len first) (rest stop)
    by-test key code len first stop true p k step =
        let z = among_more f.gt key earlier in
        sym (gt_kept f t n (earlier ++ (key ∷ [])) (gt_at code len first) stop (drop (stop - at) l) (rw p at z ∙ either (among f.gt earlier)) k)
      where
        either : (c : Bool) → pick c true true ≡ true
        either true = refl
        either false = refl
    by-test key code len first stop false p k step = step k
