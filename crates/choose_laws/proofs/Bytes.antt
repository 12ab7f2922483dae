-- The chosen record is what specs/Bytes says of its bytes, and no other list is. Rests on proofs/Filled for the FORMAT fields, on proofs/Sites and on
-- the account.
use mathlib.Core.Path.{◌≡◌, refl, sym, ◌∙◌, ap}
use mathlib.Core.Logic.{◌⊎◌, inl, inr}
use mathlib.Core.List.{List, [], ◌∷◌, ◌++◌, append_assoc}
use mathlib.Core.Bool.{Bool, true, false}
use Prim.Native.Nat.{ℕ, zero, suc, ◌+◌, ◌-◌, ◌*◌, ◌<◌, ◌≤◌}
use native.Mathlib.Omega.{arith}
use native.Mathlib.Nat.{mul_assoc, sub_self, zero-add, suc-add}
use lib.Dec.{ltb}
use lib.ListN.{length, take, drop, get_or, replicate, set, length-drop, length-append, get_or-append}
use lib.Seq.{sets, length-sets, sets-eq, length-take-le, take_at, drop_at, get_or-take, get_or-drop, get_or-set_other, ext_get_or, take-append-le, drop-append-le, take-set-le, take-nil}
use borrow.Author.Tests.{ltb-true, ltb-false}
use Rattle.words.specs.Words.{bytes}
use Rattle.words.proofs.Words.{length_bytes}
use Rattle.words.proofs.Places.{drop_on}
use Rattle.types.specs.Rows.{width_of}
use Rattle.facts.specs.declared.Facts.{Facts}
use Rattle.fixed.specs.Layout.{indiv_at, people_at, members_of}
use Rattle.fixed.specs.declared.Site.{Site}
use Rattle.genotypes.specs.declared.Gt.{Gt}
use Rattle.record.specs.Reading.{reading, accepted_as}
use Rattle.fetch.specs.Account.{fields_of, account, of_kind}
use Rattle.fetch.specs.declared.Kind.TheVariants.{Format}
use Rattle.fetch.proofs.Account.{of_kind_lem}
use Rattle.choice.specs.Choice.{ascending, chosen_parts}
use Rattle.choose.specs.Chosen.{chosen_fields, kept_formats, chosen_block, chosen_site, chosen_record}
use Rattle.choose.proofs.Written.{length_chosen_site}
use Rattle.choose_laws.specs.Bytes.{stretch, chosen_stretches, kept_fields, Apart, ChosenBytes}
use Rattle.choose_laws.proofs.Filled.{Filled, opened, filled}
use Rattle.choose_laws.proofs.Judging.{chosen_parts_take}
use Rattle.choose_laws.proofs.Sites.{drop_chosen_record}

-- a store leaves every byte that it does not reach
get_d_sets : (vs l : List ℕ) (i j : ℕ) → (j < i) ⊎ (i + length vs ≤ j) → get_or (sets l i vs) j 0 ≡ get_or l j 0
get_d_sets [] l i j h = refl
get_d_sets (v ∷ vs) l i j (inl h) = get_d_sets vs (set l i v) (suc i) j (inl (omega arith)) ∙ get_or-set_other l i j v 0 (λ e. omega arith)
get_d_sets (v ∷ vs) l i j (inr h) = get_d_sets vs (set l i v) (suc i) j (inr (omega arith)) ∙ get_or-set_other l i j v 0 (λ e. omega arith)

take_sets : (vs l : List ℕ) (i n : ℕ) → n ≤ i → take n (sets l i vs) ≡ take n l
take_sets [] l i n h = refl
take_sets (v ∷ vs) l i n h = take_sets vs (set l i v) (suc i) n (omega arith) ∙ take-set-le n l i v h

take_drop : (m n : ℕ) (l : List ℕ) → take n (drop m l) ≡ drop m (take (m + n) l)
take_drop zero n l = rw (zero-add n)
take_drop (suc m) n [] = rw (take-nil {A = ℕ} n, take-nil {A = ℕ} (suc m + n))
take_drop (suc m) n (x ∷ l) = rw (suc-add m n) (take_drop m n l)

-- so a stretch before a store stays, and the stretch that is stored is what was stored
stretch_before : (vs l : List ℕ) (i from to : ℕ) → from ≤ to → to ≤ i → stretch from to (sets l i vs) ≡ stretch from to l
stretch_before vs l i from to a h =
    take_drop from (to - from) (sets l i vs) ∙ ap (drop from) (take_sets vs l i (from + (to - from)) (omega arith))
    ∙ sym (take_drop from (to - from) l)

stretch_sets : (vs l : List ℕ) (i to : ℕ) → to ≡ i + length vs → to ≤ length l → stretch i to (sets l i vs) ≡ vs
stretch_sets vs l i to e h =
    let d = drop_at (take i l) (vs ++ drop (i + length vs) l) i (length-take-le i l (omega arith)) in
    ap (λ x. take (to - i) (drop i x)) (sets-eq vs l i (omega arith) ∙ append_assoc (take i l) vs (drop (i + length vs) l)) ∙ ap (take (to - i)) d
    ∙ take_at vs (drop (i + length vs) l) (to - i) (omega arith)

-- a stretch of what stands before something else
stretch_append : (xs ys : List ℕ) (from to : ℕ) → from ≤ to → to ≤ length xs → stretch from to (xs ++ ys) ≡ stretch from to xs
stretch_append xs ys from to a h =
    rw (drop-append-le from xs ys (omega arith)) (take-append-le (to - from) (drop from xs) ys (rw (length-drop from xs) (omega arith)))

-- the FORMAT fields that are there, each for the chosen people
chosen_fields_stretches : (people n at : ℕ) (cs s : List ℕ) → ascending people cs ≡ true → at ≤ length s → Filled people n at (drop at s)
    → chosen_fields people cs n at (drop at s) ≡ chosen_stretches cs s at (fields_of people (replicate n Format) at (drop at s))
unfolding chosen_fields chosen_stretches fields_of
chosen_fields_stretches people zero at cs s c i h = refl
chosen_fields_stretches people (suc n) at cs s c i h =
    let a = h.later in
    let b = h.ends in
    let o = rw (length-drop at s) at h.inside in
    let size = h.len * width_of h.code in
    let v : h.stop - h.first ≡ people * h.len * width_of h.code = omega arith in
    let w : h.stop - h.first ≡ people * size = v ∙ mul_assoc people h.len (width_of h.code) in
    let x = drop_on s at h.first a in
    let y = drop_on s at h.stop (omega arith) in
    let p : chosen_parts size cs (stretch h.first h.stop s) ≡ chosen_parts size cs (drop h.first s) =
    rw w (chosen_parts_take size 0 people cs (drop h.first s) c) in
    let r = chosen_fields_stretches people n h.stop cs s c (omega arith) (rw y at h.rest) in
    rw (h.here, x, y, p, r)

-- the fields that are kept
kept_stretches : (t : Site) (cs s : List ℕ) → ascending t.people cs ≡ true → t.border ≤ length (take t.length s)
    → Filled t.people t.formats t.border (drop t.border (take t.length s))
    → chosen_block t cs s ≡ chosen_stretches cs (take t.length s) t.border (kept_fields cs (of_kind Format (account t s)))
unfolding chosen_block chosen_fields chosen_stretches
kept_stretches t [] s c i h = refl
kept_stretches t (x ∷ cs) s c i h =
    let fields = fields_of t.people (replicate t.formats Format) in
    let e : of_kind Format (account t s) ≡ fields t.border (drop t.border (take t.length s)) =
    rw (sub_self t.border) at (of_kind_lem Format t s) in
    rw e (chosen_fields_stretches t.people t.formats t.border (x ∷ cs) (take t.length s) c i h)

-- the chosen record's bytes
pub chosen_bytes : (f : Facts) (s : List ℕ) (t : Site) (g : Gt) (cs : List ℕ) → reading f s ≡ accepted_as t g → ascending t.people cs ≡ true
    → ChosenBytes t cs s (chosen_record t cs s)
unfolding chosen_record chosen_site
chosen_bytes f s t g cs h c =
    let o = opened f s t g h in
    let x = o.sited in
    let y = o.bordered in
    let z = o.inside in
    let block = chosen_block t cs s in
    let n = length block in
    let l = take t.border s in
    let members = members_of (kept_formats cs t.formats) (length cs) in
    let b : t.border ≤ length s = omega arith in
    let site = chosen_site t cs n s in
    let e : length site ≡ t.border = length_chosen_site t cs n s b in
    let k : length l ≡ t.border = length-take-le t.border s b in
    let p = length_bytes 4 n in
    let q = length_bytes 4 members in
    let j = length-sets l indiv_at (bytes 4 n) in
    let whole : length (chosen_record t cs s) ≡ t.border + n = length-append site block ∙ rw e in
    let left : n ≡ length (chosen_record t cs s) - t.border = omega arith in
    record {
      border = rw whole (omega arith);
      site = λ i a u v.
          get_or-append site block 0 i (omega arith)
          ∙ get_d_sets (bytes 4 members) (sets l indiv_at (bytes 4 n)) people_at i (rw q v)
          ∙ get_d_sets (bytes 4 n) l indiv_at i (rw p u) ∙ get_or-take t.border s i 0 a;
      indiv = stretch_append site block indiv_at (indiv_at + 4) (omega arith) (omega arith)
          ∙ stretch_before (bytes 4 members) (sets l indiv_at (bytes 4 n)) people_at indiv_at (indiv_at + 4) (omega arith) (omega arith)
          ∙ stretch_sets (bytes 4 n) l indiv_at (indiv_at + 4) (omega arith) (omega arith)
          ∙ ap (bytes 4) left;
      members = stretch_append site block people_at (people_at + 4) (omega arith) (omega arith)
          ∙ stretch_sets (bytes 4 members) (sets l indiv_at (bytes 4 n)) people_at (people_at + 4) (omega arith) (omega arith);
      fields = drop_chosen_record t cs s b ∙ kept_stretches t cs s c (rw (length-take-le t.length s z) y) (filled f s t g h);
    }

-- a byte is apart from the four at a place, or one of them
apart_or_in : (place i : ℕ) → Apart place i ⊎ ((place ≤ i) × (i < place + 4))
apart_or_in place i = by-low (ltb i place) refl
  where
    by_high : (b : Bool) → ltb i (place + 4) ≡ b → place ≤ i → Apart place i ⊎ ((place ≤ i) × (i < place + 4))
    by_high true e h = inr (h, ltb-true i (place + 4) e)
    by_high false e h = inl (inr (ltb-false i (place + 4) e))

    by-low : (b : Bool) → ltb i place ≡ b → Apart place i ⊎ ((place ≤ i) × (i < place + 4))
    by-low true e = inl (inl (ltb-true i place e))
    by-low false e = by_high (ltb i (place + 4)) refl (ltb-false i place e)

-- one of the four is the same where the four are
get_or_stretch : (place i : ℕ) (c c' : List ℕ) → place ≤ i → i < place + 4 → stretch place (place + 4) c ≡ stretch place (place + 4) c'
    → get_or c i 0 ≡ get_or c' i 0
get_or_stretch place i c c' h k e = sym (at c) ∙ ap (λ x. get_or x (i - place) 0) e ∙ at c'
  where
    at : (c : List ℕ) → get_or (stretch place (place + 4) c) (i - place) 0 ≡ get_or c i 0
    at c =
        let z : place + (i - place) ≡ i = omega arith in
        get_or-take (place + 4 - place) (drop place c) (i - place) 0 (omega arith) ∙ get_or-drop place c (i - place) 0 ∙ ap (λ x. get_or c x 0) z

-- no two lists are both what a choice makes of a record
pub chosen_bytes_same : (t : Site) (cs s c c' : List ℕ) → ChosenBytes t cs s c → ChosenBytes t cs s c' → c ≡ c'
chosen_bytes_same t cs s c c' x y = ext_get_or 0 c c' same_length same
  where
    rest : drop t.border c ≡ drop t.border c'
    rest = x.fields ∙ sym y.fields

    same_length : length c ≡ length c'
    same_length =
        let a = x.border in
        let b = y.border in
        let e = rw (length-drop t.border c, length-drop t.border c') at (ap length rest) in
        omega arith

    indiv : stretch indiv_at (indiv_at + 4) c ≡ stretch indiv_at (indiv_at + 4) c'
    indiv = x.indiv ∙ ap (λ n. bytes 4 (n - t.border)) same_length ∙ sym y.indiv

    in_site_lem : (i : ℕ) → i < t.border → Apart indiv_at i ⊎ ((indiv_at ≤ i) × (i < indiv_at + 4))
        → Apart people_at i ⊎ ((people_at ≤ i) × (i < people_at + 4)) → get_or c i 0 ≡ get_or c' i 0
    in_site_lem i h (inr q) r = get_or_stretch indiv_at i c c' q.0 q.1 indiv
    in_site_lem i h (inl q) (inr r) = get_or_stretch people_at i c c' r.0 r.1 (x.members ∙ sym y.members)
    in_site_lem i h (inl q) (inl r) = x.site i h q r ∙ sym (y.site i h q r)

    by-border : (i : ℕ) (b : Bool) → ltb i t.border ≡ b → get_or c i 0 ≡ get_or c' i 0
    by-border i true e = in_site_lem i (ltb-true i t.border e) (apart_or_in indiv_at i) (apart_or_in people_at i)
    by-border i false e =
        let h = ltb-false i t.border e in
        let z : t.border + (i - t.border) ≡ i = omega arith in
        let at : (u : List ℕ) → get_or (drop t.border u) (i - t.border) 0 ≡ get_or u i 0 =
        λ u. get_or-drop t.border u (i - t.border) 0 ∙ ap (λ k. get_or u k 0) z in
        sym (at c) ∙ ap (λ u. get_or u (i - t.border) 0) rest ∙ at c'

    same : (i : ℕ) → i < length c → get_or c i 0 ≡ get_or c' i 0
    same i h = by-border i (ltb i t.border) refl
