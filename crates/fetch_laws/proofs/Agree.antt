-- What reading judged sound in the site block, fetching passes to the same place: each kind's step, and so many of them.
-- Rests on fetch/specs/Fetch and on the definitions of site.
use mathlib.Core.Path.{◌≡◌, refl, ◌∙◌}
use mathlib.Core.List.{List}
use mathlib.Core.Bool.{Bool, true, false}
use Prim.Native.Nat.{ℕ, zero, suc, ◌+◌, ◌-◌}
use native.Mathlib.Omega.{arith}
use lib.Dec.{eqb}
use lib.ListN.{take, drop}
use Rattle.words.specs.Pick.{pick}
use Rattle.words.specs.Words.{outside}
use Rattle.types.specs.declared.Use.{Use}
use Rattle.types.specs.declared.Use.TheVariants.{Id as IdUse, Allele as AlleleUse, Filter as FilterUse, Info as InfoUse}
use Rattle.values.specs.Answers.{no_integer, one, Answer, whole}
use Rattle.values.specs.Values.{integer, in_dictionary, keyed, present}
use Rattle.vectors.specs.Vectors.{judged, Sound}
use Rattle.vectors.specs.Sound.{sound, soundly, judged_from, most_of}
use Rattle.site.specs.Steps.{then, times, value_step, judged_step, no_step}
use Rattle.site.specs.Alleles.{allele, allele_value, allele_bytes}
use Rattle.site.specs.Filters.{filter, filter_value, filtered}
use Rattle.site.specs.Site.{info, info_value}
use Rattle.fetch.specs.Fields.{value_field, pair_field, alone, paired}
use Rattle.fetch.specs.Engine.{field_step, passing}
use Rattle.values.specs.declared.Value.{Value}
use Rattle.std.specs.Prelude.{Err, Ok}
use Rattle.values.specs.declared.Integer.{Integer}
use Rattle.fetch.specs.declared.Kind.TheVariants.{Id, Allele, Filter, Info}

-- a value's field is passed as the value is
pub value_passed : (key : ℕ) (v : Answer Value) → field_step (value_field key v) ≡ value_step v
value_passed key (Err r) = refl
value_passed key (Ok v) = refl

-- a value that is sound is there
soundly_there : (alleles : ℕ) (role : Use) (at : ℕ) (l : List ℕ) (v : Answer Value) {t n first stop : ℕ}
    → soundly alleles role at l v ≡ whole t n first stop → v ≡ whole t n first stop
soundly_there alleles role at l (Err r) h = h
soundly_there alleles role at l (Ok v) h =
    by-elements (judged (most_of role alleles v.code) v.code v.len (take (v.stop - v.first) (drop (v.first - at) l))) h
  where
    by-elements : (j : Answer (Unit {0})) {t' n' first' stop' : ℕ} → judged_from v.first (whole v.code v.len v.first v.stop) j ≡ whole t' n' first' stop'
        → whole v.code v.len v.first v.stop ≡ whole t' n' first' stop'
    by-elements Sound e = e
    by-elements (Err r) e = cc

pub sound_there : (vectors alleles : ℕ) (role : Use) (at : ℕ) (l : List ℕ) (t n first stop : ℕ)
    → sound vectors alleles role at l ≡ whole t n first stop → present vectors role at l ≡ whole t n first stop
unfolding sound
sound_there vectors alleles role at l t n first stop h = soundly_there alleles role at l (present vectors role at l) h

-- a sound value's elements are judged sound
from_judged : (first : ℕ) (v : Answer Value) (j : Answer (Unit {0})) {t n a b : ℕ} → judged_from first v j ≡ whole t n a b → j ≡ Sound
from_judged first v Sound h = refl
from_judged first v (Err r) h = cc

pub soundly_judged : (alleles : ℕ) (role : Use) (at : ℕ) (l : List ℕ) (t n first stop : ℕ)
    → soundly alleles role at l (whole t n first stop) ≡ whole t n first stop
    → judged (most_of role alleles t) t n (take (stop - first) (drop (first - at) l)) ≡ Sound
soundly_judged alleles role at l t n first stop h =
    from_judged first (whole t n first stop) (judged (most_of role alleles t) t n (take (stop - first) (drop (first - at) l))) h

pub sound_judged : (vectors alleles : ℕ) (role : Use) (at : ℕ) (l : List ℕ) (t n first stop : ℕ)
    → sound vectors alleles role at l ≡ whole t n first stop
    → judged (most_of role alleles t) t n (take (stop - first) (drop (first - at) l)) ≡ Sound
unfolding sound
sound_judged vectors alleles role at l t n first stop h =
    soundly_judged alleles role at l t n first stop (rw (sound_there vectors alleles role at l t n first stop h) at h)

-- past a sound value, past the value
pub sound_past : (v w : Answer Value) {q : ℕ} → ((t n first stop : ℕ) → v ≡ whole t n first stop → w ≡ whole t n first stop)
    → value_step v ≡ Ok q → value_step w ≡ Ok q
sound_past (Err r) w f h = cc
sound_past (Ok v) w f h = rw (f v.code v.len v.first v.stop refl) h

pub id_passed : (people at : ℕ) (l : List ℕ) (q : ℕ) → value_step (sound 1 0 IdUse at l) ≡ Ok q → passing Id people at l ≡ Ok q
unfolding passing alone
id_passed people at l q h =
    value_passed 0 (present 1 IdUse at l) ∙ sound_past (sound 1 0 IdUse at l) (present 1 IdUse at l) (sound_there 1 0 IdUse at l) h

pub allele_value_lem : (at : ℕ) (l : List ℕ) (v : Answer Value) {q : ℕ} → allele_value at l v ≡ Ok q → value_step v ≡ Ok q
allele_value_lem at l (Err r) h = h
allele_value_lem at l (Ok v) h = by-elements (eqb v.len 0) (allele_bytes 0 (take (v.stop - v.first) (drop (v.first - at) l))) h
  where
    by-elements : (b : Bool) (j : Answer (Unit {0})) {q' : ℕ} → pick b (no_step 7 at) (judged_step v.first v.stop j) ≡ Ok q'
        → ◌≡◌ {A = Answer ℕ} (Ok v.stop) (Ok q')
    by-elements true j e = cc
    by-elements false Sound e = e
    by-elements false (Err r) e = cc

pub allele_passed : (people at : ℕ) (l : List ℕ) (q : ℕ) → allele at l ≡ Ok q → passing Allele people at l ≡ Ok q
unfolding passing alone allele
allele_passed people at l q h = value_passed 0 (present 1 AlleleUse at l) ∙ allele_value_lem at l (present 1 AlleleUse at l) h

pub filter_value_lem : (strings at : ℕ) (l : List ℕ) (v : Answer Value) {q : ℕ} → filter_value strings at l v ≡ Ok q → value_step v ≡ Ok q
filter_value_lem strings at l (Err r) h = h
filter_value_lem strings at l (Ok v) h = by-elements (filtered strings v.code (take (v.stop - v.first) (drop (v.first - at) l))) h
  where
    by-elements : (j : Answer (Unit {0})) {q' : ℕ} → judged_step v.first v.stop j ≡ Ok q' → ◌≡◌ {A = Answer ℕ} (Ok v.stop) (Ok q')
    by-elements Sound e = e
    by-elements (Err r) e = cc

pub filter_passed : (strings people at : ℕ) (l : List ℕ) (q : ℕ) → filter strings at l ≡ Ok q → passing Filter people at l ≡ Ok q
unfolding passing alone filter
filter_passed strings people at l q h =
    value_passed 0 (present 1 FilterUse at l) ∙ filter_value_lem strings at l (present 1 FilterUse at l) h

info_value_lem : (strings at : ℕ) (l : List ℕ) (i : Answer Integer) {q : ℕ} → info_value at l (in_dictionary strings at i) ≡ Ok q
    → field_step (pair_field 1 InfoUse at l i) ≡ Ok q
info_value_lem strings at l (Err r) h = h
info_value_lem strings at l (Ok i) h = by_key (outside strings i.bits) h
  where
    by_key : (b : Bool) {q' : ℕ} → info_value at l (pick b (no_integer 8 (at + 1)) (one i.bits i.next)) ≡ Ok q'
        → field_step (value_field i.bits (present 1 InfoUse i.next (drop (i.next - at) l))) ≡ Ok q'
    by_key true e = cc
    by_key false e =
        value_passed i.bits (present 1 InfoUse i.next (drop (i.next - at) l))
        ∙ sound_past (sound 1 0 InfoUse i.next (drop (i.next - at) l)) (present 1 InfoUse i.next (drop (i.next - at) l)) (sound_there 1 0 InfoUse i.next (drop (i.next - at) l)) e

pub info_passed : (strings people at : ℕ) (l : List ℕ) (q : ℕ) → info strings at l ≡ Ok q → passing Info people at l ≡ Ok q
unfolding passing paired info keyed
info_passed strings people at l q h = info_value_lem strings at l (integer at l) h

-- a step and then another that came to an end: where the first came to, and the second from there
pub record Went (at : ℕ) (l : List ℕ) (p : Answer ℕ) (next : ℕ → List ℕ → Answer ℕ) (e : ℕ) : Type 0 where
  pub place : ℕ
  pub here : p ≡ Ok place
  pub on : next place (drop (place - at) l) ≡ Ok e

pub went : (at : ℕ) (l : List ℕ) (p : Answer ℕ) (next : ℕ → List ℕ → Answer ℕ) {e : ℕ} → then at l p next ≡ Ok e → Went at l p next e
went at l (Err r) next h = let z : ◌≡◌ {A = ℕ} 0 1 = cc in absurd (omega arith)
went at l (Ok q) next h = record { place = q; here = refl; on = h }

-- so many steps that are passed one by one
pub times_passed : (step other : ℕ → List ℕ → Answer ℕ) → ((at : ℕ) (l : List ℕ) (q : ℕ) → step at l ≡ Ok q → other at l ≡ Ok q)
    → (n at : ℕ) (l : List ℕ) {e : ℕ} → times step n at l ≡ Ok e → times other n at l ≡ Ok e
unfolding times
times_passed step other f zero at l h = h
times_passed step other f (suc n) at l h =
    let w = went at l (step at l) (times step n) h in
    rw (f at l w.place w.here) (times_passed step other f n w.place (drop (w.place - at) l) w.on)
