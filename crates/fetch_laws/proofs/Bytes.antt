-- The bytes that are fetched are the elements that reading judged, of the very field. Rests on proofs/There and fetch/proofs/Inside.
use mathlib.Core.Path.{◌≡◌, refl, ◌∙◌}
use mathlib.Core.List.{List, [], ◌∷◌}
use mathlib.Core.Bool.{Bool, true, false}
use Prim.Native.Nat.{ℕ, zero, suc, ◌+◌, ◌-◌, ◌<◌, ◌≤◌}
use native.Mathlib.Omega.{arith}
use lib.ListN.{length, take, drop, length-take, length-drop}
use lib.Seq.{take-take}
use Rattle.words.proofs.Places.{drop_on}
use Rattle.facts.specs.declared.Facts.{Facts}
use Rattle.fixed.specs.declared.Site.{Site}
use Rattle.genotypes.specs.declared.Gt.{Gt}
use Rattle.record.specs.Reading.{reading, accepted_as}
use Rattle.record.proofs.Accepted.{accepted}
use Rattle.fetch.specs.Fields.{field_at, FoundInside}
use Rattle.fetch.specs.Engine.{field_step, passing, block_from, block_end}
use Rattle.fetch.specs.Account.{count_of}
use Rattle.fetch.specs.Fetch.{found, fetched, part_of}
use Rattle.fetch.specs.declared.Kind.{Kind}
use Rattle.fetch.proofs.Inside.{field_inside}
use Rattle.fetch_laws.specs.InTurn.{judging}
use Rattle.fetch.specs.declared.Found.{Found}
use Rattle.values.specs.Answers.{Answer}
use Rattle.std.specs.Prelude.{Ok, Err}
use Rattle.fetch_laws.proofs.There.{judged_passed, stands, found_in_lem}

-- a field's elements in a list that begins at a place, as reading takes them
abbrev pub elements_in : ℕ → List ℕ → Answer Found → List ℕ
elements_in at l (Err r) = []
elements_in at l (Ok x) = take (x.stop - x.place) (drop (x.place - at) l)

-- a part that ends before the block does is a part of the record
pub part_of_lem : (s : List ℕ) (first n end : ℕ) → first + n ≤ end → take n (drop first (take end s)) ≡ take n (drop first s)
part_of_lem s zero n end h = take-take n end s (omega arith)
part_of_lem s (suc first) n zero h = absurd (omega arith)
part_of_lem [] (suc first) n (suc end) h = refl
part_of_lem (x ∷ s) (suc first) n (suc end) h = part_of_lem s first n end (omega arith)

same_part : (s : List ℕ) (end at : ℕ) (r : Answer Found) → FoundInside at (at + length (drop at (take end s))) r
    → part_of s r ≡ elements_in at (drop at (take end s)) r
same_part s end at (Err r) h = refl
same_part s end at (Ok x) h =
    let i = rw (length-drop at (take end s), length-take end s) at h in
    rw (drop_on (take end s) at x.place (omega arith), part_of_lem s x.place (x.stop - x.place) end (omega arith))

-- the law: of an accepted record, what is found below a kind's count is the field at a place of its block, and no refusal; reading
-- judged that field sound, up to where it ends; and the bytes are its elements
pub record Fetches (f : Facts) (kind : Kind) (number : ℕ) (s : List ℕ) (t : Site) : Type 0 where
  pub place : ℕ
  pub stop : ℕ
  pub judged : judging f t kind place (drop place (take (block_end kind t) s)) ≡ Ok stop
  pub field : found f kind number s ≡ field_at kind f.people place (drop place (take (block_end kind t) s))
  pub ends : field_step (found f kind number s) ≡ Ok stop
  pub bytes : fetched f kind number s
      ≡ elements_in place (drop place (take (block_end kind t) s)) (field_at kind f.people place (drop place (take (block_end kind t) s)))

pub fetches : (f : Facts) (kind : Kind) (number : ℕ) (s : List ℕ) (t : Site) (g : Gt) → reading f s ≡ accepted_as t g → number < count_of kind t
    → Fetches f kind number s t
unfolding fetched passing
fetches f kind number s t g h q =
    let r = stands f kind number t g s (accepted f s t g h) q in
    let block = take (block_end kind t) s in
    let e = drop_on block (block_from kind t) r.place r.later in
    let l = drop r.place block in
    let k : found f kind number s ≡ field_at kind f.people r.place l = rw e at (found_in_lem f kind number s t g h q ∙ r.field) in
    let j : judging f t kind r.place l ≡ Ok r.stop = rw e at r.judged in
    record {
      place = r.place;
      stop = r.stop;
      judged = j;
      field = k;
      ends = rw k (judged_passed f t kind r.place l r.stop j);
      bytes = rw k (same_part s (block_end kind t) r.place (field_at kind f.people r.place l) (field_inside kind f.people r.place l));
    }

-- so every field below its kind's count is found
abbrev pub is_field : Answer Found → Bool
is_field (Err r) = false
is_field (Ok x) = true

passed_field : (r : Answer Found) {q : ℕ} → field_step r ≡ Ok q → is_field r ≡ true
passed_field (Err r) h = cc
passed_field (Ok x) h = refl

pub found_there : (f : Facts) (kind : Kind) (number : ℕ) (s : List ℕ) (t : Site) (g : Gt) → reading f s ≡ accepted_as t g → number < count_of kind t
    → is_field (found f kind number s) ≡ true
found_there f kind number s t g h q = passed_field (found f kind number s) (fetches f kind number s t g h q).ends
