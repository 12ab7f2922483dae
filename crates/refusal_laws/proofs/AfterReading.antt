-- The refusals of what reads a record first: fetching, opening the walk, the tally, choosing and a VCF line give reading's, and then their own at place
-- 0. Rests on proofs/Reading, and on the definitions of each.
use mathlib.Core.Path.{◌≡◌, refl}
use mathlib.Core.Logic.{inl, inr}
use mathlib.Core.List.{List, [], ◌∷◌}
use mathlib.Core.Bool.{Bool, true, false}
use Prim.Native.Nat.{ℕ, zero, suc}
use native.Mathlib.Nat.{zero-add}
use native.Mathlib.Omega.{arith}
use lib.Dec.{ltb}
use lib.ListN.{length}
use lib.Seq.{sets}
use Rattle.words.specs.Lists.{among}
use Rattle.words.specs.Pick.{pick}
use Rattle.stores.specs.Stores.{filled}
use Rattle.values.specs.Answers.{refusal, Answer}
use Rattle.values.specs.declared.Refusal.{Refusal}
use Rattle.facts.specs.declared.Facts.{Facts}
use Rattle.fixed.specs.declared.Site.{Site}
use Rattle.record.specs.Reading.{reading}
use Rattle.fetch.specs.Account.{Entry, account, of_kind, numbered}
use Rattle.fetch.specs.Fetch.{field_of, found_in, found, fetched}
use Rattle.fetch.specs.declared.Kind.{Kind}
use Rattle.fetch.specs.declared.Kind.TheVariants.{Filter}
use Rattle.fetch_laws.proofs.Bytes.{is_field, found_there}
use Rattle.walker.specs.Walk.{first_after, opened_by, opened}
use Rattle.tally.specs.Tally.{nobody, calls_of, refused_tally, tally_of, tallied}
use Rattle.tally.specs.declared.Tallied.{Tallied}
use Rattle.choice.specs.Choice.{ascending}
use Rattle.choose.specs.Chosen.{chosen_record}
use Rattle.choose.specs.Choose.{answer_of, choosing, buffer_of, after_choosing}
use Rattle.vcf_qual.specs.Qual.{printable}
use Rattle.vcf_line.specs.Line.{Names, is_short, Printed, line, unprinted, printed_as, printed, answer_for, line_answer, buffer_for, after_line}
use Rattle.refusal_laws.specs.Numbers.{reading_gives, fetching_gives, tally_gives, choosing_gives, line_gives}
use Rattle.refusal_laws.specs.Refused.{AtStart, AfterReading}
use Rattle.refusal_laws.proofs.Among.{among_before, among_behind}
use Rattle.fetch.specs.declared.Found.{Found}
use Rattle.std.specs.Prelude.{Err, Ok}
use Rattle.record.specs.declared.Reading.{Reading}
use Rattle.refusal_laws.proofs.Reading.{reading_refused}

-- reading's refusal is one of the longer list too, and so is one at place 0
pub from_reading : (numbers : List ℕ) (f : Facts) (s : List ℕ) (r : Refusal) → reading f s ≡ Err r → AfterReading numbers f s r
from_reading numbers f s r h =
    let t = reading_refused f s r h in
    record {
      own = inl h;
      told = record { number = among_before r.number reading_gives numbers t.number; place = t.place; lent = t.lent };
    }

pub from_start : (numbers : List ℕ) (f : Facts) (s : List ℕ) (r : Refusal) → AtStart numbers r → AfterReading numbers f s r
from_start numbers f s r h =
    record {
      own = inr h;
      told =
          record {
            number = among_behind r.number reading_gives numbers h.number;
            place = omega (arith, h.place);
            lent = omega (arith, h.place);
          };
    }

-- a number of the list, at place 0
at_start : (numbers : List ℕ) (n : ℕ) (r : Refusal) → among n numbers ≡ true → refusal n 0 ≡ r → AtStart numbers r
at_start numbers n r a e = rw (← e) (record { number = a; place = refl })

-- fetching: 16 where there is no field of that number
numbered_refused : (n : ℕ) (es : List Entry) (r : Refusal) → numbered n es ≡ Err r → AtStart fetching_gives r
unfolding numbered among
numbered_refused n [] r h = let e : refusal 16 0 ≡ r = cc in at_start fetching_gives 16 r refl e
numbered_refused zero (e ∷ es) r h = let z : ◌≡◌ {A = ℕ} 0 1 = cc in absurd (omega arith)
numbered_refused (suc n) (e ∷ es) r h = numbered_refused n es r h

pub field_refused : (kind : Kind) (n : ℕ) (t : Site) (s : List ℕ) (r : Refusal) → field_of kind n t s ≡ Err r → AtStart fetching_gives r
unfolding field_of
field_refused kind n t s r h = numbered_refused n (of_kind kind (account t s)) r h

pub found_refused : (f : Facts) (kind : Kind) (n : ℕ) (s : List ℕ) (r : Refusal) → found f kind n s ≡ Err r → AfterReading fetching_gives f s r
unfolding found
found_refused f kind n s r h = by-reading (reading f s) refl h
  where
    by-reading : (x : Answer Reading) → reading f s ≡ x → found_in kind n s x ≡ Err r → AfterReading fetching_gives f s r
    by-reading (Err q) e k = from_reading fetching_gives f s r (cc)
    by-reading (Ok a) e k = from_start fetching_gives f s r (field_refused kind n a.site s r k)

pub fetched_refused : (f : Facts) (kind : Kind) (n : ℕ) (s : List ℕ) (r : Refusal) → found f kind n s ≡ Err r → fetched f kind n s ≡ []
unfolding fetched
fetched_refused f kind n s r h = rw h

-- opening the walk: reading's alone
pub opened_refused : (f : Facts) (s : List ℕ) (r : Refusal) → opened f s ≡ Err r → reading f s ≡ Err r
unfolding opened found
opened_refused f s r h = by-reading (reading f s) refl h
  where
    by_field : (x : Answer Found) {y : Answer Reading} → is_field x ≡ true → first_after x ≡ Err r → y ≡ Err r
    by_field (Err q) i k = let z : ◌≡◌ {A = ℕ} 0 1 = cc in absurd (omega arith)
    by_field (Ok x) i k = let z : ◌≡◌ {A = ℕ} 0 1 = cc in absurd (omega arith)

    by-reading : (x : Answer Reading) → reading f s ≡ x → opened_by s x ≡ Err r → x ≡ Err r
    by-reading (Err q) e k = cc
    by-reading (Ok a) e k = by_field (field_of Filter 0 a.site s) (rw e at (found_there f Filter 0 s a.site a.gt e (omega arith))) k

-- the tally: 15 for more than 64 alleles, and every counter 0
abbrev Uncounts : Facts → List ℕ → Refusal → Tallied → Type 0
Uncounts f s r x = AfterReading tally_gives f s r × (x.calls ≡ nobody 0)

pub tallied_refused : (f : Facts) (s : List ℕ) (r : Refusal) → (tallied f s).answer ≡ Err r
    → AfterReading tally_gives f s r × ((tallied f s).calls ≡ nobody 0)
unfolding tallied among
tallied_refused f s r h = by-reading (reading f s) refl h
  where
    by-test : (b : Bool) (x : Tallied) → ((q : Refusal) → x.answer ≡ Err q → ⊥)
        → (pick b (refused_tally (refusal 15 0)) x).answer ≡ Err r → Uncounts f s r (pick b (refused_tally (refusal 15 0)) x)
    by-test true x never k =
        let e : refusal 15 0 ≡ r = cc in
        (from_start tally_gives f s r (at_start tally_gives 15 r refl e), refl)
    by-test false x never k = absurd (never r k)

    by-reading : (x : Answer Reading) → reading f s ≡ x → (tally_of s x).answer ≡ Err r → Uncounts f s r (tally_of s x)
    by-reading (Err q) e k = (from_reading tally_gives f s r (cc), refl)
    by-reading (Ok a) e k =
        by-test (ltb 64 a.site.alleles) (record { answer = Ok a.site; calls = calls_of a.gt a.site.people s })
        (λ q m. let z : ◌≡◌ {A = ℕ} 0 1 = cc in omega arith) k

-- reading's refusal or one of these numbers, and the buffer as it was
abbrev Unwritten : List ℕ → Facts → List ℕ → Refusal → List ℕ → List ℕ → Type 0
Unwritten numbers f s r buf after = AfterReading numbers f s r × (after ≡ buf)

-- choosing: 14, then 13
pub choosing_refused : (f : Facts) (cs buf s : List ℕ) (r : Refusal) → choosing f cs (length buf) s ≡ Err r
    → AfterReading choosing_gives f s r × (after_choosing f cs buf s ≡ buf)
unfolding choosing after_choosing among
choosing_refused f cs buf s r h = by-reading (reading f s) refl h
  where
    by-room : (b : Bool) (n : ℕ) (new : List ℕ) → pick b (Err (refusal 13 0)) (Ok n) ≡ Err r → Unwritten choosing_gives f s r buf (pick b buf new)
    by-room true n new k =
        let e : refusal 13 0 ≡ r = cc in
        (from_start choosing_gives f s r (at_start choosing_gives 13 r refl e), refl)
    by-room false n new k = let z : ◌≡◌ {A = ℕ} 0 1 = cc in absurd (omega arith)

    by-test : (b : Bool) (x : Answer ℕ) (new : List ℕ) → (x ≡ Err r → Unwritten choosing_gives f s r buf new)
        → pick b x (Err (refusal 14 0)) ≡ Err r → Unwritten choosing_gives f s r buf (pick b new buf)
    by-test true x new on k = on k
    by-test false x new on k =
        let e : refusal 14 0 ≡ r = cc in
        (from_start choosing_gives f s r (at_start choosing_gives 14 r refl e), refl)

    by-reading : (x : Answer Reading) → reading f s ≡ x → answer_of cs (length buf) s x ≡ Err r → Unwritten choosing_gives f s r buf (buffer_of cs buf s x)
    by-reading (Err q) e k = (from_reading choosing_gives f s r (cc), refl)
    by-reading (Ok a) e k =
        let chosen = chosen_record a.site cs s in
        by-test (ascending a.site.people cs) _ _ (λ m. by-room (ltb (length buf) (length chosen)) (length chosen) _ m) k

-- a VCF line: 17, then 18, then 13
pub line_refused : (f : Facts) (strings contigs : Names) (buf s : List ℕ) (r : Refusal) → line_answer f strings contigs (length buf) s ≡ Err r
    → AfterReading line_gives f s r × (after_line f strings contigs buf s ≡ buf)
unfolding line_answer after_line printed filled among
line_refused f strings contigs buf s r h = by-reading (reading f s) refl h
  where
    Stays : Printed → Type 0
    Stays x = answer_for (length buf) x ≡ Err r → Unwritten line_gives f s r buf (buffer_for buf x)

    own : (n : ℕ) → among n line_gives ≡ true → Stays (unprinted (refusal n 0))
    own n a k = let e : refusal n 0 ≡ r = cc in (from_start line_gives f s r (at_start line_gives n r a e), refl)

    by-room : (b : Bool) (n : ℕ) (new : List ℕ) → pick b (Err (refusal 13 0)) (Ok n) ≡ Err r → Unwritten line_gives f s r buf (pick b buf new)
    by-room true n new k = own 13 refl k
    by-room false n new k = let z : ◌≡◌ {A = ℕ} 0 1 = cc in absurd (omega arith)

    by-line : (l : List ℕ) → Stays (line l)
    by-line l k = rw (zero-add (length l)) (by-room (ltb (length buf) (length l)) (length l) (sets buf 0 l) k)

    by_tests : (a b c : Bool) (l : List ℕ)
        → Stays (pick a (pick b (unprinted (refusal 18 0)) (pick c (unprinted (refusal 18 0)) (line l))) (unprinted (refusal 17 0)))
    by_tests true true c l = own 18 refl
    by_tests true false true l = own 18 refl
    by_tests true false false l = by-line l
    by_tests false b c l = own 17 refl

    by-reading : (x : Answer Reading) → reading f s ≡ x → Stays (printed_as f strings contigs s x)
    by-reading (Err q) e = λ k. (from_reading line_gives f s r (cc), refl)
    by-reading (Ok a) e = by_tests (printable a.site.qual) (is_short f.strings strings) (is_short f.contigs contigs) _
