-- Demand 3, proved: each law cites the file of `chosen` that did the work. Rests on specs/Choosing.
use mathlib.Core.Path.{◌≡◌, refl, sym, ap}
use mathlib.Core.List.{List}
use mathlib.Core.Bool.{Bool, true, false}
use Prim.Native.Nat.{ℕ, ◌<◌, ◌≤◌}
use lib.Dec.{ltb}
use lib.ListN.{length, take, drop}
use lib.Seq.{take-append_seam, drop-append_seam}
use borrow.Author.Tests.{lt-ltb, le-ltb}
use Rattle.words.specs.Pick.{pick}
use Rattle.words.specs.Words.{Bytes}
use Rattle.stores.proofs.Inside.{sets_start}
use Rattle.values.specs.Answers.{refusal, Answer}
use Rattle.values.specs.declared.Refusal.{Refusal}
use Rattle.facts.specs.declared.Facts.{Facts}
use Rattle.fixed.specs.declared.Site.{Site}
use Rattle.genotypes.specs.declared.Gt.{Gt}
use Rattle.record.specs.Reading.{reading, accepted_as}
use Rattle.choice.specs.Choice.{ascending}
use Rattle.choose.specs.Chosen.{chosen_record}
use Rattle.choose.specs.Choose.{choosing, answer_of, buffer_of, after_choosing}
use Rattle.choose_laws.specs.Releases.{for_people, released_site}
use Rattle.choose_laws.specs.Divisions.{Division}
use Rattle.choose_laws.proofs.Accepted.{release}
use Rattle.choose_laws.proofs.Again.{chosen_record_composed, choosing_composed}
use Rattle.choose_laws.proofs.Bytes.{chosen_bytes, chosen_bytes_same}
use Rattle.choose_laws.proofs.Choices.{ascending_composed}
use Rattle.choose_laws.proofs.Divided.{length_divided, tallied_accepted}
use Rattle.choose_laws.proofs.Everybody.{chosen_record_everybody}
use Rattle.choose_laws.proofs.Shows.{shown_of_chosen_record}
use Rattle.choose_laws.proofs.Tallies.{tallied_sum}
use Rattle.std.specs.Prelude.{Err, Ok}
use Rattle.record.specs.declared.Reading.{Reading}
use Rattle.laws.specs.Choosing.{Choice, AddUp, ChoosingPeople}

-- the tallies of the whole record and of its two parts are counted, and the parts' add up
add_up : (f : Facts) (s : List ℕ) (t : Site) (g : Gt) (cs ds : List ℕ) → Bytes s → reading f s ≡ accepted_as t g → t.alleles ≤ 64
    → Division t.people cs ds
    → AddUp f s (for_people (length cs) f) (chosen_record t cs s) (for_people (length ds) f) (chosen_record t ds s)
add_up f s t g cs ds b h a d =
    let x = release f s t g cs b h d.first in
    let y = release f s t g ds b h d.second in
    record {
      whole = t;
      first = released_site cs s t;
      second = released_site ds s t;
      people = sym (length_divided t.people cs ds d);
      alleles_first = refl;
      alleles_second = refl;
      counted = ap (λ r. r.answer) (tallied_accepted f s t g h a);
      counted_first = ap (λ r. r.answer) (tallied_accepted (for_people (length cs) f) (chosen_record t cs s) (released_site cs s t) x.gt x.read a);
      counted_second = ap (λ r. r.answer) (tallied_accepted (for_people (length ds) f) (chosen_record t ds s) (released_site ds s t) y.gt y.read a);
      sum = tallied_sum f s t g cs ds b h a d;
    }

buffer_begins : (f : Facts) (s : List ℕ) (t : Site) (g : Gt) (cs buf : List ℕ) → Choice f s t g cs → length (chosen_record t cs s) ≤ length buf
    → take (length (chosen_record t cs s)) (after_choosing f cs buf s) ≡ chosen_record t cs s
unfolding after_choosing
buffer_begins f s t g cs buf c r =
    rw (c.read, c.ascends, le-ltb _ _ r, sets_start buf (chosen_record t cs s) r) (take-append_seam (chosen_record t cs s) _)

-- and the buffer's other bytes stay
buffer_stays : (f : Facts) (s : List ℕ) (t : Site) (g : Gt) (cs buf : List ℕ) → Choice f s t g cs → length (chosen_record t cs s) ≤ length buf
    → drop (length (chosen_record t cs s)) (after_choosing f cs buf s) ≡ drop (length (chosen_record t cs s)) buf
unfolding after_choosing
buffer_stays f s t g cs buf c r =
    rw (c.read, c.ascends, le-ltb _ _ r, sets_start buf (chosen_record t cs s) r) (drop-append_seam (chosen_record t cs s) _)

-- on a refusal all of them
refused_stays : (f : Facts) (s cs buf : List ℕ) (r : Refusal) → choosing f cs (length buf) s ≡ Err r → after_choosing f cs buf s ≡ buf
unfolding after_choosing choosing
refused_stays f s cs buf r h = by-reading (reading f s) h
  where
    by_answer : (a b : Bool) (n : ℕ) (after : List ℕ) → pick a (pick b (Err (refusal 13 0)) (Ok n)) (Err (refusal 14 0)) ≡ Err r
        → pick a (pick b buf after) buf ≡ buf
    by_answer true true n after e = refl
    by_answer true false n after e = cc
    by_answer false b n after e = refl

    by-reading : (x : Answer Reading) → answer_of cs (length buf) s x ≡ Err r → buffer_of cs buf s x ≡ buf
    by-reading (Err q) e = refl
    by-reading (Ok a) e =
        by_answer (ascending a.site.people cs) (ltb (length buf) (length (chosen_record a.site cs s))) (length (chosen_record a.site cs s)) _ e

-- what is answered
answers_unread : (f : Facts) (s cs : List ℕ) (room : ℕ) (r : Refusal) → reading f s ≡ Err r → choosing f cs room s ≡ Err r
unfolding choosing
answers_unread f s cs room r h = rw h

answers_wrong : (f : Facts) (s : List ℕ) (t : Site) (g : Gt) (cs : List ℕ) (room : ℕ) → reading f s ≡ accepted_as t g
    → ascending t.people cs ≡ false → choosing f cs room s ≡ Err (refusal 14 0)
unfolding choosing
answers_wrong f s t g cs room h a = rw (h, a)

answers_short : (f : Facts) (s : List ℕ) (t : Site) (g : Gt) (cs : List ℕ) (room : ℕ) → Choice f s t g cs → room < length (chosen_record t cs s)
    → choosing f cs room s ≡ Err (refusal 13 0)
unfolding choosing
answers_short f s t g cs room c r = rw (c.read, c.ascends, lt-ltb _ _ r)

answers_chosen : (f : Facts) (s : List ℕ) (t : Site) (g : Gt) (cs : List ℕ) (room : ℕ) → Choice f s t g cs → length (chosen_record t cs s) ≤ room
    → choosing f cs room s ≡ Ok (length (chosen_record t cs s))
unfolding choosing
answers_chosen f s t g cs room c r = rw (c.read, c.ascends, le-ltb _ _ r)

pub choosing_people : ChoosingPeople
choosing_people =
    record {
      accepted = λ f s t g cs c. let r = release f s t g cs c.bytes c.read c.ascends in record { gt = r.gt; read = r.read };
      values = λ f s t g cs c. shown_of_chosen_record f s t g cs c.read c.ascends;
      same = λ f s t g b h. chosen_record_everybody f s t g b h;
      composes = λ f s t g cs ds c d. record { bytes = c.bytes; read = c.read; ascends = ascending_composed t.people cs ds c.ascends d };
      again = λ f s t g cs ds c d. chosen_record_composed f s t g cs ds c.read c.ascends d;
      answers = λ f s t g cs ds room c d.
          let r = release f s t g cs c.bytes c.read c.ascends in
          choosing_composed f s t g r.gt cs ds room c.read c.ascends d r.read;
      tallies = add_up;
      bytes = λ f s t g cs c. chosen_bytes f s t g cs c.read c.ascends;
      no_other = chosen_bytes_same;
      unread = answers_unread;
      wrong = answers_wrong;
      short = answers_short;
      chosen = answers_chosen;
      begins = buffer_begins;
      stays = buffer_stays;
      refused = refused_stays;
    }
