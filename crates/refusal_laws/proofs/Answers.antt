-- Answers that are told in one number: what stands in its halves, and that a refusal leaves the lent numbers and bytes as they were. Rests on
-- proofs/AfterReading and proofs/Turns, and on how an answer is told.
use mathlib.Core.Path.{◌≡◌, refl}
use mathlib.Core.List.{List, ◌∷◌, ◌++◌, []}
use mathlib.Core.Bool.{Bool, true, false}
use Prim.Native.Nat.{ℕ, ◌-◌, ◌/◌, ◌%◌, ◌≤◌}
use native.Mathlib.Nat.{zero-add}
use native.Mathlib.Omega.{arith}
use lib.Dec.{ltb}
use lib.ListN.{length}
use lib.Seq.{sets}
use Rattle.words.specs.Lists.{among}
use Rattle.words.specs.Pick.{pick}
use Rattle.stores.specs.Stores.{filled}
use Rattle.values.specs.Answers.{refusal, Answer}
use Rattle.values.specs.declared.Refusal.{Refusal}
use Rattle.facts.specs.declared.Facts.{Facts}
use Rattle.fixed.specs.declared.Site.{Site}
use Rattle.record.specs.Reading.{reading}
use Rattle.fetch.specs.Fetch.{field_of, found}
use Rattle.fetch.specs.declared.Kind.{Kind}
use Rattle.elements.specs.declared.Shown.{Shown}
use Rattle.elements.specs.declared.Shown.TheVariants.{Integer, Float, Text}
use Rattle.walker.specs.Walk.{opened}
use Rattle.tally.specs.Tally.{tallied}
use Rattle.choose.specs.Choose.{choosing, after_choosing}
use Rattle.build.specs.Turns.{fresh_state}
use Rattle.build.specs.declared.Builder.{Builder}
use Rattle.build.specs.declared.Turned.{Turned}
use Rattle.build.specs.Answers.{answer_number, Taken}
use Rattle.vcf_line.specs.Line.{Names, line_answer, after_line}
use Rattle.c_answers.specs.Told.{answer, refused_answer, told_answer, site_numbers, reading_answer, reading_numbers, field_numbers, found_answer, found_numbers, pair_answer, pair_numbers, opening_answer, shown_answer, tally_numbers, counting_answer, counting_numbers, tallied_answer, tallied_numbers, choosing_answer, line_number}
use Rattle.c_state.specs.Kept.{state_numbers, turn_low, turn_answer, held_after, turn_numbers, fresh_answer, fresh_numbers}
use Rattle.refusal_laws.specs.Numbers.{reading_gives, fetching_gives, tally_gives, choosing_gives, line_gives, telling_gives}
use Rattle.record_laws.specs.Told.{own_length}
use Rattle.refusal_laws.specs.Refused.{Told, InRecord, AtStart, Refuses, Halves, Answered}
use Rattle.refusal_laws.proofs.Among.{among_before, among_behind}
use Rattle.refusal_laws.proofs.Reading.{reading_refused}
use Rattle.walker.specs.declared.Pair.{Pair}
use Rattle.fetch.specs.declared.Found.{Found}
use Rattle.std.specs.Prelude.{Err, Ok, Option, None, Some}
use Rattle.record.specs.declared.Reading.{Reading}
use Rattle.refusal_laws.proofs.AfterReading.{field_refused, found_refused, opened_refused, tallied_refused, choosing_refused, line_refused}

high_half : (n low : ℕ) → answer n low / 4294967296 ≡ n
unfolding answer
high_half n low = omega arith

low_half : (n low : ℕ) → answer n low % 4294967296 ≤ low
unfolding answer
low_half n low = omega arith

-- an accepted answer, and one that is refused
accepted_halves : (numbers : List ℕ) (end low : ℕ) → Halves numbers end (answer 0 low)
unfolding among
accepted_halves numbers end low = record { number = rw (high_half 0 low); place = λ no_zero. absurd (no_zero (high_half 0 low)) }

refused_halves : (numbers : List ℕ) (end : ℕ) (r : Refusal) → Told numbers end r → Halves numbers end (refused_answer r)
unfolding refused_answer
refused_halves numbers end r h =
    record {
      number = rw (high_half r.number r.place) (among_behind r.number (0 ∷ []) numbers h.number);
      place = λ no_zero. omega (arith, low_half r.number r.place, h.place);
    }

accepted : (numbers : List ℕ) (end low : ℕ) (lent after : List ℕ) → Answered numbers end (answer 0 low) lent after
accepted numbers end low lent after =
    record { halves = accepted_halves numbers end low; kept = λ no_zero. absurd (no_zero (high_half 0 low)) }

refused : (numbers : List ℕ) (end : ℕ) (r : Refusal) (lent after : List ℕ) → Told numbers end r → after ≡ lent
    → Answered numbers end (refused_answer r) lent after
refused numbers end r lent after h e = record { halves = refused_halves numbers end r h; kept = λ no_zero. e }

-- numbers for a lent slice: 13 where they have no room, and then none is written
tells : (numbers : List ℕ) (end low : ℕ) (out ns : List ℕ) → among 13 numbers ≡ true
    → Answered numbers end (told_answer (length out) ns low) out (filled out 0 ns)
unfolding told_answer filled refused_answer
tells numbers end low out ns h = rw (zero-add (length ns)) (by-test (ltb (length out) (length ns)) (sets out 0 ns))
  where
    by-test : (b : Bool) (new : List ℕ) → Answered numbers end (pick b (answer 13 0) (answer 0 low)) out (pick b out new)
    by-test true new = refused numbers end (refusal 13 0) out out (record { number = h; place = omega arith }) refl
    by-test false new = accepted numbers end low out new

-- a refusal of a longer list, up to the record's own length; one at place 0, up to any end
in_record : (numbers more s : List ℕ) (r : Refusal) → InRecord numbers s r → Told (numbers ++ more) (own_length s) r
in_record numbers more s r h = record { number = among_before r.number numbers more h.number; place = h.place }

at_zero : (numbers more : List ℕ) (r : Refusal) → AtStart numbers r → Told (numbers ++ more) 0 r
at_zero numbers more r h = record { number = among_before r.number numbers more h.number; place = omega (arith, h.place) }

-- reading
pub reading_answered : (f : Facts) (s out : List ℕ)
    → Answered (reading_gives ++ telling_gives) (own_length s) (reading_answer (length out) (reading f s)) out (reading_numbers out (reading f s))
unfolding among
reading_answered f s out = by-reading (reading f s) refl
  where
    by-reading : (x : Answer Reading) → reading f s ≡ x
        → Answered (reading_gives ++ telling_gives) (own_length s) (reading_answer (length out) x) out (reading_numbers out x)
    by-reading (Err r) e = refused _ _ r out out (in_record reading_gives telling_gives s r (reading_refused f s r e)) refl
    by-reading (Ok a) e = tells _ (own_length s) a.site.length out (site_numbers a.site a.gt) refl

-- fetching, also without reading again: a field, whose refusal is told up to an end
found_by : (numbers : List ℕ) (end : ℕ) (out : List ℕ) (x : Answer Found) → among 13 numbers ≡ true → ((r : Refusal) → x ≡ Err r → Told numbers end r)
    → Answered numbers end (found_answer (length out) x) out (found_numbers out x)
found_by numbers end out (Err r) h k = refused numbers end r out out (k r refl) refl
found_by numbers end out (Ok x) h k = tells numbers end (x.stop - x.place) out (field_numbers x.key x.code x.len x.place x.stop) h

pub found_answered : (f : Facts) (kind : Kind) (n : ℕ) (s out : List ℕ)
    → Answered (reading_gives ++ fetching_gives ++ telling_gives) (own_length s) (found_answer (length out) (found f kind n s)) out
    (found_numbers out (found f kind n s))
unfolding among
found_answered f kind n s out =
    found_by _ (own_length s) out (found f kind n s) refl
    (λ r e. in_record (reading_gives ++ fetching_gives) telling_gives s r (found_refused f kind n s r e).told)

pub field_answered : (kind : Kind) (n : ℕ) (t : Site) (s out : List ℕ)
    → Answered (fetching_gives ++ telling_gives) 0 (found_answer (length out) (field_of kind n t s)) out (found_numbers out (field_of kind n t s))
unfolding among
field_answered kind n t s out =
    found_by _ 0 out (field_of kind n t s) refl (λ r e. at_zero fetching_gives telling_gives r (field_refused kind n t s r e))

-- the walk: opening it, and a pair
pub opening_halves : (f : Facts) (s : List ℕ) → Halves reading_gives (own_length s) (opening_answer (opened f s))
opening_halves f s = by-opening (opened f s) refl
  where
    by-opening : (x : Answer ℕ) → opened f s ≡ x → Halves reading_gives (own_length s) (opening_answer x)
    by-opening (Err r) e =
        refused_halves reading_gives (own_length s) r (in_record reading_gives [] s r (reading_refused f s r (opened_refused f s r e)))
    by-opening (Ok at) e = accepted_halves reading_gives (own_length s) at

pub pair_answered : (p : Option Pair) (out : List ℕ) → Answered (fetching_gives ++ telling_gives) 0 (pair_answer (length out) p) out (pair_numbers out p)
unfolding among refused_answer
pair_answered None out = refused _ 0 (refusal 16 0) out out (record { number = refl; place = omega arith }) refl
pair_answered (Some p) out = tells _ 0 (p.next - p.place) out (field_numbers p.key p.code p.len p.place p.next) refl

-- an element that is shown
pub shown_halves : (e : Option Shown) → Halves fetching_gives 0 (shown_answer e)
unfolding among refused_answer
shown_halves (Some (Integer z)) = accepted_halves fetching_gives 0 _
shown_halves (Some (Float b)) = accepted_halves fetching_gives 0 b
shown_halves (Some (Text b)) = accepted_halves fetching_gives 0 b
shown_halves None = refused_halves fetching_gives 0 (refusal 16 0) (record { number = refl; place = omega arith })

-- the tally, choosing, and a VCF line
pub tally_answered : (f : Facts) (s out : List ℕ)
    → Answered (reading_gives ++ tally_gives ++ telling_gives) (own_length s) (tallied_answer (length out) (tallied f s)) out
    (tallied_numbers out (tallied f s))
unfolding among
tally_answered f s out = by-counting (tallied f s).answer refl
  where
    by-counting : (x : Answer Site) → (tallied f s).answer ≡ x
        → Answered (reading_gives ++ tally_gives ++ telling_gives) (own_length s) (counting_answer (length out) (tallied f s).calls x) out
        (counting_numbers out (tallied f s).calls x)
    by-counting (Err r) e =
        refused _ _ r out out (in_record (reading_gives ++ tally_gives) telling_gives s r (tallied_refused f s r e).0.told) refl
    by-counting (Ok t) e = tells _ (own_length s) t.length out (tally_numbers t (tallied f s).calls) refl

pub choosing_answered : (f : Facts) (cs buf s : List ℕ)
    → Answered (reading_gives ++ choosing_gives) (own_length s) (choosing_answer (choosing f cs (length buf) s)) buf (after_choosing f cs buf s)
choosing_answered f cs buf s = by-choosing (choosing f cs (length buf) s) refl
  where
    by-choosing : (x : Answer ℕ) → choosing f cs (length buf) s ≡ x
        → Answered (reading_gives ++ choosing_gives) (own_length s) (choosing_answer x) buf (after_choosing f cs buf s)
    by-choosing (Err r) e =
        let k = choosing_refused f cs buf s r e in
        refused _ _ r buf (after_choosing f cs buf s) (in_record (reading_gives ++ choosing_gives) [] s r k.0.told) k.1
    by-choosing (Ok n) e = accepted _ (own_length s) n buf (after_choosing f cs buf s)

pub line_answered : (f : Facts) (strings contigs : Names) (buf s : List ℕ)
    → Answered (reading_gives ++ line_gives) (own_length s) (line_number (line_answer f strings contigs (length buf) s)) buf (after_line f strings contigs buf s)
line_answered f strings contigs buf s = by-line (line_answer f strings contigs (length buf) s) refl
  where
    by-line : (x : Answer ℕ) → line_answer f strings contigs (length buf) s ≡ x
        → Answered (reading_gives ++ line_gives) (own_length s) (line_number x) buf (after_line f strings contigs buf s)
    by-line (Err r) e =
        let k = line_refused f strings contigs buf s r e in
        refused _ _ r buf (after_line f strings contigs buf s) (in_record (reading_gives ++ line_gives) [] s r k.0.told) k.1
    by-line (Ok n) e = accepted _ (own_length s) n buf (after_line f strings contigs buf s)

-- a fresh state, and a turn: the state's numbers and the buffer
pub fresh_answered : (ns : List ℕ) → Answered telling_gives 0 (fresh_answer (length ns)) ns (fresh_numbers ns)
unfolding fresh_answer fresh_numbers fresh_state told_answer among
fresh_answered ns = tells telling_gives 0 0 ns (state_numbers fresh_state) refl

pub turn_answered : (numbers : List ℕ) (st : Builder) (buf ns after : List ℕ) (t : Turned) → Refuses numbers st buf t after
    → Answered numbers 0 (turn_answer t) ns (turn_numbers ns t) × Answered numbers 0 (turn_answer t) buf after
unfolding refused_answer
turn_answered numbers st buf ns after t h = by_answer t.answer refl
  where
    by_answer : (a : Answer (Unit {0})) → t.answer ≡ a
        → Answered numbers 0 (answer (answer_number a) (turn_low t.state a)) ns (held_after ns t.state a)
        × Answered numbers 0 (answer (answer_number a) (turn_low t.state a)) buf after
    by_answer Taken e = (accepted numbers 0 t.state.at ns _, accepted numbers 0 t.state.at buf after)
    by_answer (Err r) e =
        let k = h r e in
        let told : Told numbers 0 r = record { number = k.told.number; place = omega (arith, k.told.place) } in
        (refused numbers 0 r ns ns told refl, refused numbers 0 r buf after told k.buffer)
