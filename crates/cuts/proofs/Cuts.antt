-- What a line's answer is by what was found of it, and what reading and choosing said of its record; and its text stored.
-- Rests on specs/Cuts, on choosing, and on proofs/Fronts and Shorter.
use mathlib.Core.Path.{◌≡◌, refl, sym, ◌∙◌}
use mathlib.Core.List.{List, [], ◌∷◌}
use mathlib.Core.Bool.{Bool, true, false}
use mathlib.Core.Option.{none, some}
use Prim.Native.Nat.{ℕ, ◌+◌, ◌*◌, ◌≤◌}
use native.Mathlib.Omega.{arith}
use native.Mathlib.Nat.{zero-add}
use lib.Dec.{ltb}
use lib.ListN.{length, take, set, length-append}
use lib.Seq.{sets, sets-eq, take-append_seam}
use borrow.Author.Tests.{le-ltb}
use Rattle.words.specs.Pick.{pick}
use Rattle.words.proofs.Stores.{sets_append}
use Rattle.stores.specs.Stores.{filled}
use Rattle.stores.proofs.Room.{filled_room}
use Rattle.hexadecimal.specs.Hexadecimal.{frame_of}
use Rattle.capitals.specs.Capitals.{capitals}
use Rattle.capitals.proofs.Turns.{length_capitals}
use Rattle.values.specs.Answers.{refusal, Answer}
use Rattle.values.specs.declared.Refusal.{Refusal}
use Rattle.facts.specs.declared.Facts.{Facts}
use Rattle.fixed.specs.declared.Site.{Site}
use Rattle.genotypes.specs.declared.Gt.{Gt}
use Rattle.record.specs.Reading.{reading, accepted_as}
use Rattle.choice.specs.Choice.{ascending}
use Rattle.choose.specs.Chosen.{chosen_record}
use Rattle.choose.specs.Choose.{chosen_length, answer_of, choosing, chosen_buffer, buffer_of, after_choosing}
use Rattle.frames.specs.Text.{no_line, bad_line}
use Rattle.frames.specs.Frames.{text_room, said, said_in}
use Rattle.std.proofs.Common.{Some}
use Rattle.cuts.specs.Cuts.{record_text, cut_reading, cut_record, cut_line, kept_reading, kept_record, line_room}
use Rattle.cuts.specs.Engine.{followed}
use Rattle.cuts.proofs.Fronts.{accepted_followed, accepted_inside}
use Rattle.std.specs.Prelude.{Err, Ok}
use Rattle.record.specs.declared.Reading.{Reading}
use Rattle.cuts.proofs.Shorter.{chosen_shorter}

-- a record that is refused
pub unread_said : (f : Facts) (cs buf bs : List ℕ) (r : Refusal) → reading f bs ≡ Err r
    → (cut_record f cs bs ≡ no_line (r.number ∷ r.place ∷ [])) × (kept_record f cs buf bs ≡ buf)
unfolding cut_record kept_record
unread_said f cs buf bs r h = (rw h, rw h)

-- an accepted record that bytes follow
pub followed_said : (f : Facts) (cs buf bs : List ℕ) (t : Site) (g : Gt) → followed bs ≡ true → reading f bs ≡ accepted_as t g
    → (cut_record f cs bs ≡ bad_line) × (kept_record f cs buf bs ≡ buf)
unfolding cut_record kept_record
followed_said f cs buf bs t g w h = let q = sym (accepted_followed f bs t g h) ∙ w in (rw (h, q), rw (h, q))

-- the first bytes of what was stored
pub stored_front : (buf r : List ℕ) → length r ≤ length buf → take (length r) (sets buf 0 r) ≡ r
stored_front buf r h = rw (sets-eq r buf 0 (omega arith), take-append_seam)

-- a record that no bytes follow, chosen from into a buffer that has room for it
pub chosen_said : (f : Facts) (cs buf bs : List ℕ) (n : ℕ) → followed bs ≡ false → length bs ≤ length buf → choosing f cs (length buf) bs ≡ Ok n
    → (cut_record f cs bs ≡ record_text (take n (after_choosing f cs buf bs))) × (kept_record f cs buf bs ≡ after_choosing f cs buf bs) × (n ≤ length bs)
unfolding cut_record kept_record choosing after_choosing
chosen_said f cs buf bs n w room h = by-reading (reading f bs) refl h
  where
    by-choice : (t : Site) (g : Gt) → reading f bs ≡ accepted_as t g → (b : Bool) → ascending t.people cs ≡ b
        → pick b (chosen_length (length buf) (chosen_record t cs bs)) (Err (refusal 14 0)) ≡ Ok n
        → (pick b (record_text (chosen_record t cs bs)) (no_line (14 ∷ 0 ∷ [])) ≡ record_text (take n (pick b (chosen_buffer buf (chosen_record t cs bs)) buf)))
        × (pick b (sets buf 0 (chosen_record t cs bs)) buf ≡ pick b (chosen_buffer buf (chosen_record t cs bs)) buf)
        × (n ≤ length bs)
    by-choice t g e false a k = let z : ◌≡◌ {A = ℕ} 0 1 = cc in absurd (omega arith)
    by-choice t g e true a k =
        let r = chosen_record t cs bs in
        let i = accepted_inside f bs t g e in
        let s = chosen_shorter t cs bs i.0 i.1 a in
        let q : ltb (length buf) (length r) ≡ false = le-ltb (length buf) (length r) (omega (arith, i)) in
        let c : Ok (length r) ≡ Ok n = rw q at k in
        let m : length r ≡ n = cc in
        (rw (q, ← m, stored_front buf r (omega (arith, i))), rw q, omega (arith, i))

    by-reading : (x : Answer Reading) → reading f bs ≡ x → answer_of cs (length buf) bs x ≡ Ok n
        → (cut_reading cs bs x ≡ record_text (take n (buffer_of cs buf bs x))) × (kept_reading cs buf bs x ≡ buffer_of cs buf bs x) × (n ≤ length bs)
    by-reading (Err r) e k = let z : ◌≡◌ {A = ℕ} 0 1 = cc in absurd (omega arith)
    by-reading (Ok a) e k =
        let q : ltb a.site.length (length bs) ≡ false = sym (accepted_followed f bs a.site a.gt e) ∙ w in
        rw q (by-choice a.site a.gt e (ascending a.site.people cs) refl k)

pub refused_said : (f : Facts) (cs buf bs : List ℕ) (r : Refusal) → followed bs ≡ false → length bs ≤ length buf
    → choosing f cs (length buf) bs ≡ Err r
    → (cut_record f cs bs ≡ no_line (r.number ∷ r.place ∷ [])) × (kept_record f cs buf bs ≡ after_choosing f cs buf bs)
unfolding cut_record kept_record choosing after_choosing
refused_said f cs buf bs r w room h = by-reading (reading f bs) refl h
  where
    by-choice : (t : Site) (g : Gt) → reading f bs ≡ accepted_as t g → (b : Bool) → ascending t.people cs ≡ b
        → pick b (chosen_length (length buf) (chosen_record t cs bs)) (Err (refusal 14 0)) ≡ Err r
        → (pick b (record_text (chosen_record t cs bs)) (no_line (14 ∷ 0 ∷ [])) ≡ no_line (r.number ∷ r.place ∷ []))
        × (pick b (sets buf 0 (chosen_record t cs bs)) buf ≡ pick b (chosen_buffer buf (chosen_record t cs bs)) buf)
    by-choice t g e false a k = let m : refusal 14 0 ≡ r = cc in (rw (← m), refl)
    by-choice t g e true a k =
        let i = accepted_inside f bs t g e in
        let s = chosen_shorter t cs bs i.0 i.1 a in
        let q : ltb (length buf) (length (chosen_record t cs bs)) ≡ false = le-ltb (length buf) (length (chosen_record t cs bs)) (omega (arith, i)) in
        let c : Ok (length (chosen_record t cs bs)) ≡ Err r = rw q at k in
        let z : ◌≡◌ {A = ℕ} 0 1 = cc in
        absurd (omega arith)

    by-reading : (x : Answer Reading) → reading f bs ≡ x → answer_of cs (length buf) bs x ≡ Err r
        → (cut_reading cs bs x ≡ no_line (r.number ∷ r.place ∷ [])) × (kept_reading cs buf bs x ≡ buffer_of cs buf bs x)
    by-reading (Err r') e k = let m : r' ≡ r = cc in (rw m, refl)
    by-reading (Ok a) e k =
        let q : ltb a.site.length (length bs) ≡ false = sym (accepted_followed f bs a.site a.gt e) ∙ w in
        rw q (by-choice a.site a.gt e (ascending a.site.people cs) refl k)

-- a line that frames says, where there is room
pub said_as : (out text line : List ℕ) → line_room ≤ length out → line ≡ text → said (length out) text ≡ Some (length line)
unfolding said
said_as out text line h e = rw (le-ltb (length out) text_room (omega arith), e)

pub said_in_as : (out text line : List ℕ) → line_room ≤ length out → line ≡ text → said_in out text ≡ sets out 0 line
unfolding said_in
said_in_as out text line h e = rw (le-ltb (length out) text_room (omega arith), e)

-- a record's text, stored piece by piece
pub length_text : (bs : List ℕ) → length (record_text bs) ≡ length bs * 2 + 1
length_text bs = rw (length-append, length_capitals bs)

pub text_stored : (out bs : List ℕ) → length bs * 2 ≤ length out
    → set (filled out 0 (capitals bs)) (length bs * 2) 0x0A ≡ sets out 0 (record_text bs)
text_stored out bs h =
    rw (filled_room out 0 (capitals bs) (omega (arith, length_capitals bs)), sets_append (capitals bs) (0x0A ∷ []) out 0, length_capitals bs, zero-add)

-- a line whose bytes are known, and a line that is bad
pub cut_bytes : (f : Facts) (cs line bs : List ℕ) → frame_of line ≡ some bs → cut_line f cs line ≡ cut_record f cs bs
unfolding cut_line
cut_bytes f cs line bs h = rw h

pub cut_bad : (f : Facts) (cs line : List ℕ) → frame_of line ≡ none → cut_line f cs line ≡ bad_line
unfolding cut_line
cut_bad f cs line h = rw h
