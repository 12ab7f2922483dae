-- The answer to an accepted record, over 64 alleles and up to them. Rests on specs/Frames.
use mathlib.Core.Path.{◌≡◌, refl, sym, ap, ◌∙◌}
use mathlib.Core.List.{List, ◌∷◌, ◌++◌, []}
use Prim.Native.Nat.{ℕ, ◌+◌, ◌<◌, ◌≤◌}
use lib.ListN.{length, take}
use lib.Dec.{ltb}
use native.Mathlib.Omega.{arith}
use mathlib.Core.Bool.{Bool, true, false}
use mathlib.Core.Option.{Option, none, some}
use Rattle.words.specs.Pick.{pick}
use Rattle.hexadecimal.specs.Hexadecimal.{answered, frame_of, stored}
use Rattle.hexadecimal.specs.declared.LineError.TheVariants.{Bad, NoRoom}
use Rattle.std.specs.Prelude.{Ok, Err}
use borrow.Author.Tests.{lt-ltb, le-ltb}
use Rattle.hexadecimal.proofs.Frames.{told}
use Rattle.facts.specs.declared.Facts.{Facts}
use Rattle.fixed.specs.declared.Site.{Site}
use Rattle.genotypes.specs.declared.Gt.{Gt}
use Rattle.tally.specs.Tally.{calls_of}
use Rattle.frames.specs.Frames.{record_numbers, call_numbers, accepted_line, framed, answer_line, frame_line, record_line}
use Rattle.frames.specs.Text.{ok_line, bad_line}

pub accepted_many : (t : Site) (g : Gt) (bs : List ℕ) → 64 < t.alleles → accepted_line t g bs ≡ ok_line (record_numbers t ++ [])
unfolding accepted_line call_numbers
accepted_many t g bs h = rw (lt-ltb _ _ h)

pub accepted_few : (t : Site) (g : Gt) (bs : List ℕ) → t.alleles ≤ 64
    → accepted_line t g bs ≡ ok_line (record_numbers t ++ ((calls_of g t.people bs).without ∷ take (t.alleles + 1) (calls_of g t.people bs).counts))
unfolding accepted_line call_numbers
accepted_few t g bs h = rw (le-ltb _ _ h)

-- what a line is by what was answered to it
pub frame_bad : (room : ℕ) (o : Option (List ℕ)) → answered room o ≡ Err Bad → o ≡ none
frame_bad room none h = refl
frame_bad room (some bs) h = by-room (ltb room (length bs)) h
  where
    by-room : (b : Bool) → pick b (Err NoRoom) (Ok (length bs)) ≡ Err Bad → some bs ≡ none
    by-room true h = cc
    by-room false h = cc

pub frame_short : {A : Type 0} (room : ℕ) (o : Option (List ℕ)) (short fits : A) → answered room o ≡ Err NoRoom → framed room short fits o ≡ short
frame_short room none short fits h = let z : ◌≡◌ {A = ℕ} 0 1 = cc in absurd (omega arith)
frame_short room (some bs) short fits h = by-room (ltb room (length bs)) h
  where
    by-room : (b : Bool) → pick b (Err NoRoom) (Ok (length bs)) ≡ Err NoRoom → pick b short fits ≡ short
    by-room true h = refl
    by-room false h = let z : ◌≡◌ {A = ℕ} 0 1 = cc in absurd (omega arith)

pub frame_fits : {A : Type 0} (room n : ℕ) (o : Option (List ℕ)) (short fits : A) → answered room o ≡ Ok n → framed room short fits o ≡ fits
frame_fits room n none short fits h = refl
frame_fits room n (some bs) short fits h = by-room (ltb room (length bs)) h
  where
    by-room : (b : Bool) → pick b (Err NoRoom) (Ok (length bs)) ≡ Ok n → pick b short fits ≡ fits
    by-room true h = let z : ◌≡◌ {A = ℕ} 0 1 = cc in absurd (omega arith)
    by-room false h = refl

-- a line whose bytes were stored, and a line that is bad
pub answer_bytes : (f : Facts) (line frame after : List ℕ) (n : ℕ) → answered (length frame) (frame_of line) ≡ Ok n → after ≡ stored frame (frame_of line)
    → answer_line f line ≡ record_line f (take n after)
unfolding answer_line
answer_bytes f line frame after n h e = ap (frame_line f) (told frame (frame_of line) n h) ∙ ap (λ (b : List ℕ). record_line f (take n b)) (sym e)

pub answer_bad : (f : Facts) (line : List ℕ) → frame_of line ≡ none → answer_line f line ≡ bad_line
unfolding answer_line
answer_bad f line e = rw e
