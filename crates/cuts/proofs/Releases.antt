-- The release's first line stored piece by piece, and read back: it says the facts with the people chosen.
-- Rests on specs/Release, on stores, and on hexadecimal.
use mathlib.Core.Path.{◌≡◌}
use mathlib.Core.List.{List, [], ◌∷◌, ◌++◌}
use Prim.Native.Nat.{ℕ, ◌+◌, ◌^◌, ◌<◌, ◌≤◌}
use native.Mathlib.Omega.{arith}
use lib.ListN.{length, set, take, length-append}
use lib.Seq.{sets, length-sets}
use Rattle.words.proofs.Stores.{sets_append}
use Rattle.stores.specs.Stores.{filled}
use Rattle.stores.proofs.Room.{filled_room}
use Rattle.facts.specs.declared.Facts.{Facts}
use Rattle.hexadecimal.specs.Hexadecimal.{facts_of}
use Rattle.std.specs.Prelude.{Some}
use Rattle.capitals.specs.Capitals.{capitals, high_first, eight}
use Rattle.capitals.proofs.Back.{digits_capitals, bytes_high, big_eight}
use Rattle.capitals.proofs.Turns.{length_capitals}
use Rattle.cuts.specs.Release.{release_line}

pub length_eight : (n : ℕ) → length (eight n) ≡ 8
unfolding high_first
length_eight n = length_capitals (high_first n)

pub length_release : (f : Facts) (n : ℕ) → length (release_line f n) ≡ 33
unfolding release_line
length_release f n =
    rw (length-append, length-append, length-append, length-append, length_eight, length_eight, length_eight, length_eight)

-- a number's digits have room
pub eight_filled : (out : List ℕ) (at n : ℕ) → at + 8 ≤ length out → filled out at (eight n) ≡ sets out at (eight n)
eight_filled out at n h = filled_room out at (eight n) (rw length_eight h)

pub release_stored : (out : List ℕ) (f : Facts) (n : ℕ) → 33 ≤ length out
    → set (filled (filled (filled (filled out 0 (eight f.strings)) 8 (eight f.contigs)) 16 (eight n)) 24 (eight f.gt)) 32 0x0A
    ≡ sets out 0 (release_line f n)
unfolding release_line
release_stored out f n h =
    let a = eight f.strings in
    let b = eight f.contigs in
    let c = eight n in
    let d = eight f.gt in
    let one = sets out 0 a in
    let two = sets one 8 b in
    let three = sets two 16 c in
    rw (
      eight_filled out 0 f.strings (omega arith),
      eight_filled one 8 f.contigs (rw length-sets (omega arith)),
      eight_filled two 16 n (rw (length-sets, length-sets) (omega arith)),
      eight_filled three 24 f.gt (rw (length-sets, length-sets, length-sets) (omega arith)),
      sets_append a (b ++ (c ++ (d ++ (0x0A ∷ [])))) out 0,
      length_eight,
      sets_append b (c ++ (d ++ (0x0A ∷ []))) one 8,
      length_eight,
      sets_append c (d ++ (0x0A ∷ [])) two 16,
      length_eight,
      sets_append d (0x0A ∷ []) three 24,
      length_eight,
    )

-- the release's first line without its line feed gives the header's facts, with the people chosen
pub release_read : (f : Facts) (n : ℕ) → f.strings < 2 ^ 32 → f.contigs < 2 ^ 32 → n < 2 ^ 32 → f.gt < 2 ^ 32
    → facts_of (take 32 (release_line f n)) ≡ Some (record { strings = f.strings; contigs = f.contigs; people = n; gt = f.gt })
unfolding release_line facts_of capitals high_first
release_read f n s c p g =
    let last = high_first f.gt ++ [] in
    let two = high_first n ++ last in
    let three = high_first f.contigs ++ two in
    let all = high_first f.strings ++ three in
    let b₁ = bytes_high f.gt [] g (λ i l. absurd (omega arith)) in
    let b₂ = bytes_high n last p b₁ in
    let b₃ = bytes_high f.contigs two c b₂ in
    let b₄ = bytes_high f.strings three s b₃ in
    rw (digits_capitals all b₄, big_eight f.strings s, big_eight f.contigs c, big_eight n p, big_eight f.gt g)
