-- What a turn takes of an input: its next line, or all that a piece has. Rests on lines.
use mathlib.Core.Path.{◌≡◌, refl, sym, ap, ◌∙◌}
use mathlib.Core.List.{List, ◌∷◌, ◌++◌, map, append_assoc}
use mathlib.Core.Bool.{Bool, true, false}
use Prim.Native.Nat.{ℕ, suc, ◌+◌, ◌<◌, ◌≤◌}
use native.Mathlib.Omega.{arith}
use lib.Dec.{ltb}
use lib.ListN.{length, take, drop, length-drop}
use lib.Seq.{drop-drop}
use borrow.Author.Tests.{ltb-true, ltb-false}
use Rattle.words.specs.Pick.{pick}
use Rattle.lines.specs.Lines.{lines_of, line_length, added, taken, taken_into}
use Rattle.lines.specs.declared.Taken.TheVariants.{Line, Part}
use Rattle.lines.proofs.Pieces.{Whole, whole_append, whole_take, no_feed, lines_first, lines_cut, held_all, held_then, held_most}

-- the next line, and the place after its feed
pub next_line : (line : List ℕ) (held : ℕ) (piece : List ℕ) (at len next : ℕ) (more : List ℕ) → held ≤ length line → Whole (take held line)
    → taken line held piece at ≡ Line len next
    → (map (take (length line)) (lines_of (take held line ++ (drop at piece ++ more)))
    ≡ take len (taken_into line held piece at) ∷ map (take (length line)) (lines_of (drop next piece ++ more)))
    × (at < next) × (next ≤ length piece) × (len ≤ length line)
unfolding taken taken_into added
next_line line held piece at len next more h w t = by-end (ltb (at + line_length (drop at piece)) (length piece)) refl t
  where
    by-end : (b : Bool) → ltb (at + line_length (drop at piece)) (length piece) ≡ b
        → pick b (Line (held + length (added line held piece at)) (at + line_length (drop at piece) + 1)) (Part (held + length (added line held piece at))) ≡ Line len next
        → (map (take (length line)) (lines_of (take held line ++ (drop at piece ++ more)))
        ≡ take len (taken_into line held piece at) ∷ map (take (length line)) (lines_of (drop next piece ++ more)))
        × (at < next) × (next ≤ length piece) × (len ≤ length line)
    by-end true e k =
        let c : held + length (added line held piece at) ≡ len = cc in
        let n : at + line_length (drop at piece) + 1 ≡ next = cc in
        let k = ltb-true _ _ e in
        let rest = length-drop at piece in
        let first = lines_first (take held line) (drop at piece) more w (omega (arith, rest)) in
        let q : at + suc (line_length (drop at piece)) ≡ next = omega (arith, n) in
        let same : drop (suc (line_length (drop at piece))) (drop at piece) ≡ drop next piece = rw (← q) (drop-drop (suc (line_length (drop at piece))) at piece) in
        let there : take len (taken_into line held piece at) ≡ take (length line) (take held line ++ take (line_length (drop at piece)) (drop at piece)) = rw (← c) (held_then line held (take (line_length (drop at piece)) (drop at piece)) h) in
        (rw (first, same, there), omega (arith, n), omega (arith, n), omega (arith, c, held_most line held piece at h))
    by-end false e k = let z : ◌≡◌ {A = ℕ} 0 1 = cc in absurd (omega arith)

-- a piece that ends before its line does
pub piece_held : (line : List ℕ) (held : ℕ) (piece : List ℕ) (at n : ℕ) (more : List ℕ) → 0 < length line → held ≤ length line → Whole (take held line)
    → taken line held piece at ≡ Part n
    → (map (take (length line)) (lines_of (take held line ++ (drop at piece ++ more)))
    ≡ map (take (length line)) (lines_of (take n (taken_into line held piece at) ++ more)))
    × Whole (take n (taken_into line held piece at)) × (n ≤ length line)
unfolding taken
piece_held line held piece at n more z h w t = by-end (ltb (at + line_length (drop at piece)) (length piece)) refl t
  where
    by-end : (b : Bool) → ltb (at + line_length (drop at piece)) (length piece) ≡ b
        → pick b (Line (held + length (added line held piece at)) (at + line_length (drop at piece) + 1)) (Part (held + length (added line held piece at))) ≡ Part n
        → (map (take (length line)) (lines_of (take held line ++ (drop at piece ++ more)))
        ≡ map (take (length line)) (lines_of (take n (taken_into line held piece at) ++ more)))
        × Whole (take n (taken_into line held piece at)) × (n ≤ length line)
    by-end true e k = let z : ◌≡◌ {A = ℕ} 0 1 = cc in absurd (omega arith)
    by-end false e k =
        let c : held + length (added line held piece at) ≡ n = cc in
        let k = ltb-false _ _ e in
        let rest = length-drop at piece in
        let both = whole_append (take held line) (drop at piece) w (no_feed (drop at piece) (omega (arith, rest))) in
        let there : take n (taken_into line held piece at) ≡ take (length line) (take held line ++ drop at piece) = rw (← c) (held_all line held piece at h k) in
        let cut = lines_cut (length line) (take held line ++ drop at piece) more z both in
        (rw there (ap (λ (x : List ℕ). map (take (length line)) (lines_of x)) (sym (append_assoc (take held line) (drop at piece) more)) ∙ sym cut), rw there (whole_take (length line) (take held line ++ drop at piece) both), omega (arith, c, held_most line held piece at h))
