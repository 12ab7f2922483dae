-- The lines taken one after the other from any division of an input are those of the input, each as far as it has room. Rests on proofs/Next.
use mathlib.Core.Path.{◌≡◌, refl, sym, ap, ◌∙◌}
use mathlib.Core.List.{List, [], ◌∷◌, ◌++◌, map, append-nil, append_assoc}
use mathlib.Core.Bool.{Bool, true, false}
use Prim.Native.Nat.{ℕ, zero, suc, ◌+◌, ◌-◌, ◌<◌, ◌≤◌}
use native.Mathlib.Omega.{arith}
use lib.Dec.{eqb, ltb}
use lib.ListN.{length, take, drop, length-append, length-drop, length-take}
use lib.Seq.{sets, sets-eq, length-sets, length-take-le, take_all, take-take, take-append-add, drop-drop, take_at}
use borrow.Author.Tests.{ltb-true, ltb-false, eqb-true}
use Rattle.words.specs.Pick.{pick}
use Rattle.lines.specs.Lines.{onto, lines_of, line_length, fitting, added, taken_into}
use Rattle.lines.specs.Pieces.{joined, last_line, lines_taken, LinesTaken}
use Rattle.lines.proofs.Next.{taken_line, taken_part}

-- bytes put in front of the first line
before : List ℕ → List (List ℕ) → List (List ℕ)
before [] ls = ls
before (c ∷ cs) ls = onto c (before cs ls)

before_line : (h l : List ℕ) (ls : List (List ℕ)) → before h (l ∷ ls) ≡ (h ++ l) ∷ ls
unfolding before
before_line [] l ls = refl
before_line (c ∷ cs) l ls = rw (before_line cs l ls)

before_none : (h : List ℕ) → before h [] ≡ last_line h
unfolding before
before_none [] = refl
before_none (c ∷ []) = refl
before_none (c ∷ d ∷ cs) = rw (before_none (d ∷ cs))

-- no feed among these bytes
pub Whole : List ℕ → Type 0
Whole h = line_length h ≡ length h

whole_first : (c : ℕ) (cs : List ℕ) → Whole (c ∷ cs) → (eqb c 0x0A ≡ false) × Whole cs
unfolding Whole line_length
whole_first c cs w = by-feed (eqb c 0x0A) w
  where
    by-feed : (b : Bool) → pick b 0 (suc (line_length cs)) ≡ suc (length cs) → (b ≡ false) × (line_length cs ≡ length cs)
    by-feed true k = absurd (omega arith)
    by-feed false k = (refl, omega arith)

lines_before : (h s : List ℕ) → Whole h → lines_of (h ++ s) ≡ before h (lines_of s)
unfolding lines_of before
lines_before [] s w = refl
lines_before (c ∷ cs) s w = rw ((whole_first c cs w).0, lines_before cs s (whole_first c cs w).1)

lines_alone : (h : List ℕ) → Whole h → lines_of h ≡ last_line h
unfolding lines_of
lines_alone h w = ap lines_of (sym (append-nil h)) ∙ lines_before h [] w ∙ before_none h

pub whole_none : Whole []
unfolding Whole line_length
whole_none = refl

-- a last line is the same with the feed that it lacks
pub lines_fed : (h : List ℕ) → 0 < length h → Whole h → lines_of (h ++ (0x0A ∷ [])) ≡ lines_of h
unfolding lines_of
lines_fed [] z w = absurd (omega arith)
lines_fed (c ∷ cs) z w =
    lines_before (c ∷ cs) (0x0A ∷ []) w
    ∙ before_line (c ∷ cs) [] []
    ∙ ap (λ (x : List ℕ). x ∷ []) (append-nil (c ∷ cs))
    ∙ sym (lines_alone (c ∷ cs) w)

whole_more : (c : ℕ) (cs : List ℕ) → eqb c 0x0A ≡ false → Whole cs → Whole (c ∷ cs)
unfolding Whole line_length
whole_more c cs e w = rw (e, w)

pub whole_append : (h r : List ℕ) → Whole h → Whole r → Whole (h ++ r)
whole_append [] r w v = v
whole_append (c ∷ cs) r w v = whole_more c (cs ++ r) (whole_first c cs w).0 (whole_append cs r (whole_first c cs w).1 v)

pub whole_take : (n : ℕ) (h : List ℕ) → Whole h → Whole (take n h)
whole_take zero h w = whole_none
whole_take (suc n) [] w = whole_none
whole_take (suc n) (c ∷ cs) w = whole_more c (take n cs) (whole_first c cs w).0 (whole_take n cs (whole_first c cs w).1)

-- the bytes before the first feed, and the feed itself
whole_front : (r : List ℕ) → Whole (take (line_length r) r)
unfolding line_length
whole_front [] = whole_none
whole_front (c ∷ cs) = by-feed (eqb c 0x0A) refl (whole_front cs)
  where
    by-feed : (b : Bool) → eqb c 0x0A ≡ b → Whole (take (line_length cs) cs) → Whole (take (pick b 0 (suc (line_length cs))) (c ∷ cs))
    by-feed true e w = whole_none
    by-feed false e w = whole_more c (take (line_length cs) cs) e w

first_feed : (r : List ℕ) → line_length r < length r → r ≡ take (line_length r) r ++ (0x0A ∷ drop (suc (line_length r)) r)
unfolding line_length
first_feed [] h = absurd (omega arith)
first_feed (c ∷ cs) h = by-feed (eqb c 0x0A) refl h (first_feed cs)
  where
    by-feed : (b : Bool) → eqb c 0x0A ≡ b → pick b 0 (suc (line_length cs)) < suc (length cs)
        → (line_length cs < length cs → cs ≡ take (line_length cs) cs ++ (0x0A ∷ drop (suc (line_length cs)) cs))
        → c ∷ cs ≡ take (pick b 0 (suc (line_length cs))) (c ∷ cs) ++ (0x0A ∷ drop (suc (pick b 0 (suc (line_length cs)))) (c ∷ cs))
    by-feed true e k on = ap (λ (x : ℕ). x ∷ cs) (eqb-true c 0x0A e)
    by-feed false e k on = ap (λ (x : List ℕ). c ∷ x) (on (omega arith))

-- bytes with no feed among them
pub no_feed : (r : List ℕ) → length r ≤ line_length r → Whole r
no_feed r h = rw (take_all (line_length r) r h) at (whole_front r)

-- the first line of an input whose first bytes are held and whose next feed is there
pub lines_first : (h r more : List ℕ) → Whole h → line_length r < length r
    → lines_of (h ++ (r ++ more)) ≡ (h ++ take (line_length r) r) ∷ lines_of (drop (suc (line_length r)) r ++ more)
unfolding lines_of
lines_first h r more w k =
    let front = take (line_length r) r in
    let on = drop (suc (line_length r)) r ++ more in
    let e : r ++ more ≡ front ++ (0x0A ∷ on) = ap (λ (x : List ℕ). x ++ more) (first_feed r k) ∙ append_assoc front (0x0A ∷ drop (suc (line_length r)) r) more in
    ap (λ (x : List ℕ). lines_of (h ++ x)) e
    ∙ lines_before h (front ++ (0x0A ∷ on)) w
    ∙ ap (before h) (lines_before front (0x0A ∷ on) (whole_front r) ∙ before_line front [] (lines_of on))
    ∙ before_line h (front ++ []) (lines_of on)
    ∙ ap (λ (x : List ℕ). (h ++ x) ∷ lines_of on) (append-nil front)

-- a line cut to what has room for it, and so is its beginning
cut_append : (n : ℕ) (h l : List ℕ) → take n (take n h ++ l) ≡ take n (h ++ l)
cut_append zero h l = refl
cut_append (suc n) [] l = refl
cut_append (suc n) (c ∷ cs) l = ap (λ (x : List ℕ). c ∷ x) (cut_append n cs l)

last_cut : (n : ℕ) (h : List ℕ) → 0 < n → last_line (take n h) ≡ map (take n) (last_line h)
last_cut zero h z = absurd (omega arith)
last_cut (suc n) [] z = refl
last_cut (suc n) (c ∷ cs) z = refl

before_cut : (n : ℕ) (h : List ℕ) (ls : List (List ℕ)) → 0 < n → map (take n) (before (take n h) ls) ≡ map (take n) (before h ls)
before_cut n h [] z =
    rw (before_none (take n h), before_none h) (ap (map (take n)) (last_cut n h z) ∙ again n (last_line h))
  where
    again : (k : ℕ) (xs : List (List ℕ)) → map (take k) (map (take k) xs) ≡ map (take k) xs
    again k [] = refl
    again k (x ∷ xs) = rw (take-take k k x (omega arith), again k xs)
before_cut n h (l ∷ ls) z = rw (before_line (take n h) l ls, before_line h l ls, cut_append n h l)

pub lines_cut : (n : ℕ) (h s : List ℕ) → 0 < n → Whole h → map (take n) (lines_of (take n h ++ s)) ≡ map (take n) (lines_of (h ++ s))
lines_cut n h s z w = rw (lines_before (take n h) s (whole_take n h w), lines_before h s w) (before_cut n h (lines_of s) z)

-- what the line's buffer holds after a turn
pub held_then : (line : List ℕ) (held : ℕ) (part : List ℕ) → held ≤ length line
    → take (held + length (fitting line held part)) (sets line held (fitting line held part)) ≡ take (length line) (take held line ++ part)
unfolding fitting
held_then line held part h =
    let f = take (length line - held) part in
    let k = length-take-le held line h in
    let few = length-take (length line - held) part in
    let whole : length (take held line ++ f) ≡ held + length f = rw (length-append, k) in
    let room : length line ≡ length (take held line) + (length line - held) = omega (arith, k) in
    let right : take (length line) (take held line ++ part) ≡ take held line ++ f =
    ap (λ (n : ℕ). take n (take held line ++ part)) room ∙ take-append-add (take held line) part (length line - held) in
    rw (sets-eq f line held (omega (arith, few)), right) (take_at (take held line ++ f) (drop (held + length f) line) (held + length f) whole)

-- one turn: a line that is there, and a piece that ends before its line does
turn_line : (turns : ℕ) (line : List ℕ) (held : ℕ) (piece : List ℕ) (at : ℕ) (pieces : List (List ℕ)) → held ≤ length line
    → at + line_length (drop at piece) < length piece
    → lines_taken (suc turns) line held piece at pieces
    ≡ take (length line) (take held line ++ take (line_length (drop at piece)) (drop at piece))
    ∷ lines_taken turns (taken_into line held piece at) 0 piece (at + line_length (drop at piece) + 1) pieces
unfolding lines_taken taken_into added
turn_line turns line held piece at pieces h k =
    rw (taken_line line held piece at k, held_then line held (take (line_length (drop at piece)) (drop at piece)) h)

turn_part : (turns : ℕ) (line : List ℕ) (held : ℕ) (piece : List ℕ) (at : ℕ) (p : List ℕ) (ps : List (List ℕ))
    → length piece ≤ at + line_length (drop at piece)
    → lines_taken (suc turns) line held piece at (p ∷ ps)
    ≡ lines_taken turns (taken_into line held piece at) (held + length (added line held piece at)) p 0 ps
unfolding lines_taken
turn_part turns line held piece at p ps k = rw (taken_part line held piece at k)

turn_end : (turns : ℕ) (line : List ℕ) (held : ℕ) (piece : List ℕ) (at : ℕ) → length piece ≤ at + line_length (drop at piece)
    → lines_taken (suc turns) line held piece at [] ≡ last_line (take (held + length (added line held piece at)) (taken_into line held piece at))
unfolding lines_taken
turn_end turns line held piece at k = rw (taken_part line held piece at k)

-- what is held where the piece has ended
pub held_all : (line : List ℕ) (held : ℕ) (piece : List ℕ) (at : ℕ) → held ≤ length line → length piece ≤ at + line_length (drop at piece)
    → take (held + length (added line held piece at)) (taken_into line held piece at) ≡ take (length line) (take held line ++ drop at piece)
unfolding taken_into added
held_all line held piece at h k =
    let e = length-drop at piece in
    rw (take_all (line_length (drop at piece)) (drop at piece) (omega (arith, e))) (held_then line held (drop at piece) h)

pub held_most : (line : List ℕ) (held : ℕ) (piece : List ℕ) (at : ℕ) → held ≤ length line → held + length (added line held piece at) ≤ length line
unfolding added fitting
held_most line held piece at h =
    let e = length-take (length line - held) (take (line_length (drop at piece)) (drop at piece)) in
    omega (arith, e)

pub length_into : (line : List ℕ) (held : ℕ) (piece : List ℕ) (at : ℕ) → length (taken_into line held piece at) ≡ length line
unfolding taken_into
length_into line held piece at = length-sets line held (added line held piece at)

-- all that is taken in so many turns, after what is held, from what is left of a piece and the pieces that follow it
RestTaken : ℕ → Type 0
RestTaken turns =
    (line : List ℕ) (held : ℕ) (piece : List ℕ) (at : ℕ) (pieces : List (List ℕ)) → 0 < length line → held ≤ length line → Whole (take held line)
    → length (drop at piece) + (length (joined pieces) + length pieces) < turns
    → lines_taken turns line held piece at pieces ≡ map (take (length line)) (lines_of (take held line ++ (drop at piece ++ joined pieces)))

rest_line : (turns : ℕ) → RestTaken turns → (line : List ℕ) (held : ℕ) (piece : List ℕ) (at : ℕ) (pieces : List (List ℕ)) → 0 < length line
    → held ≤ length line → Whole (take held line) → length (drop at piece) + (length (joined pieces) + length pieces) < suc turns
    → at + line_length (drop at piece) < length piece
    → lines_taken (suc turns) line held piece at pieces ≡ map (take (length line)) (lines_of (take held line ++ (drop at piece ++ joined pieces)))
unfolding RestTaken
rest_line turns on line held piece at pieces z h w k e =
    let n = line_length (drop at piece) in
    let room = length_into line held piece at in
    let rest = length-drop at piece in
    let later = length-drop (at + n + 1) piece in
    let q : at + suc n ≡ at + n + 1 = omega arith in
    let same : drop (suc n) (drop at piece) ≡ drop (at + n + 1) piece = rw (← q) (drop-drop (suc n) at piece) in
    let go = on (taken_into line held piece at) 0 piece (at + n + 1) pieces (rw room z) (omega arith) whole_none (omega (arith, rest, later)) in
    let first = lines_first (take held line) (drop at piece) (joined pieces) w (omega (arith, rest)) in
    turn_line turns line held piece at pieces h e ∙ rw (first, same, go, room)

rest_part : (turns : ℕ) → RestTaken turns → (line : List ℕ) (held : ℕ) (piece : List ℕ) (at : ℕ) (pieces : List (List ℕ)) → 0 < length line
    → held ≤ length line → Whole (take held line) → length (drop at piece) + (length (joined pieces) + length pieces) < suc turns
    → length piece ≤ at + line_length (drop at piece)
    → lines_taken (suc turns) line held piece at pieces ≡ map (take (length line)) (lines_of (take held line ++ (drop at piece ++ joined pieces)))
unfolding RestTaken joined
rest_part turns on line held piece at [] z h w k e =
    let rest = length-drop at piece in
    let both = whole_append (take held line) (drop at piece) w (no_feed (drop at piece) (omega (arith, rest))) in
    let whole : lines_of (take held line ++ drop at piece) ≡ last_line (take held line ++ drop at piece) = lines_alone (take held line ++ drop at piece) both in
    turn_end turns line held piece at e
    ∙ rw (held_all line held piece at h e, append-nil (drop at piece), whole) (last_cut (length line) (take held line ++ drop at piece) z)
rest_part turns on line held piece at (p ∷ ps) z h w k e =
    let rest = length-drop at piece in
    let n = held + length (added line held piece at) in
    let after = taken_into line held piece at in
    let room = length_into line held piece at in
    let both = whole_append (take held line) (drop at piece) w (no_feed (drop at piece) (omega (arith, rest))) in
    let there = held_all line held piece at h e in
    let held_whole : Whole (take n after) = rw there (whole_take (length line) (take held line ++ drop at piece) both) in
    let m = length-append p (joined ps) in
    let go = on after n p 0 ps (rw room z) (rw room (held_most line held piece at h)) held_whole (omega (arith, rest, m)) in
    turn_part turns line held piece at p ps e
    ∙ go
    ∙ rw (room, there) (lines_cut (length line) (take held line ++ drop at piece) (p ++ joined ps) z both)
    ∙ ap (λ (x : List ℕ). map (take (length line)) (lines_of x)) (append_assoc (take held line) (drop at piece) (p ++ joined ps))

rest_taken : (turns : ℕ) → RestTaken turns
unfolding RestTaken
rest_taken zero line held piece at pieces z h w k = absurd (omega arith)
rest_taken (suc turns) line held piece at pieces z h w k = by_end (ltb (at + line_length (drop at piece)) (length piece)) refl (rest_taken turns)
  where
    by_end : (b : Bool) → ltb (at + line_length (drop at piece)) (length piece) ≡ b → RestTaken turns
        → lines_taken (suc turns) line held piece at pieces ≡ map (take (length line)) (lines_of (take held line ++ (drop at piece ++ joined pieces)))
    by_end true e on = rest_line turns on line held piece at pieces z h w k (ltb-true _ _ e)
    by_end false e on = rest_part turns on line held piece at pieces z h w k (ltb-false _ _ e)

pub lines_taken_lem : LinesTaken
unfolding LinesTaken RestTaken
lines_taken_lem turns line pieces z k = rest_taken turns line 0 [] 0 pieces z (omega arith) whole_none (omega (arith, k))
