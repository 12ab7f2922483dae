-- What is still to be written, through a run: as a line is answered, as a piece ends, as the next one is read, and at the input's end.
-- Rests on specs/Engine and on proofs/Lines.
use Rattle.std.proofs.Common.{◌≡◌, refl, sym, ap, ◌∙◌, ℕ, ◌+◌, ◌<◌, ◌≤◌, Bool, true, false, List, [], ◌∷◌, ◌++◌, map, append-nil, append_assoc, length, take, drop, None, Some, IfSome, inl, inr, ◌⊎◌, arith}
use Rattle.std.proofs.KnownBytes.{Appends-nil, Appends-trans, Appends-kept}
use Rattle.std.specs.Io.KnownBytes.{Keeps, Appends, Consumes, IsAtEnd}
use Rattle.std.specs.declared.option.Option.{Option}
use lib.Seq.{sets-eq, take_at, length-take-le}
use lib.ListN.{length-append}
use Rattle.lines.specs.Lines.{lines_of, taken, taken_into}
use Rattle.lines.specs.declared.Taken.TheVariants.{Line, Part}
use Rattle.lines.proofs.Pieces.{Whole, lines_fed, length_into}
use Rattle.pump.specs.Pump.{PieceTaken, RoomMade, RoomWritten, WaitingWritten}
use Rattle.pump.specs.declared.Piece.TheVariants.{Bytes, End}
use Rattle.runs.specs.Runs.{Put, Stepped, Finished, Ended, said_of, Ran}
use Rattle.runs.specs.Engine.{left, left_in, Answered, Moved, Gone}
use Rattle.runs.specs.declared.Kept.{Kept}
use Rattle.runs.proofs.Lines.{next_line, piece_held}

Says : Type 0
Says = List (List ℕ) → List ℕ

-- what waits once a text is put
put_take : (out new text : List ℕ) (w n : ℕ) → Put out new w text n → take n new ≡ take w out ++ text
put_take out new text w n p =
    let k = length-take-le w out (omega (arith, p.0)) in
    let whole : length (take w out ++ text) ≡ n = rw (length-append, k) (sym p.1) in
    rw (p.2, sets-eq text out w p.0) (take_at (take w out ++ text) (drop (w + length text) out) n whole)

kept_appends : (a b : Option (List ℕ)) → Keeps a b → Appends a b []
kept_appends a b k = Appends-kept a a b [] (Appends-nil a) k

-- a line answered, and room made for the next answer
pub answered : (before after : List (List ℕ) → List ℕ) (line out new : List ℕ) (w n : ℕ) (r : Option ℕ) (b : Bool) (c d : Option (List ℕ))
    → Stepped before after line out new w (Some n) → RoomMade b n r → RoomWritten b c d new n r
    → IfSome r (λ k. Answered before after line (take w out) (take k new) c d)
answered before after line out new w n None b c d s m r = tt
answered before after line out new w n (Some k) true c d s m r =
    let t = put_take out new s.0 w n s.1 in
    ([], kept_appends c d r, λ ls. rw (m, t, s.2 ls) (sym (append_assoc (take w out) s.0 (after ls))))
answered before after line out new w n (Some k) false c d s m r =
    let t = put_take out new s.0 w n s.1 in
    (take n new, r, λ ls. rw (m, t, s.2 ls) (sym (append_assoc (take w out) s.0 (after ls))))

-- the end answered, and all written that waits
pub finished_written : (says : List (List ℕ) → List ℕ) (out new : List ℕ) (w n : ℕ) (c d : Option (List ℕ)) → Finished says out new w (Some n)
    → WaitingWritten c d new n true → Appends c d (take w out ++ says [])
finished_written says out new w n c d p r = rw (put_take out new (says []) w n p) at r

pub moved_on : (f g h : List ℕ → List ℕ) (a b c : Option (List ℕ)) → Moved f g a b → Moved g h b c → Moved f h a c
moved_on f g h a b c m n =
    (m.0 ++ n.0, Appends-trans a b c m.0 n.0 m.1 n.1, λ more. m.2 more ∙ ap (λ x. m.0 ++ x) (n.2 more) ∙ sym (append_assoc m.0 n.0 (h more)))

-- a line taken and answered
pub line_moved : (before after : List (List ℕ) → List ℕ) (line out new : List ℕ) (held w k : ℕ) (piece : List ℕ) (at len next : ℕ) (c d : Option (List ℕ))
    → held ≤ length line → Whole (take held line) → taken line held piece at ≡ Line len next
    → Answered before after (take len (taken_into line held piece at)) (take w out) (take k new) c d
    → Moved (left_in before line out held w piece at) (left_in after (taken_into line held piece at) new 0 k piece next) c d
line_moved before after line out new held w k piece at len next c d h wh t a = (
  a.0,
  a.1,
  λ more.
      let e = (next_line line held piece at len next more h wh t).0 in
      rw (length_into line held piece at, e) (a.2 (map (take (length line)) (lines_of (drop next piece ++ more)))),
)

-- a piece that ends before its line does
pub piece_moved : (says : List (List ℕ) → List ℕ) (line out : List ℕ) (held w : ℕ) (piece : List ℕ) (at n : ℕ) (c : Option (List ℕ))
    → 0 < length line → held ≤ length line → Whole (take held line) → taken line held piece at ≡ Part n
    → Moved (left_in says line out held w piece at) (left says (taken_into line held piece at) out (record { held = n; waiting = w })) c c
piece_moved says line out held w piece at n c z h wh t = (
  [],
  Appends-nil c,
  λ more.
      let e = (piece_held line held piece at n more z h wh t).0 in
      rw (length_into line held piece at) (ap (λ x. take w out ++ says x) e),
)

-- before the first piece
pub gone_none : (says : List (List ℕ) → List ℕ) (line out : List ℕ) (r c : Option (List ℕ))
    → Gone (said_of says (length line)) (left says line out (record { held = 0; waiting = 0 })) r r c c
gone_none says line out None c = ([], Appends-nil c, tt)
gone_none says line out (Some xs) c = ([], Appends-nil c, refl)

-- a line that is held at the input's end is the same with the feed that it gets
left_fed : (says : List (List ℕ) → List ℕ) (line out piece : List ℕ) (k : Kept) (n : ℕ) (ys zs : List ℕ) → k.held ≤ length line → Whole (take k.held line)
    → PieceTaken (Some ys) (Some zs) k.held piece (Bytes n) → left says line out k ys ≡ left says line out k (take n piece ++ zs)
left_fed says line out piece k n ys zs h w taken = by-read taken.1
  where
    by-read : Consumes (Some ys) (Some zs) (take n piece) ⊎ (IsAtEnd (Some ys) × Keeps (Some ys) (Some zs) × (0 < k.held) × (take n piece ≡ 10 ∷ []))
        → left says line out k ys ≡ left says line out k (take n piece ++ zs)
    by-read (inl t) = ap (left says line out k) t
    by-read (inr t) =
        let fed = lines_fed (take k.held line) (rw (length-take-le k.held line h) t.2) w in
        rw (t.3, t.1, t.0, append-nil (take k.held line), fed)

-- a piece read and gone through
pub gone_piece : (f g : List ℕ → List ℕ) (says : List (List ℕ) → List ℕ) (line out piece : List ℕ) (k : Kept) (n : ℕ) (r q s c d e : Option (List ℕ))
    → k.held ≤ length line → Whole (take k.held line) → Gone f (left says line out k) r q c d → PieceTaken q s k.held piece (Bytes n)
    → Moved (λ more. left says line out k (take n piece ++ more)) g d e → Gone f g r s c e
gone_piece f g says line out piece k n None q s c d e h w gone taken m = (gone.0 ++ m.0, Appends-trans c d e gone.0 m.0 gone.1 m.1, tt)
gone_piece f g says line out piece k n (Some xs) None s c d e h w gone taken m = absurd gone.2
gone_piece f g says line out piece k n (Some xs) (Some ys) None c d e h w gone taken m =
    let z : ⊥ = elim taken.1 as (λ _. ⊥) [ inl t ↦ t | inr t ↦ t.1 ] in
    absurd z
gone_piece f g says line out piece k n (Some xs) (Some ys) (Some zs) c d e h w gone taken m = (
  gone.0 ++ m.0,
  Appends-trans c d e gone.0 m.0 gone.1 m.1,
  gone.2 ∙ ap (λ (x : List ℕ). gone.0 ++ x) (left_fed says line out piece k n ys zs h w taken ∙ m.2 zs) ∙ sym (append_assoc gone.0 m.0 (g zs)),
)

-- the input's end, answered and written
pub ran_end : (f : List ℕ → List ℕ) (says : List (List ℕ) → List ℕ) (line out piece : List ℕ) (k : Kept) (b : Bool) (r q s c d e : Option (List ℕ))
    → 0 < length piece → Gone f (left says line out k) r q c d → PieceTaken q s k.held piece End
    → (b ≡ true → Appends d e (take k.waiting out ++ says [])) → Ran f r c e b
unfolding lines_of
ran_end f says line out piece k false r q s c d e z gone taken a = tt
ran_end f says line out piece k true None q s c d e z gone taken a = tt
ran_end f says line out piece k true (Some xs) None s c d e z gone taken a = absurd gone.2
ran_end f says line out piece k true (Some xs) (Some ys) s c d e z gone taken a =
    let t = taken.1 z in
    let last : left says line out k ys ≡ take k.waiting out ++ says [] = rw (t.0, t.1) in
    rw (gone.2, last) (Appends-trans c d e gone.0 (take k.waiting out ++ says []) gone.1 (a refl))

-- the program's end, answered and written
pub ran_ended : (f : List ℕ → List ℕ) (says : List (List ℕ) → List ℕ) (line out : List ℕ) (k : Kept) (b : Bool) (r q c d e : Option (List ℕ))
    → Gone f (left says line out k) r q c d → Ended says true → (b ≡ true → Appends d e (take k.waiting out ++ says [])) → Ran f r c e b
ran_ended f says line out k false r q c d e gone ended a = tt
ran_ended f says line out k true None q c d e gone ended a = tt
ran_ended f says line out k true (Some xs) None c d e gone ended a = absurd gone.2
ran_ended f says line out k true (Some xs) (Some ys) c d e gone ended a =
    let last : left says line out k ys ≡ take k.waiting out ++ says [] = ap (λ (x : List ℕ). take k.waiting out ++ x) (ended _ ∙ sym (ended [])) in
    rw (gone.2, last) (Appends-trans c d e gone.0 (take k.waiting out ++ says []) gone.1 (a refl))

-- the same of what is written, where it has another name
pub ran_as : (f h : List ℕ → List ℕ) (b : Bool) (r c d : Option (List ℕ)) → ((xs : List ℕ) → f xs ≡ h xs) → Ran f r c d b → Ran h r c d b
ran_as f h false r c d e ran = tt
ran_as f h true None c d e ran = tt
ran_as f h true (Some xs) c d e ran = rw (e xs) at ran
