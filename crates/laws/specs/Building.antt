-- Demand 2, building: turns from a fresh state, one after the other, over a buffer that nobody touches between them. `Finished` are turns that
-- are all taken, up to the end; `FitTurn` is what the types of the parameters say; `gives` is what turns give together, as a record shows it;
-- `Keeps` are the rules of a record, and `record_bytes` its bytes. Rests on build and build_laws.
use Rattle.std.specs.Prelude.{ℕ, ◌<◌, ◌≤◌, ◌≡◌, List, leb, length, drop}
use Rattle.types.specs.Elements.{kind, narrowest}
use Rattle.facts.specs.declared.Facts.{Facts}
use Rattle.fixed.specs.declared.Site.{Site}
use Rattle.genotypes.specs.declared.Gt.{Gt}
use Rattle.record.specs.Reading.{reading, accepted_as}
use Rattle.shown.specs.Shown.{Kind, Shown}
use Rattle.contents.specs.Contents.{shown_of}
use Rattle.encode.specs.Encode.{type_for}
use Rattle.shown.specs.Values.{written_as}
use Rattle.build_laws.specs.Records.{All, Fit, Keeps}
use Rattle.shown.specs.Records.{record_bytes}
use Rattle.build_laws.specs.Runs.{Turn, turns_of, gives, FitTurn, Finished}
use Rattle.build_laws.specs.Builds.{wrote, ReadsBack, Tight, Builds}
use Rattle.build_laws.specs.Widths.{between, shown_again}

pub record Building : Type 0 where
  -- what was built reads back as given: the buffer is accepted under the same four numbers, with the length that the state says, and shows the
  -- values of the turns, field by field and element by element; the buffer's other bytes stay
  pub back : (f : Facts) (xs : List Turn) (buf : List ℕ) (b : Finished f xs buf) → All FitTurn xs → ReadsBack f xs b.out b.last.at
  pub rest : (f : Facts) (xs : List Turn) (buf : List ℕ) (b : Finished f xs buf) → All FitTurn xs → drop b.last.at b.out ≡ drop b.last.at buf
  -- a finished build wrote the bytes of what its turns give
  pub wrote_record : (f : Facts) (xs : List Turn) (buf : List ℕ) (b : Finished f xs buf) → All FitTurn xs
      → wrote b ≡ record_bytes f.people (gives xs)
  -- a build that fits is never refused, for room, order or anything
  pub fits : (f : Facts) (r : Shown) (buf : List ℕ) → Keeps f r → length (record_bytes f.people r) ≤ length buf
      → Builds f r buf (record_bytes f.people r)
  -- and no other is finished: its turns are those of what they give, in their order, which keeps the rules and has room
  pub ordered : (f : Facts) (xs : List Turn) (buf : List ℕ) → Finished f xs buf → xs ≡ turns_of (gives xs)
  pub keeps : (f : Facts) (xs : List Turn) (buf : List ℕ) → Finished f xs buf → All FitTurn xs → Keeps f (gives xs)
  pub room : (f : Facts) (xs : List Turn) (buf : List ℕ) → Finished f xs buf → All FitTurn xs
      → length (record_bytes f.people (gives xs)) ≤ length buf
  -- what a finished build wrote is tight, and so are the bytes of what keeps the rules; a tight record is accepted to its last byte, and built
  -- again from what reading shows of it, over any buffer with room, gives the same bytes
  pub tight : (f : Facts) (xs : List Turn) (buf : List ℕ) (b : Finished f xs buf) → All FitTurn xs → Tight f (wrote b)
  pub tight_keeps : (f : Facts) (r : Shown) → Keeps f r → Tight f (record_bytes f.people r)
  pub tight_accepted : (f : Facts) (s : List ℕ) (x : Tight f s) → ReadsBack f x.turns s (length s)
  pub tight_again : (f : Facts) (s buf : List ℕ) (t : Site) (g : Gt) → Tight f s → reading f s ≡ accepted_as t g → length s ≤ length buf
      → Builds f (shown_of t s) buf s
  -- which numbers take which type: −120 to 127 type 1, −32760 to 32767 at most type 2, all others type 3
  pub one : (x : ℕ) → leb (narrowest x) 1 ≡ between 120 127 x
  pub two : (x : ℕ) → leb (narrowest x) 2 ≡ between 32760 32767 x
  pub three : (x : ℕ) → (0 < narrowest x) × (narrowest x ≤ 3)
  -- an integer is read back as given at each width from its own up, and so is every element in the type that its value is written in
  pub integer : (t x : ℕ) (rest : List ℕ) → x < 4294967296 → type_for (kind 3 x) x ≤ t → t ≤ 3 → shown_again t x rest ≡ x
  pub element : (k : Kind) (xs rest : List ℕ) → Fit k xs → All (λ x. shown_again (written_as k xs) x rest ≡ x) xs
