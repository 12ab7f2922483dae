-- Building: what finished turns wrote reads back as given, a tight record builds again to the same bytes, and a build that fits is never
-- refused. Rests on proofs/ReadBack, Written, Ordered and Kept.
use mathlib.Core.Path.{◌≡◌, refl, ◌∙◌, sym, ap}
use mathlib.Core.List.{List, [], ◌++◌, append-nil}
use Prim.Native.Nat.{ℕ, ◌≤◌}
use native.Mathlib.Omega.{arith}
use lib.ListN.{length, take, drop}
use lib.Seq.{sets, take_at, drop_at}
use Rattle.stores.proofs.Inside.{sets_start}
use Rattle.facts.specs.declared.Facts.{Facts}
use Rattle.fixed.specs.declared.Site.{Site}
use Rattle.genotypes.specs.declared.Gt.{Gt}
use Rattle.record.specs.Reading.{reading, accepted_as}
use Rattle.shown.specs.Shown.{Shown}
use Rattle.build.specs.Turns.{fresh_state}
use Rattle.build.specs.declared.Builder.{Builder}
use Rattle.contents.specs.Contents.{shown_of}
use Rattle.build_laws.specs.Records.{All, Keeps}
use Rattle.shown.specs.Records.{record_bytes}
use Rattle.build_laws.specs.Runs.{Turn, Run, done, next, turns_of, gives, FitTurn, Finished}
use Rattle.build_laws.specs.Builds.{wrote, ReadsBack, Tight, Builds}
use Rattle.build_laws.proofs.ReadBack.{reads}
use Rattle.build_laws.proofs.Written.{run_turns}
use Rattle.build_laws.proofs.Ordered.{turns_ordered}
use Rattle.build_laws.proofs.Kept.{turns_keep, turns_room, turns_fit}
use Rattle.record.proofs.Accepted.{same_reading}

-- turns lead to one state and one buffer only
run_same : {f : Facts} {st last last' : Builder} {buf out out' : List ℕ} {xs : List Turn} → Run f st buf xs last out → Run f st buf xs last' out'
    → (last ≡ last') × (out ≡ out')
run_same done done = (refl, refl)
run_same (next h run) (next k on) = run_same run on

-- the bytes of a record at the front of a buffer, and the state after them
record Wrote (f : Facts) (r : Shown) (buf : List ℕ) (last : Builder) (out : List ℕ) : Type 0 where
  at : last.at ≡ length (record_bytes f.people r)
  bytes : out ≡ record_bytes f.people r ++ drop (length (record_bytes f.people r)) buf

run_wrote : (f : Facts) (r : Shown) (buf : List ℕ) (xs : List Turn) (last : Builder) (out : List ℕ) → Keeps f r
    → length (record_bytes f.people r) ≤ length buf → xs ≡ turns_of r → Run f fresh_state buf xs last out → Wrote f r buf last out
run_wrote f r buf xs last out k room e run =
    let w = run_turns f r buf k room in
    let same = run_same (rw e at run) w.run in
    record { at = ap (λ (st : Builder). st.at) same.0 ∙ w.length; bytes = same.1 ∙ sets_start buf (record_bytes f.people r) room }

finished_wrote : (f : Facts) (xs : List Turn) (buf : List ℕ) (b : Finished f xs buf) → All FitTurn xs → Wrote f (gives xs) buf b.last b.out
finished_wrote f xs buf b fit =
    run_wrote f (gives xs) buf xs b.last b.out (turns_keep f xs buf b fit) (turns_room f xs buf b fit) (turns_ordered f xs buf b) b.run

take_wrote : (f : Facts) (r : Shown) (buf : List ℕ) (last : Builder) (out : List ℕ) → Wrote f r buf last out
    → take last.at out ≡ record_bytes f.people r
take_wrote f r buf last out w = rw w.bytes (take_at (record_bytes f.people r) _ last.at (sym w.at))

-- the bytes that a finished build wrote are those of what its turns give; the others stay
pub wrote_record : (f : Facts) (xs : List Turn) (buf : List ℕ) (b : Finished f xs buf) → All FitTurn xs → wrote b ≡ record_bytes f.people (gives xs)
wrote_record f xs buf b fit = take_wrote f (gives xs) buf b.last b.out (finished_wrote f xs buf b fit)

pub drop_wrote : (f : Facts) (xs : List Turn) (buf : List ℕ) (b : Finished f xs buf) → All FitTurn xs
    → drop b.last.at b.out ≡ drop b.last.at buf
drop_wrote f xs buf b fit =
    let w = finished_wrote f xs buf b fit in
    let s = record_bytes f.people (gives xs) in
    let e = drop_at s (drop (length s) buf) (length s) refl in
    ap (λ n. drop n b.out) w.at ∙ ap (drop (length s)) w.bytes ∙ e ∙ ap (λ n. drop n buf) (sym w.at)

-- what was built reads back as given
read_wrote : (f : Facts) (xs : List Turn) (buf : List ℕ) (last : Builder) (out : List ℕ) → Keeps f (gives xs) → Wrote f (gives xs) buf last out
    → ReadsBack f xs out last.at
read_wrote f xs buf last out k w =
    let x = reads f (gives xs) (drop (length (record_bytes f.people (gives xs))) buf) k in
    record {
      site = x.site;
      gt = x.gt;
      read = rw w.bytes x.read;
      whole = x.whole ∙ sym w.at;
      people = x.people;
      shows = rw w.bytes x.shows;
    }

pub finished_reads : (f : Facts) (xs : List Turn) (buf : List ℕ) (b : Finished f xs buf) → All FitTurn xs → ReadsBack f xs b.out b.last.at
finished_reads f xs buf b fit = read_wrote f xs buf b.last b.out (turns_keep f xs buf b fit) (finished_wrote f xs buf b fit)

-- a build that fits is never refused
pub keeps_builds : (f : Facts) (r : Shown) (buf : List ℕ) → Keeps f r → length (record_bytes f.people r) ≤ length buf
    → Builds f r buf (record_bytes f.people r)
keeps_builds f r buf k room =
    let w = run_turns f r buf k room in
    record {
      finished = record { last = w.last; out = sets buf 0 (record_bytes f.people r); run = w.run; ended = w.ended };
      same = take_wrote f r buf w.last _ (record { at = w.length; bytes = sets_start buf (record_bytes f.people r) room });
    }

-- a tight record is accepted, whole, and builds again to the same bytes from what reading shows of it
pub tight_record : (f : Facts) (s : List ℕ) (x : Tight f s) → s ≡ record_bytes f.people (gives x.turns)
tight_record f s x = x.bytes ∙ wrote_record f x.turns x.buf x.finished x.fit

pub tight_reads : (f : Facts) (s : List ℕ) (x : Tight f s) → ReadsBack f x.turns s (length s)
tight_reads f s x =
    let k = turns_keep f x.turns x.buf x.finished x.fit in
    let r = reads f (gives x.turns) [] k in
    let e : record_bytes f.people (gives x.turns) ++ [] ≡ s = append-nil _ ∙ sym (tight_record f s x) in
    record {
      site = r.site;
      gt = r.gt;
      read = rw e at r.read;
      whole = r.whole ∙ ap length (sym (tight_record f s x));
      people = r.people;
      shows = rw e at r.shows;
    }

pub tight_again : (f : Facts) (s buf : List ℕ) (t : Site) (g : Gt) → Tight f s → reading f s ≡ accepted_as t g → length s ≤ length buf
    → Builds f (shown_of t s) buf s
tight_again f s buf t g x h room =
    let k = turns_keep f x.turns x.buf x.finished x.fit in
    let r = tight_reads f s x in
    let a = sym h ∙ r.read in
    let e = (same_reading a).0 in
    let shows : shown_of t s ≡ gives x.turns = ap (λ (u : Site). shown_of u s) e ∙ r.shows in
    again (gives x.turns) (shown_of t s) shows k (tight_record f s x)
  where
    again : (r r' : Shown) → r' ≡ r → Keeps f r → s ≡ record_bytes f.people r → Builds f r' buf s
    again r r' e k b = rw (e, b) (keeps_builds f r buf k (rw b at room))

-- what a finished build wrote is tight
pub wrote_tight : (f : Facts) (xs : List Turn) (buf : List ℕ) (b : Finished f xs buf) → All FitTurn xs → Tight f (wrote b)
wrote_tight f xs buf b fit = record { turns = xs; buf = buf; finished = b; fit = fit; bytes = refl }

-- and so are the bytes of any record that keeps the rules
pub keeps_tight : (f : Facts) (r : Shown) → Keeps f r → Tight f (record_bytes f.people r)
keeps_tight f r k =
    let s = record_bytes f.people r in
    let b = keeps_builds f r s k (omega arith) in
    record { turns = turns_of r; buf = s; finished = b.finished; fit = turns_fit f r k; bytes = sym b.same }
