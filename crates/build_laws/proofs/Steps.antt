-- One turn of a run: the number of what is wrong with it, and the state and the buffer after it where that is 0. Rests on specs/Runs.
use Rattle.build.specs.Answers.{Taken}
use mathlib.Core.Path.{◌≡◌, refl, ◌∙◌, ap}
use mathlib.Core.List.{List, [], ◌∷◌}
use mathlib.Core.Bool.{Bool, true, false}
use Prim.Native.Nat.{ℕ, ◌+◌}
use native.Mathlib.Omega.{arith}
use lib.Dec.{eqb}
use lib.ListN.{length}
use lib.Seq.{sets}
use borrow.Author.Tests.{eqb-true}
use Rattle.words.specs.Pick.{pick}
use Rattle.facts.specs.declared.Facts.{Facts}
use Rattle.shown.specs.Shown.{integers}
use Rattle.build_append.specs.Append.{first_of, room_number, written_to}
use Rattle.build.specs.Order.{turned, appended, afterwards}
use Rattle.shown.specs.Values.{given_bytes}
use Rattle.shown.specs.Front.{front_bytes}
use Rattle.build.specs.Turns.{in_site, in_genotypes, begin_number, begun_state, begun, after_begin, id_number, id_given, after_id, allele_rules, allele_given, after_allele, filter_rules, filter_given, after_filter, info_rules, info_given, after_info, format_rules, format_given, after_format, end_number, ended_state, filled_in, built, after_end}
use Rattle.build.specs.declared.Stage.TheVariants.{Named, Alleles, Filtered, Infos}
use Rattle.build.specs.declared.Builder.{Builder}
use Rattle.build.specs.declared.Turned.{Turned}
use Rattle.shown.specs.Records.{text_bytes, info_bytes, format_bytes}
use Rattle.build_laws.specs.Runs.{Turn, begin, id, allele, filter, info, format, end, answers, writes, Run, done, next}

-- the number of a turn
abbrev pub turn_number : Facts → Builder → ℕ → Turn → ℕ
turn_number f st room (begin c p r q) = begin_number st.stage room f c p r q
turn_number f st room (id xs) = first_of (id_number st xs) (room_number st.at (length (text_bytes xs)) room)
turn_number f st room (allele xs) = first_of (allele_rules st xs) (room_number st.at (length (text_bytes xs)) room)
turn_number f st room (filter xs) = first_of (filter_rules st xs) (room_number st.at (length (given_bytes integers (length xs) xs)) room)
turn_number f st room (info p) =
    first_of (info_rules st p.key p.value.kind p.value.elements) (room_number st.at (length (info_bytes p)) room)
turn_number f st room (format x) =
    first_of (format_rules st x.key x.value.kind x.len x.value.elements) (room_number st.at (length (format_bytes x)) room)
turn_number f st room end = end_number st.stage room

-- the state and the buffer after a turn that is taken
abbrev pub turn_state : Facts → Builder → Turn → Builder
turn_state f st (begin c p r q) = begun_state f
turn_state f st (id xs) = in_site st Named st.alleles st.infos (length (text_bytes xs))
turn_state f st (allele xs) = in_site st Alleles (st.alleles + 1) st.infos (length (text_bytes xs))
turn_state f st (filter xs) = in_site st Filtered st.alleles st.infos (length (given_bytes integers (length xs) xs))
turn_state f st (info p) = in_site st Infos st.alleles (st.infos + 1) (length (info_bytes p))
turn_state f st (format x) = in_genotypes st x.key (length (format_bytes x))
turn_state f st end = ended_state st

abbrev pub turn_buffer : Builder → List ℕ → Turn → List ℕ
turn_buffer st buf (begin c p r q) = sets buf 0 (front_bytes c p r q)
turn_buffer st buf (id xs) = sets buf st.at (text_bytes xs)
turn_buffer st buf (allele xs) = sets buf st.at (text_bytes xs)
turn_buffer st buf (filter xs) = sets buf st.at (given_bytes integers (length xs) xs)
turn_buffer st buf (info p) = sets buf st.at (info_bytes p)
turn_buffer st buf (format x) = sets buf st.at (format_bytes x)
turn_buffer st buf end = filled_in st buf

answers_turned : (f : Facts) (st : Builder) (room : ℕ) (x : Turn) → answers f st room x ≡ turned st (turn_number f st room x) (turn_state f st x)
unfolding begun id_given allele_given filter_given info_given format_given built appended
answers_turned f st room (begin c p r q) = refl
answers_turned f st room (id xs) = refl
answers_turned f st room (allele xs) = refl
answers_turned f st room (filter xs) = refl
answers_turned f st room (info p) = refl
answers_turned f st room (format x) = refl
answers_turned f st room end = refl

writes_turn : (f : Facts) (st : Builder) (buf : List ℕ) (x : Turn)
    → writes f st buf x ≡ pick (eqb (turn_number f st (length buf) x) 0) (turn_buffer st buf x) buf
unfolding after_begin after_id after_allele after_filter after_info after_format after_end afterwards written_to
writes_turn f st buf (begin c p r q) = refl
writes_turn f st buf (id xs) = refl
writes_turn f st buf (allele xs) = refl
writes_turn f st buf (filter xs) = refl
writes_turn f st buf (info p) = refl
writes_turn f st buf (format x) = refl
writes_turn f st buf end = refl

-- a turn is taken where its number is 0
turned_taken : (st then : Builder) (n : ℕ) → (turned st n then).answer ≡ Taken → n ≡ 0
unfolding turned
turned_taken st then n h = by-test (eqb n 0) refl
  where
    by-test : (b : Bool) → eqb n 0 ≡ b → n ≡ 0
    by-test true e = eqb-true n 0 e
    by-test false e = let k = rw e at h in let z : ◌≡◌ {A = ℕ} 0 1 = cc in absurd (omega arith)

turned_zero : (st then : Builder) (n : ℕ) → n ≡ 0 → turned st n then ≡ record { state = then; answer = Taken }
unfolding turned
turned_zero st then n h = rw h

answers_zero : (f : Facts) (st : Builder) (room : ℕ) (x : Turn) → turn_number f st room x ≡ 0
    → answers f st room x ≡ record { state = turn_state f st x; answer = Taken }
answers_zero f st room x h = answers_turned f st room x ∙ turned_zero st (turn_state f st x) (turn_number f st room x) h

writes_zero : (f : Facts) (st : Builder) (buf : List ℕ) (x : Turn) → turn_number f st (length buf) x ≡ 0 → writes f st buf x ≡ turn_buffer st buf x
writes_zero f st buf x h = writes_turn f st buf x ∙ rw h

-- a run is empty, or begins with a turn whose number is 0
pub run_none : {f : Facts} {st last : Builder} {buf out : List ℕ} → Run f st buf [] last out → (last ≡ st) × (out ≡ buf)
run_none done = (refl, refl)

pub run_first : {f : Facts} {st last : Builder} {buf out : List ℕ} {x : Turn} {xs : List Turn} → Run f st buf (x ∷ xs) last out
    → (turn_number f st (length buf) x ≡ 0) × Run f (turn_state f st x) (turn_buffer st buf x) xs last out
run_first {f} {st} {last} {buf} {out} {x} {xs} (next h run) =
    let k = rw (answers_turned f st (length buf) x) at h in
    let z = turned_taken st (turn_state f st x) (turn_number f st (length buf) x) k in
    (z, rw (answers_zero f st (length buf) x z, writes_zero f st buf x z) at run)

pub run_next : {f : Facts} {st last : Builder} {buf out : List ℕ} {x : Turn} {xs : List Turn} → turn_number f st (length buf) x ≡ 0
    → Run f (turn_state f st x) (turn_buffer st buf x) xs last out → Run f st buf (x ∷ xs) last out
run_next {f} {st} {last} {buf} {out} {x} {xs} z run =
    let taken = ap (λ (r : Turned). r.answer) (answers_zero f st (length buf) x z) in
    let rest : Run f (answers f st (length buf) x).state (writes f st buf x) xs last out =
    rw (answers_zero f st (length buf) x z, writes_zero f st buf x z) run in
    next taken rest
