-- A build on its way: the state that stands for the bytes written so far, which the buffer begins with; and a turn from there, taken where it
-- keeps its rules and has room. Rests on proofs/Steps.
use mathlib.Core.Path.{◌≡◌, refl, sym}
use mathlib.Core.List.{List, [], ◌∷◌, ◌++◌}
use mathlib.Core.Bool.{Bool, true, false}
use Prim.Native.Nat.{ℕ, zero, suc, ◌+◌, ◌*◌, ◌<◌, ◌≤◌}
use native.Mathlib.Omega.{arith}
use native.Mathlib.Nat.{zero-add}
use lib.Dec.{ltb, leb, eqb}
use lib.ListN.{length, take, replicate, length-append}
use lib.Seq.{sets, length-sets, take_at}
use borrow.Author.Tests.{ltb-true, lt-ltb, le-ltb, leb-true, le-leb, eqb-true, eqb-false, eq-eqb, ne_eqb}
use Rattle.words.specs.Lists.{among}
use Rattle.words.specs.Pick.{pick}
use Rattle.words.proofs.Stores.{sets_append}
use Rattle.stores.proofs.Inside.{sets_start}
use Rattle.fixed.specs.Layout.{most_bytes}
use Rattle.facts.specs.declared.Facts.{Facts}
use Rattle.shown.specs.Shown.{integers, text, Pair, Field, is_integers}
use Rattle.build_given.specs.Given.{filters_number}
use Rattle.build_append.specs.Append.{first_of, room_number}
use Rattle.build_rules.specs.Rules.{count_number, format_key, format_order, format_shape, gt_number, list_number, ordered, people_number, repeat_number, wrong_allele, wrong_filter, wrong_id, wrong_info}
use Rattle.build_rules.specs.Values.{any, given_number}
use Rattle.build.specs.Order.{rank, order}
use Rattle.shown.specs.Values.{given_bytes}
use Rattle.build.specs.Turns.{in_site, in_genotypes, id_number, allele_rules, filter_rules, info_key, info_rules, format_count, format_rules}
use Rattle.build.specs.declared.Stage.{Stage}
use Rattle.build.specs.declared.Stage.TheVariants.{Named, Alleles, Filtered, Infos, Formats}
use Rattle.build.specs.declared.Builder.{Builder}
use Rattle.build_append.proofs.Numbers.{first_zero, room_zero}
use Rattle.build_laws.specs.Records.{Fit, KeepsAllele, KeepsInfo, KeepsField}
use Rattle.shown.specs.Records.{text_bytes, info_bytes, format_bytes}
use Rattle.build_laws.specs.Runs.{Turn, id, allele, filter, info, format, FitTurn, Run}
use Rattle.build_laws.proofs.Steps.{turn_number, turn_state, turn_buffer, run_first, run_next}

-- the state after so many bytes, and runs from there
abbrev pub stands : Facts → Stage → ℕ → List ℕ → ℕ → ℕ → List ℕ → Builder
stands f stage border whole alleles infos keys =
    record {
      facts = f;
      at = length whole;
      border = border;
      alleles = alleles;
      infos = infos;
      formats = length keys;
      stage = stage;
      keys = sets (replicate 256 0) 0 keys;
    }

pub record RunFrom (f : Facts) (start : List ℕ) (stage : Stage) (border : ℕ) (whole : List ℕ) (alleles infos : ℕ) (keys : List ℕ)
    (xs : List Turn) (last : Builder) (out : List ℕ) : Type 0 where
  pub run : Run f (stands f stage border whole alleles infos keys) (sets start 0 whole) xs last out

-- bytes that are not over the most, and have room
abbrev pub Fits : List ℕ → List ℕ → Type 0
Fits start whole = (length whole ≤ most_bytes) × (length whole ≤ length start)

pub fits_front : (start whole bs : List ℕ) → Fits start (whole ++ bs) → Fits start whole
fits_front start whole bs h =
    let e = length-append whole bs in
    let a = h.0 in
    let b = h.1 in
    (omega arith, omega arith)

-- numbers that are 0
pub first_right : (a b : ℕ) → a ≡ 0 → b ≡ 0 → first_of a b ≡ 0
unfolding first_of
first_right a b p q = rw (p, q)

pub order_zero : (low high : ℕ) (s : Stage) → order low high s ≡ 0 → (low ≤ rank s) × (rank s ≤ high)
unfolding ordered
order_zero low high s h = by_tests (leb low (rank s)) (leb (rank s) high) refl refl h
  where
    by_tests : (a b : Bool) → leb low (rank s) ≡ a → leb (rank s) high ≡ b → ◌≡◌ {A = ℕ} (pick a (pick b 0 12) 12) 0 → (low ≤ rank s) × (rank s ≤ high)
    by_tests true true p q k = (leb-true low (rank s) p, leb-true (rank s) high q)
    by_tests true false p q k = absurd (omega arith)
    by_tests false b p q k = absurd (omega arith)

pub order_right : (low high : ℕ) (s : Stage) → (low ≤ rank s) × (rank s ≤ high) → order low high s ≡ 0
unfolding ordered
order_right low high s h = rw (le-leb low (rank s) h.0, le-leb (rank s) high h.1)

count_zero : (n most : ℕ) → count_number n most ≡ 0 → n < most
unfolding count_number
count_zero n most h = by-test (ltb n most) refl h
  where
    by-test : (b : Bool) → ltb n most ≡ b → ◌≡◌ {A = ℕ} (pick b 0 5) 0 → n < most
    by-test true e k = ltb-true n most e
    by-test false e k = absurd (omega arith)

count_right : (n most : ℕ) → n < most → count_number n most ≡ 0
unfolding count_number
count_right n most h = rw (lt-ltb n most h)

room_fits : (start whole bs : List ℕ) → room_number (length whole) (length bs) (length start) ≡ 0 → Fits start (whole ++ bs)
room_fits start whole bs h = rw (length-append whole bs) (room_zero (length whole) (length bs) (length start) h)

room_right : (start whole bs : List ℕ) → Fits start (whole ++ bs) → room_number (length whole) (length bs) (length start) ≡ 0
unfolding room_number
room_right start whole bs h =
    let e = rw (length-append whole bs) at h in
    rw (le-ltb most_bytes (length whole + length bs) e.0, le-ltb (length start) (length whole + length bs) e.1)

flag_zero : (b : Bool) (n : ℕ) → pick b (1 + n) 0 ≡ 0 → b ≡ false
flag_zero true n h = absurd (omega arith)
flag_zero false n h = refl

-- the bytes of a turn behind those before it
buffer_on : (start whole bs : List ℕ) → sets (sets start 0 whole) (length whole) bs ≡ sets start 0 (whole ++ bs)
buffer_on start whole bs = let e = sym (sets_append whole bs start 0) in rw (zero-add (length whole)) at e

state_site : (f : Facts) (s t : Stage) (border : ℕ) (whole bs : List ℕ) (a i b j : ℕ) (keys : List ℕ)
    → in_site (stands f s border whole a i keys) t b j (length bs) ≡ stands f t (length (whole ++ bs)) (whole ++ bs) b j keys
state_site f s t border whole bs a i b j keys = rw (length-append whole bs)

state_field : (f : Facts) (s : Stage) (border : ℕ) (whole bs : List ℕ) (a i : ℕ) (keys : List ℕ) (key : ℕ)
    → in_genotypes (stands f s border whole a i keys) key (length bs) ≡ stands f Formats border (whole ++ bs) a i (keys ++ (key ∷ []))
state_field f s border whole bs a i keys key =
    let e : sets (replicate {A = ℕ} 256 0) 0 (keys ++ (key ∷ [])) ≡ sets (sets (replicate {A = ℕ} 256 0) 0 keys) (length keys) (key ∷ []) =
    sym (buffer_on (replicate {A = ℕ} 256 0) keys (key ∷ [])) in
    rw (length-append whole bs, length-append keys (key ∷ []), e)

earlier_keys : (keys : List ℕ) → length keys ≤ 256 → take (length keys) (sets (replicate {A = ℕ} 256 0) 0 keys) ≡ keys
earlier_keys keys h = rw (sets_start (replicate {A = ℕ} 256 0) keys h) (take_at keys _ (length keys) refl)

-- a turn whose bytes stand behind those before it, after which the state stands again
record Appends (f : Facts) (st : Builder) (start whole : List ℕ) (x : Turn) (then : Builder) (bs : List ℕ) : Type 0 where
  state : turn_state f st x ≡ then
  buffer : turn_buffer st (sets start 0 whole) x ≡ sets (sets start 0 whole) (length whole) bs

append_run : {f : Facts} {st then last : Builder} {start whole bs out : List ℕ} {x : Turn} {rest : List Turn} → Appends f st start whole x then bs
    → turn_number f st (length start) x ≡ 0 → Run f then (sets start 0 (whole ++ bs)) rest last out → Run f st (sets start 0 whole) (x ∷ rest) last out
append_run {f} {st} {then} {last} {start} {whole} {bs} {out} {x} {rest} e z run =
    let n : turn_number f st (length (sets start 0 whole)) x ≡ 0 = rw (length-sets start 0 whole) z in
    let on : Run f (turn_state f st x) (turn_buffer st (sets start 0 whole) x) rest last out =
    rw (e.state, e.buffer, buffer_on start whole bs) run in
    run_next n on

append_back : {f : Facts} {st then last : Builder} {start whole bs out : List ℕ} {x : Turn} {rest : List Turn} → Appends f st start whole x then bs
    → Run f st (sets start 0 whole) (x ∷ rest) last out → (turn_number f st (length start) x ≡ 0) × Run f then (sets start 0 (whole ++ bs)) rest last out
append_back {f} {st} {then} {last} {start} {whole} {bs} {out} {x} {rest} e run =
    let on = run_first run in
    (rw (length-sets start 0 whole) at on.0, rw (e.state, e.buffer, buffer_on start whole bs) at on.1)

-- ID
id_appends : (f : Facts) (start : List ℕ) (s : Stage) (border : ℕ) (whole : List ℕ) (a i : ℕ) (keys xs : List ℕ)
    → Appends f (stands f s border whole a i keys) start whole (id xs)
    (stands f Named (length (whole ++ text_bytes xs)) (whole ++ text_bytes xs) a i keys) (text_bytes xs)
id_appends f start s border whole a i keys xs =
    record { state = state_site f s Named border whole (text_bytes xs) a i a i keys; buffer = refl }

pub id_run : {f : Facts} {start : List ℕ} {s : Stage} {border : ℕ} {whole : List ℕ} {a i : ℕ} {keys xs : List ℕ}
    {rest : List Turn} {last : Builder} {out : List ℕ}
    → (1 ≤ rank s) × (rank s ≤ 1) → given_number any text (length xs) xs ≡ 0 → Fits start (whole ++ text_bytes xs)
    → RunFrom f start Named (length (whole ++ text_bytes xs)) (whole ++ text_bytes xs) a i keys rest last out
    → RunFrom f start s border whole a i keys (id xs ∷ rest) last out
unfolding id_number wrong_id
id_run {f} {start} {s} {border} {whole} {a} {i} {keys} {xs} o h r run =
    record {
      run = append_run (id_appends f start s border whole a i keys xs)
          (first_right _ _ (first_right _ _ (order_right 1 1 s o) h) (room_right start whole (text_bytes xs) r)) run.run;
    }

pub id_back : {f : Facts} {start : List ℕ} {s : Stage} {border : ℕ} {whole : List ℕ} {a i : ℕ} {keys xs : List ℕ}
    {rest : List Turn} {last : Builder} {out : List ℕ}
    → RunFrom f start s border whole a i keys (id xs ∷ rest) last out
    → (given_number any text (length xs) xs ≡ 0) × Fits start (whole ++ text_bytes xs)
    × RunFrom f start Named (length (whole ++ text_bytes xs)) (whole ++ text_bytes xs) a i keys rest last out
unfolding id_number wrong_id
id_back {f} {start} {s} {border} {whole} {a} {i} {keys} {xs} run =
    let on = append_back (id_appends f start s border whole a i keys xs) run.run in
    let z = first_zero _ _ on.0 in
    ((first_zero _ _ z.0).1, room_fits start whole (text_bytes xs) z.1, record { run = on.1 })

-- an allele
allele_appends : (f : Facts) (start : List ℕ) (s : Stage) (border : ℕ) (whole : List ℕ) (a i : ℕ) (keys xs : List ℕ)
    → Appends f (stands f s border whole a i keys) start whole (allele xs)
    (stands f Alleles (length (whole ++ text_bytes xs)) (whole ++ text_bytes xs) (a + 1) i keys) (text_bytes xs)
allele_appends f start s border whole a i keys xs =
    record { state = state_site f s Alleles border whole (text_bytes xs) a i (a + 1) i keys; buffer = refl }

pub allele_run : {f : Facts} {start : List ℕ} {s : Stage} {border : ℕ} {whole : List ℕ} {a i : ℕ} {keys xs : List ℕ}
    {rest : List Turn} {last : Builder} {out : List ℕ}
    → (2 ≤ rank s) × (rank s ≤ 3) → KeepsAllele xs → a < 65535 → Fits start (whole ++ text_bytes xs)
    → RunFrom f start Alleles (length (whole ++ text_bytes xs)) (whole ++ text_bytes xs) (a + 1) i keys rest last out
    → RunFrom f start s border whole a i keys (allele xs ∷ rest) last out
unfolding allele_rules wrong_allele
allele_run {f} {start} {s} {border} {whole} {a} {i} {keys} {xs} o k c r run =
    record {
      run = append_run (allele_appends f start s border whole a i keys xs)
          (first_right _ _
          (first_right _ _ (order_right 2 3 s o) (first_right _ _ (count_right a 65535 c) (first_right _ _ (rw k.some) k.rules)))
          (room_right start whole (text_bytes xs) r)) run.run;
    }

pub allele_back : {f : Facts} {start : List ℕ} {s : Stage} {border : ℕ} {whole : List ℕ} {a i : ℕ} {keys xs : List ℕ}
    {rest : List Turn} {last : Builder} {out : List ℕ}
    → Fit text xs → RunFrom f start s border whole a i keys (allele xs ∷ rest) last out
    → KeepsAllele xs × (a < 65535) × Fits start (whole ++ text_bytes xs)
    × RunFrom f start Alleles (length (whole ++ text_bytes xs)) (whole ++ text_bytes xs) (a + 1) i keys rest last out
unfolding allele_rules wrong_allele
allele_back {f} {start} {s} {border} {whole} {a} {i} {keys} {xs} fit run =
    let on = append_back (allele_appends f start s border whole a i keys xs) run.run in
    let z = first_zero _ _ on.0 in
    let y = first_zero _ _ (first_zero _ _ z.0).1 in
    let x = first_zero _ _ y.1 in (
      record { fit = fit; some = flag_zero (eqb (length xs) 0) 6 x.0; rules = x.1 },
      count_zero a 65535 y.0,
      room_fits start whole (text_bytes xs) z.1,
      record { run = on.1 },
    )

-- FILTER
abbrev pub filter_bytes : List ℕ → List ℕ
filter_bytes xs = given_bytes integers (length xs) xs

filter_appends : (f : Facts) (start : List ℕ) (s : Stage) (border : ℕ) (whole : List ℕ) (a i : ℕ) (keys xs : List ℕ)
    → Appends f (stands f s border whole a i keys) start whole (filter xs)
    (stands f Filtered (length (whole ++ filter_bytes xs)) (whole ++ filter_bytes xs) a i keys) (filter_bytes xs)
filter_appends f start s border whole a i keys xs =
    record { state = state_site f s Filtered border whole (filter_bytes xs) a i a i keys; buffer = refl }

pub filter_run : {f : Facts} {start : List ℕ} {s : Stage} {border : ℕ} {whole : List ℕ} {a i : ℕ} {keys xs : List ℕ}
    {rest : List Turn} {last : Builder} {out : List ℕ}
    → (3 ≤ rank s) × (rank s ≤ 3) → filters_number f.strings xs ≡ 0 → Fits start (whole ++ filter_bytes xs)
    → RunFrom f start Filtered (length (whole ++ filter_bytes xs)) (whole ++ filter_bytes xs) a i keys rest last out
    → RunFrom f start s border whole a i keys (filter xs ∷ rest) last out
unfolding filter_rules wrong_filter
filter_run {f} {start} {s} {border} {whole} {a} {i} {keys} {xs} o h r run =
    record {
      run = append_run (filter_appends f start s border whole a i keys xs)
          (first_right _ _ (first_right _ _ (order_right 3 3 s o) h) (room_right start whole (filter_bytes xs) r)) run.run;
    }

pub filter_back : {f : Facts} {start : List ℕ} {s : Stage} {border : ℕ} {whole : List ℕ} {a i : ℕ} {keys xs : List ℕ}
    {rest : List Turn} {last : Builder} {out : List ℕ}
    → RunFrom f start s border whole a i keys (filter xs ∷ rest) last out
    → (filters_number f.strings xs ≡ 0) × Fits start (whole ++ filter_bytes xs)
    × RunFrom f start Filtered (length (whole ++ filter_bytes xs)) (whole ++ filter_bytes xs) a i keys rest last out
unfolding filter_rules wrong_filter
filter_back {f} {start} {s} {border} {whole} {a} {i} {keys} {xs} run =
    let on = append_back (filter_appends f start s border whole a i keys xs) run.run in
    let z = first_zero _ _ on.0 in
    ((first_zero _ _ z.0).1, room_fits start whole (filter_bytes xs) z.1, record { run = on.1 })

-- an INFO pair
info_appends : (f : Facts) (start : List ℕ) (s : Stage) (border : ℕ) (whole : List ℕ) (a i : ℕ) (keys : List ℕ) (p : Pair)
    → Appends f (stands f s border whole a i keys) start whole (info p)
    (stands f Infos (length (whole ++ info_bytes p)) (whole ++ info_bytes p) a (i + 1) keys) (info_bytes p)
info_appends f start s border whole a i keys p =
    record { state = state_site f s Infos border whole (info_bytes p) a i a (i + 1) keys; buffer = refl }

pub info_run : {f : Facts} {start : List ℕ} {s : Stage} {border : ℕ} {whole : List ℕ} {a i : ℕ} {keys : List ℕ} {p : Pair}
    {rest : List Turn} {last : Builder} {out : List ℕ}
    → (4 ≤ rank s) × (rank s ≤ 5) → KeepsInfo f.strings p → i < 65535 → Fits start (whole ++ info_bytes p)
    → RunFrom f start Infos (length (whole ++ info_bytes p)) (whole ++ info_bytes p) a (i + 1) keys rest last out
    → RunFrom f start s border whole a i keys (info p ∷ rest) last out
unfolding info_rules info_key wrong_info
info_run {f} {start} {s} {border} {whole} {a} {i} {keys} {p} o k c r run =
    record {
      run = append_run (info_appends f start s border whole a i keys p)
          (first_right _ _
          (first_right _ _ (first_right _ _ (order_right 4 5 s o) (first_right _ _ (count_right i 65535 c) k.inside)) k.rules)
          (room_right start whole (info_bytes p) r)) run.run;
    }

pub info_back : {f : Facts} {start : List ℕ} {s : Stage} {border : ℕ} {whole : List ℕ} {a i : ℕ} {keys : List ℕ} {p : Pair}
    {rest : List Turn} {last : Builder} {out : List ℕ}
    → FitTurn (info p) → RunFrom f start s border whole a i keys (info p ∷ rest) last out
    → KeepsInfo f.strings p × (i < 65535) × Fits start (whole ++ info_bytes p)
    × RunFrom f start Infos (length (whole ++ info_bytes p)) (whole ++ info_bytes p) a (i + 1) keys rest last out
unfolding info_rules info_key wrong_info
info_back {f} {start} {s} {border} {whole} {a} {i} {keys} {p} fit run =
    let on = append_back (info_appends f start s border whole a i keys p) run.run in
    let z = first_zero _ _ on.0 in
    let y = first_zero _ _ z.0 in
    let x = first_zero _ _ (first_zero _ _ y.0).1 in (
      record { fit = fit.1; key = fit.0; inside = x.1; rules = y.1 },
      count_zero i 65535 x.0,
      room_fits start whole (info_bytes p) z.1,
      record { run = on.1 },
    )

-- a FORMAT field
people_zero : (people : ℕ) → people_number people ≡ 0 → 0 < people
unfolding people_number
people_zero people h = let e = eqb-false people 0 (flag_zero (eqb people 0) 4 h) in by-people people e
  where
    by-people : (n : ℕ) → (n ≡ 0 → ⊥) → 0 < n
    by-people zero e = absurd (e refl)
    by-people (suc n) e = omega arith

people_right_lem : (people : ℕ) → 0 < people → people_number people ≡ 0
unfolding people_number
people_right_lem people h = rw (ne_eqb people 0 (λ e. omega arith))

repeat_zero : (earlier : List ℕ) (key : ℕ) → repeat_number earlier key ≡ 0 → among key earlier ≡ false
unfolding repeat_number
repeat_zero earlier key h = flag_zero (among key earlier) 10 h

repeat_right : (earlier : List ℕ) (key : ℕ) → among key earlier ≡ false → repeat_number earlier key ≡ 0
unfolding repeat_number
repeat_right earlier key h = rw h

gt_zero : (gt key : ℕ) (b : Bool) → gt_number gt key b ≡ 0 → eqb key gt ≡ true → b ≡ true
unfolding gt_number
gt_zero gt key true h e = refl
gt_zero gt key false h e = let k = rw e at h in absurd (omega arith)

gt_right : (gt key : ℕ) (b : Bool) → (eqb key gt ≡ true → b ≡ true) → gt_number gt key b ≡ 0
unfolding gt_number
gt_right gt key b h = by_key (eqb key gt) refl
  where
    by_key : (c : Bool) → eqb key gt ≡ c → ◌≡◌ {A = ℕ} (pick c (pick b 0 6) 0) 0
    by_key true e = rw (h e)
    by_key false e = refl

list_zero : (people len count : ℕ) → list_number people len count ≡ 0 → people * len ≡ count
unfolding list_number
list_zero people len count h = by-test (eqb (people * len) count) refl h
  where
    by-test : (b : Bool) → eqb (people * len) count ≡ b → ◌≡◌ {A = ℕ} (pick b 0 7) 0 → people * len ≡ count
    by-test true e k = eqb-true (people * len) count e
    by-test false e k = absurd (omega arith)

list_right : (people len count : ℕ) → people * len ≡ count → list_number people len count ≡ 0
unfolding list_number
list_right people len count h = rw (eq-eqb (people * len) count h)

format_appends : (f : Facts) (start : List ℕ) (s : Stage) (border : ℕ) (whole : List ℕ) (a i : ℕ) (keys : List ℕ) (x : Field)
    → Appends f (stands f s border whole a i keys) start whole (format x)
    (stands f Formats border (whole ++ format_bytes x) a i (keys ++ (x.key ∷ []))) (format_bytes x)
format_appends f start s border whole a i keys x =
    record { state = state_field f s border whole (format_bytes x) a i keys x.key; buffer = refl }

pub format_run : {f : Facts} {start : List ℕ} {s : Stage} {border : ℕ} {whole : List ℕ} {a i : ℕ} {keys : List ℕ} {x : Field}
    {rest : List Turn} {last : Builder} {out : List ℕ}
    → (4 ≤ rank s) × (rank s ≤ 6) → 0 < f.people → KeepsField f a keys x → length keys < 255 → Fits start (whole ++ format_bytes x)
    → RunFrom f start Formats border (whole ++ format_bytes x) a i (keys ++ (x.key ∷ [])) rest last out
    → RunFrom f start s border whole a i keys (format x ∷ rest) last out
unfolding format_rules format_count format_order format_key format_shape
format_run {f} {start} {s} {border} {whole} {a} {i} {keys} {x} o p k c r run =
    let once : repeat_number (take (length keys) (sets (replicate 256 0) 0 keys)) x.key ≡ 0 =
    rw (earlier_keys keys (omega arith)) (repeat_right keys x.key k.once) in
    record {
      run = append_run (format_appends f start s border whole a i keys x)
          (first_right _ _
          (first_right _ _
          (first_right _ _ (order_right 4 6 s o) (first_right _ _ (people_right_lem f.people p) (count_right (length keys) 255 c)))
          (first_right _ _ (first_right _ _ k.inside once)
          (first_right _ _
          (first_right _ _ (gt_right f.gt x.key (is_integers x.value.kind) k.whole)
          (list_right f.people x.len (length x.value.elements) k.count))
          k.rules)))
          (room_right start whole (format_bytes x) r)) run.run;
    }

pub format_back : {f : Facts} {start : List ℕ} {s : Stage} {border : ℕ} {whole : List ℕ} {a i : ℕ} {keys : List ℕ} {x : Field}
    {rest : List Turn} {last : Builder} {out : List ℕ}
    → FitTurn (format x) → RunFrom f start s border whole a i keys (format x ∷ rest) last out
    → KeepsField f a keys x × (0 < f.people) × (length keys < 255) × Fits start (whole ++ format_bytes x)
    × RunFrom f start Formats border (whole ++ format_bytes x) a i (keys ++ (x.key ∷ [])) rest last out
unfolding format_rules format_count format_order format_key format_shape
format_back {f} {start} {s} {border} {whole} {a} {i} {keys} {x} fit run =
    let on = append_back (format_appends f start s border whole a i keys x) run.run in
    let z = first_zero _ _ on.0 in
    let y = first_zero _ _ z.0 in
    let w = first_zero _ _ (first_zero _ _ y.0).1 in
    let v = first_zero _ _ y.1 in
    let u = first_zero _ _ v.0 in
    let t = first_zero _ _ v.1 in
    let q = first_zero _ _ t.0 in
    let c = count_zero (length keys) 255 w.1 in
    let once = rw (earlier_keys keys (omega arith)) at (repeat_zero (take (length keys) (sets (replicate 256 0) 0 keys)) x.key u.1) in (
      record {
        fit = fit.2;
        key = fit.0;
        inside = u.0;
        once = once;
        whole = gt_zero f.gt x.key (is_integers x.value.kind) q.0;
        count = list_zero f.people x.len (length x.value.elements) q.1;
        rules = t.1;
      },
      people_zero f.people w.0,
      c,
      room_fits start whole (format_bytes x) z.1,
      record { run = on.1 },
    )
