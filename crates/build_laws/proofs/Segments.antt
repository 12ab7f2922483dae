-- Turns of one kind, one after the other: all alleles, all INFO pairs, all FORMAT fields; and the first turn and the last. Rests on proofs/Stands.
use mathlib.Core.Path.{◌≡◌, refl, sym}
use mathlib.Core.List.{List, [], ◌∷◌, ◌++◌, append_assoc, append-nil, map}
use Prim.Native.Nat.{ℕ, suc, ◌+◌, ◌<◌, ◌≤◌}
use native.Mathlib.Omega.{arith}
use native.Mathlib.Nat.{add-zero}
use lib.ListN.{length, length-append}
use lib.Seq.{sets, length-sets, append_snoc}
use borrow.Author.Tests.{le-ltb}
use Rattle.fixed.specs.Layout.{id_at, filled_to}
use Rattle.facts.specs.declared.Facts.{Facts}
use Rattle.shown.specs.Shown.{text, Pair, Field}
use Rattle.build_rules.specs.Rules.{reach_number, wrong_begin, wrong_end}
use Rattle.build.specs.Order.{rank}
use Rattle.build_front.specs.Front.{fields_number}
use Rattle.shown.specs.Front.{front_bytes}
use Rattle.build.specs.Turns.{fresh_state, begin_number, begun_state, end_number, ended_state, filled_in}
use Rattle.build.specs.declared.Stage.{Stage}
use Rattle.build.specs.declared.Stage.TheVariants.{Fresh, Begun, Alleles, Infos, Formats}
use Rattle.build.specs.declared.Builder.{Builder}
use Rattle.build_append.proofs.Numbers.{first_zero}
use Rattle.build_rules.proofs.Numbers.{reach_zero}
use Rattle.words.specs.Words.{bytes}
use Rattle.build_laws.specs.Records.{All, Fit, KeepsAllele, KeepsInfo, KeepsFields}
use Rattle.shown.specs.Records.{joined, text_bytes, info_bytes, format_bytes}
use Rattle.build_laws.specs.Runs.{Turn, begin, allele, info, format, end, FitTurn, Run, done}
use Rattle.build_laws.proofs.Steps.{run_first, run_next}
use Rattle.build_laws.proofs.Stands.{stands, RunFrom, Fits, fits_front, first_right, order_right, allele_run, allele_back, info_run, info_back, format_run, format_back}

-- the stage after turns of a kind, from another stage on
abbrev pub last_stage : {A : Type 0} → Stage → Stage → List A → Stage
last_stage s t [] = s
last_stage s t (x ∷ xs) = last_stage t t xs

pub rank_last_stage : {A : Type 0} (low high : ℕ) (s t : Stage) (xs : List A) → (low ≤ rank s) × (rank s ≤ high) → (low ≤ rank t) × (rank t ≤ high)
    → (low ≤ rank (last_stage s t xs)) × (rank (last_stage s t xs) ≤ high)
rank_last_stage low high s t [] h k = h
rank_last_stage low high s t (x ∷ xs) h k = rank_last_stage low high t t xs k k

pub same_last_stage : {A : Type 0} (t : Stage) (xs : List A) → last_stage t t xs ≡ t
same_last_stage t [] = refl
same_last_stage t (x ∷ xs) = same_last_stage t xs

-- the keys of FORMAT fields
abbrev pub keys_of : List Field → List ℕ
keys_of [] = []
keys_of (x ∷ xs) = x.key ∷ keys_of xs

-- alleles
pub alleles_run : {f : Facts} {start : List ℕ} {s : Stage} {whole : List ℕ} {a i : ℕ} {keys : List ℕ}
    {rest : List Turn} {last : Builder} {out : List ℕ}
    → (xs : List (List ℕ)) → (2 ≤ rank s) × (rank s ≤ 3) → All KeepsAllele xs → a + length xs ≤ 65535 → Fits start (whole ++ joined text_bytes xs)
    → RunFrom f start (last_stage s Alleles xs) (length (whole ++ joined text_bytes xs)) (whole ++ joined text_bytes xs) (a + length xs) i keys rest last out
    → RunFrom f start s (length whole) whole a i keys (map allele xs ++ rest) last out
unfolding joined
alleles_run {f} {start} {s} {whole} {a} {i} {keys} [] o k c r run = rw (append-nil whole, add-zero a) at run
alleles_run {f} {start} {s} {whole} {a} {i} {keys} (x ∷ xs) o k c r run =
    let e = sym (append_assoc whole (text_bytes x) (joined text_bytes xs)) in
    let n : a + suc (length xs) ≡ a + 1 + length xs = omega arith in
    let r' : Fits start (whole ++ text_bytes x ++ joined text_bytes xs) = rw e at r in
    allele_run o k.0 (omega arith) (fits_front start (whole ++ text_bytes x) (joined text_bytes xs) r')
    (alleles_run {s = Alleles} xs (omega arith, omega arith) k.1 (omega arith) r' (rw (e, n) at run))

pub alleles_back : {f : Facts} {start : List ℕ} {s : Stage} {whole : List ℕ} {a i : ℕ} {keys : List ℕ}
    {rest : List Turn} {last : Builder} {out : List ℕ}
    → (xs : List (List ℕ)) → All (Fit text) xs → a ≤ 65535 → Fits start whole
    → RunFrom f start s (length whole) whole a i keys (map allele xs ++ rest) last out
    → All KeepsAllele xs × (a + length xs ≤ 65535) × Fits start (whole ++ joined text_bytes xs)
    × RunFrom f start (last_stage s Alleles xs) (length (whole ++ joined text_bytes xs)) (whole ++ joined text_bytes xs) (a + length xs) i keys rest last out
unfolding joined
alleles_back {f} {start} {s} {whole} {a} {i} {keys} [] t c r run = (tt, omega arith, rw (append-nil whole) r, rw (append-nil whole, add-zero a) run)
alleles_back {f} {start} {s} {whole} {a} {i} {keys} (x ∷ xs) t c r run =
    let e = sym (append_assoc whole (text_bytes x) (joined text_bytes xs)) in
    let n : a + suc (length xs) ≡ a + 1 + length xs = omega arith in
    let one = allele_back t.0 run in
    let d = one.1 in
    let more = alleles_back {s = Alleles} xs t.1 (omega arith) one.2 one.3 in
    ((one.0, more.0), rw n more.1, rw e more.2, rw (e, n) more.3)

-- INFO pairs
pub infos_run : {f : Facts} {start : List ℕ} {s : Stage} {whole : List ℕ} {a i : ℕ} {keys : List ℕ}
    {rest : List Turn} {last : Builder} {out : List ℕ}
    → (xs : List Pair) → (4 ≤ rank s) × (rank s ≤ 5) → All (KeepsInfo f.strings) xs → i + length xs ≤ 65535 → Fits start (whole ++ joined info_bytes xs)
    → RunFrom f start (last_stage s Infos xs) (length (whole ++ joined info_bytes xs)) (whole ++ joined info_bytes xs) a (i + length xs) keys rest last out
    → RunFrom f start s (length whole) whole a i keys (map info xs ++ rest) last out
unfolding joined
infos_run {f} {start} {s} {whole} {a} {i} {keys} [] o k c r run = rw (append-nil whole, add-zero i) at run
infos_run {f} {start} {s} {whole} {a} {i} {keys} (x ∷ xs) o k c r run =
    let e = sym (append_assoc whole (info_bytes x) (joined info_bytes xs)) in
    let n : i + suc (length xs) ≡ i + 1 + length xs = omega arith in
    let r' : Fits start (whole ++ info_bytes x ++ joined info_bytes xs) = rw e at r in
    info_run o k.0 (omega arith) (fits_front start (whole ++ info_bytes x) (joined info_bytes xs) r')
    (infos_run {s = Infos} xs (omega arith, omega arith) k.1 (omega arith) r' (rw (e, n) at run))

pub infos_back : {f : Facts} {start : List ℕ} {s : Stage} {whole : List ℕ} {a i : ℕ} {keys : List ℕ}
    {rest : List Turn} {last : Builder} {out : List ℕ}
    → (xs : List Pair) → All (λ p. FitTurn (info p)) xs → i ≤ 65535 → Fits start whole
    → RunFrom f start s (length whole) whole a i keys (map info xs ++ rest) last out
    → All (KeepsInfo f.strings) xs × (i + length xs ≤ 65535) × Fits start (whole ++ joined info_bytes xs)
    × RunFrom f start (last_stage s Infos xs) (length (whole ++ joined info_bytes xs)) (whole ++ joined info_bytes xs) a (i + length xs) keys rest last out
unfolding joined
infos_back {f} {start} {s} {whole} {a} {i} {keys} [] t c r run = (tt, omega arith, rw (append-nil whole) r, rw (append-nil whole, add-zero i) run)
infos_back {f} {start} {s} {whole} {a} {i} {keys} (x ∷ xs) t c r run =
    let e = sym (append_assoc whole (info_bytes x) (joined info_bytes xs)) in
    let n : i + suc (length xs) ≡ i + 1 + length xs = omega arith in
    let one = info_back t.0 run in
    let d = one.1 in
    let more = infos_back {s = Infos} xs t.1 (omega arith) one.2 one.3 in
    ((one.0, more.0), rw n more.1, rw e more.2, rw (e, n) more.3)

-- FORMAT fields
keys_on : (keys : List ℕ) (key : ℕ) → length (keys ++ (key ∷ [])) ≡ length keys + 1
keys_on keys key = length-append keys (key ∷ [])

pub formats_run : {f : Facts} {start : List ℕ} {s : Stage} {border : ℕ} {whole : List ℕ} {a i : ℕ} {keys : List ℕ}
    {rest : List Turn} {last : Builder} {out : List ℕ}
    → (xs : List Field) → (4 ≤ rank s) × (rank s ≤ 6) → (0 < length xs → 0 < f.people) → KeepsFields f a keys xs → length keys + length xs ≤ 255
    → Fits start (whole ++ joined format_bytes xs)
    → RunFrom f start (last_stage s Formats xs) border (whole ++ joined format_bytes xs) a i (keys ++ keys_of xs) rest last out
    → RunFrom f start s border whole a i keys (map format xs ++ rest) last out
unfolding joined
formats_run {f} {start} {s} {border} {whole} {a} {i} {keys} [] o p k c r run = rw (append-nil whole, append-nil keys) at run
formats_run {f} {start} {s} {border} {whole} {a} {i} {keys} (x ∷ xs) o p k c r run =
    let people : 0 < f.people = p (omega arith) in
    let e = sym (append_assoc whole (format_bytes x) (joined format_bytes xs)) in
    let n = sym (append_snoc keys x.key (keys_of xs)) in
    let l = keys_on keys x.key in
    let r' : Fits start (whole ++ format_bytes x ++ joined format_bytes xs) = rw e at r in
    format_run o people k.0 (omega arith) (fits_front start (whole ++ format_bytes x) (joined format_bytes xs) r')
    (formats_run {s = Formats} xs (omega arith, omega arith) (λ _. people) k.1 (omega arith) r' (rw (e, n) at run))

pub formats_back : {f : Facts} {start : List ℕ} {s : Stage} {border : ℕ} {whole : List ℕ} {a i : ℕ} {keys : List ℕ}
    {rest : List Turn} {last : Builder} {out : List ℕ}
    → (xs : List Field) → All (λ x. FitTurn (format x)) xs → length keys ≤ 255 → Fits start whole
    → RunFrom f start s border whole a i keys (map format xs ++ rest) last out
    → KeepsFields f a keys xs × (0 < length xs → 0 < f.people) × (length keys + length xs ≤ 255) × Fits start (whole ++ joined format_bytes xs)
    × RunFrom f start (last_stage s Formats xs) border (whole ++ joined format_bytes xs) a i (keys ++ keys_of xs) rest last out
unfolding joined
formats_back {f} {start} {s} {border} {whole} {a} {i} {keys} [] t c r run =
    (tt, λ e. absurd (omega arith), omega arith, rw (append-nil whole) r, rw (append-nil whole, append-nil keys) run)
formats_back {f} {start} {s} {border} {whole} {a} {i} {keys} (x ∷ xs) t c r run =
    let e = sym (append_assoc whole (format_bytes x) (joined format_bytes xs)) in
    let n = sym (append_snoc keys x.key (keys_of xs)) in
    let l = keys_on keys x.key in
    let one = format_back t.0 run in
    let d = one.2 in
    let more = formats_back {s = Formats} xs t.1 (omega arith) one.3 one.4 in
    let m = more.2 in
    ((one.0, more.0), λ _. one.1, omega arith, rw e more.3, rw (e, n) more.4)

-- begin
pub length_front_bytes : (chrom pos rlen qual : ℕ) → length (front_bytes chrom pos rlen qual) ≡ id_at
unfolding front_bytes bytes
length_front_bytes chrom pos rlen qual = refl

begin_state : (f : Facts) (chrom pos rlen qual : ℕ)
    → begun_state f ≡ stands f Begun (length (front_bytes chrom pos rlen qual)) (front_bytes chrom pos rlen qual) 0 0 []
begin_state f chrom pos rlen qual = rw (length_front_bytes chrom pos rlen qual)

pub begin_run : {f : Facts} {start : List ℕ} {c p r q : ℕ} {rest : List Turn} {last : Builder} {out : List ℕ} → fields_number f c p r q ≡ 0
    → id_at ≤ length start → RunFrom f start Begun (length (front_bytes c p r q)) (front_bytes c p r q) 0 0 [] rest last out
    → Run f fresh_state start (begin c p r q ∷ rest) last out
unfolding fresh_state begin_number wrong_begin reach_number
begin_run {f} {start} {c} {p} {r} {q} {rest} {last} {out} h room run =
    let on : Run f (begun_state f) (sets start 0 (front_bytes c p r q)) rest last out = rw (begin_state f c p r q) run.run in
    run_next (first_right _ _ (order_right 0 0 Fresh (omega arith, omega arith)) (first_right _ _ h (rw (le-ltb (length start) id_at room)))) on

pub begin_back : {f : Facts} {start : List ℕ} {c p r q : ℕ}
    {rest : List Turn} {last : Builder} {out : List ℕ}
    → Run f fresh_state start (begin c p r q ∷ rest) last out
    → (fields_number f c p r q ≡ 0) × (id_at ≤ length start) × RunFrom f start Begun (length (front_bytes c p r q)) (front_bytes c p r q) 0 0 [] rest last out
unfolding fresh_state begin_number wrong_begin
begin_back {f} {start} {c} {p} {r} {q} {rest} {last} {out} run =
    let on = run_first run in
    let z = first_zero _ _ (first_zero _ _ on.0).1 in
    (z.0, reach_zero (length start) id_at z.1, record { run = rw (begin_state f c p r q) at on.1 })

-- end
pub end_run : {f : Facts} {start : List ℕ} {s : Stage} {border : ℕ} {whole : List ℕ} {a i : ℕ} {keys : List ℕ} → (4 ≤ rank s) × (rank s ≤ 6)
    → id_at ≤ length start
    → RunFrom f start s border whole a i keys (end ∷ []) (ended_state (stands f s border whole a i keys))
    (filled_in (stands f s border whole a i keys) (sets start 0 whole))
unfolding end_number wrong_end reach_number
end_run {f} {start} {s} {border} {whole} {a} {i} {keys} o room =
    let n = length-sets start 0 whole in
    record {
      run = run_next (first_right _ _ (order_right 4 6 s o) (rw (le-ltb (length (sets start 0 whole)) filled_to (omega arith)))) done;
    }
