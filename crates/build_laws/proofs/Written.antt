-- The turns of a record that keeps the rules are all taken where it has room, and write its bytes. Rests on proofs/Segments, and on proofs/Front
-- for the bytes of a record.
use mathlib.Core.Path.{◌≡◌, refl, ◌∙◌, sym, ap}
use mathlib.Core.List.{List, [], ◌∷◌, ◌++◌, append_assoc, map}
use Prim.Native.Nat.{ℕ, suc, ◌+◌, ◌-◌, ◌<◌, ◌≤◌}
use native.Mathlib.Omega.{arith}
use native.Mathlib.Nat.{zero-add}
use lib.ListN.{length, length-append, length-set, set}
use lib.Seq.{sets, length-sets, set-append_left}
use Rattle.words.specs.Words.{bytes}
use Rattle.words.proofs.Words.{length_bytes}
use Rattle.stores.proofs.Inside.{sets_inside}
use Rattle.fixed.specs.Layout.{indiv_at, counts_at, people_at, id_at, counts_of, members_of}
use Rattle.facts.specs.declared.Facts.{Facts}
use Rattle.shown.specs.Shown.{Shown, integers, Field}
use Rattle.build.specs.Order.{rank}
use Rattle.shown.specs.Values.{given_bytes}
use Rattle.shown.specs.Front.{front_bytes, fields_filled}
use Rattle.build.specs.Turns.{fresh_state, ended_state, filled_in}
use Rattle.build.specs.declared.Stage.{Stage}
use Rattle.build.specs.declared.Stage.TheVariants.{Named, Alleles, Filtered, Infos, Formats, Ended}
use Rattle.build.specs.declared.Builder.{Builder}
use Rattle.build_laws.specs.Records.{Keeps}
use Rattle.shown.specs.Records.{joined, text_bytes, info_bytes, format_bytes, site_bytes, genotype_bytes, filled_front, record_bytes}
use Rattle.build_laws.specs.Runs.{format, end, Run, turns_of}
use Rattle.build_laws.proofs.Front.{length_record_bytes}
use Rattle.build_laws.proofs.Stands.{stands, RunFrom, Fits, fits_front, id_run, filter_run}
use Rattle.build_laws.proofs.Segments.{last_stage, rank_last_stage, same_last_stage, keys_of, length_front_bytes, alleles_run, infos_run, formats_run, begin_run, end_run}

-- what is written turn by turn, before the end
abbrev pub fronted : Shown → List ℕ
fronted r = front_bytes r.chrom r.pos r.rlen r.qual

abbrev pub named : Shown → List ℕ
named r = fronted r ++ text_bytes r.id

abbrev pub alleled : Shown → List ℕ
alleled r = named r ++ joined text_bytes r.alleles

abbrev pub filtered : Shown → List ℕ
filtered r = alleled r ++ given_bytes integers (length r.filters) r.filters

abbrev pub sited : Shown → List ℕ
sited r = filtered r ++ joined info_bytes r.infos

abbrev pub wholly : Shown → List ℕ
wholly r = sited r ++ joined format_bytes r.formats

sited_site : (r : Shown) → sited r ≡ fronted r ++ site_bytes r
unfolding site_bytes
sited_site r =
    let a = text_bytes r.id in
    let b = joined text_bytes r.alleles in
    let c = given_bytes integers (length r.filters) r.filters in
    let d = joined info_bytes r.infos in
    rw (append_assoc (fronted r ++ a ++ b) c d, append_assoc (fronted r ++ a) b (c ++ d), append_assoc (fronted r) a (b ++ (c ++ d)))

wholly_blocks : (r : Shown) → wholly r ≡ fronted r ++ (site_bytes r ++ genotype_bytes r)
unfolding genotype_bytes
wholly_blocks r = rw (sited_site r, append_assoc (fronted r) (site_bytes r) (joined format_bytes r.formats))

length_sited : (r : Shown) → length (sited r) ≡ id_at + length (site_bytes r)
length_sited r = rw (sited_site r, length-append (fronted r) (site_bytes r), length_front_bytes r.chrom r.pos r.rlen r.qual)

pub length_wholly : (people : ℕ) (r : Shown) → length (wholly r) ≡ length (record_bytes people r)
length_wholly people r =
    let e = wholly_blocks r in
    let n = length-append (fronted r) (site_bytes r ++ genotype_bytes r) in
    let m = length-append (site_bytes r) (genotype_bytes r) in
    let k = length_front_bytes r.chrom r.pos r.rlen r.qual in
    let l = length_record_bytes people r in
    rw (e, n, m, k, l) (omega arith)

-- a store into the front of what stands at the buffer's start
sets_append_left : (xs ys : List ℕ) (i : ℕ) (vs : List ℕ) → i + length vs ≤ length xs → sets (xs ++ ys) i vs ≡ sets xs i vs ++ ys
sets_append_left xs ys i [] h = refl
sets_append_left xs ys i (v ∷ vs) h =
    rw (set-append_left xs ys i v (omega arith)) (sets_append_left (set xs i v) ys (suc i) vs (rw (length-set xs i v) (omega arith)))

sets_front : (buf front tail : List ℕ) (i v : ℕ) → length front ≡ id_at → length (front ++ tail) ≤ length buf → i + 4 ≤ id_at
    → sets (sets buf 0 (front ++ tail)) i (bytes 4 v) ≡ sets buf 0 (sets front i (bytes 4 v) ++ tail)
sets_front buf front tail i v e h r =
    let n = length_bytes 4 v in
    let m = length-append front tail in
    sets_inside buf (front ++ tail) i (bytes 4 v) h (omega arith) ∙ ap (sets buf 0) (sets_append_left front tail i (bytes 4 v) (omega arith))

length_keys_of : (xs : List Field) → length (keys_of xs) ≡ length xs
length_keys_of [] = refl
length_keys_of (x ∷ xs) = ap suc (length_keys_of xs)

-- the four fields that end fills in
fill_front : (buf front tail : List ℕ) (a b c d : ℕ) → length front ≡ id_at → length (front ++ tail) ≤ length buf
    → sets (sets (sets (sets (sets buf 0 (front ++ tail)) 0 (bytes 4 a)) indiv_at (bytes 4 b)) counts_at (bytes 4 c)) people_at (bytes 4 d)
    ≡ sets buf 0 (sets (sets (sets (sets front 0 (bytes 4 a)) indiv_at (bytes 4 b)) counts_at (bytes 4 c)) people_at (bytes 4 d) ++ tail)
fill_front buf front tail a b c d e h =
    let one = sets front 0 (bytes 4 a) in
    let two = sets one indiv_at (bytes 4 b) in
    let three = sets two counts_at (bytes 4 c) in
    let l₁ : length one ≡ id_at = length-sets front 0 (bytes 4 a) ∙ e in
    let l₂ : length two ≡ id_at = length-sets one indiv_at (bytes 4 b) ∙ l₁ in
    let l₃ : length three ≡ id_at = length-sets two counts_at (bytes 4 c) ∙ l₂ in
    let n = length-append front tail in
    let n₁ = length-append one tail in
    let n₂ = length-append two tail in
    let n₃ = length-append three tail in
    rw (
      sets_front buf front tail 0 a e h (omega arith),
      sets_front buf one tail indiv_at b l₁ (omega arith) (omega arith),
      sets_front buf two tail counts_at c l₂ (omega arith) (omega arith),
      sets_front buf three tail people_at d l₃ (omega arith) (omega arith),
    )

-- the state after all turns but the end, and what the end makes of its buffer
abbrev standing : Facts → Shown → Stage → Builder
standing f r s = stands f s (length (sited r)) (wholly r) (length r.alleles) (length r.infos) (keys_of r.formats)

filled_in_record : (f : Facts) (r : Shown) (s : Stage) (buf : List ℕ) → length (wholly r) ≤ length buf
    → filled_in (standing f r s) (sets buf 0 (wholly r)) ≡ sets buf 0 (record_bytes f.people r)
unfolding filled_in fields_filled filled_front record_bytes
filled_in_record f r s buf h =
    let border = id_at + length (site_bytes r) in
    let at = border + length (genotype_bytes r) in
    let n : length (wholly r) ≡ at = length_wholly f.people r ∙ length_record_bytes f.people r in
    rw (n, length_sited r, length_keys_of r.formats, wholly_blocks r)
    (fill_front buf (fronted r) (site_bytes r ++ genotype_bytes r) (border - 8) (at - border)
    (counts_of (length r.alleles) (length r.infos)) (members_of (length r.formats) f.people)
    (length_front_bytes r.chrom r.pos r.rlen r.qual) (rw (wholly_blocks r) at h))

-- a run that writes a record: the state at its end, and the buffer, which begins with the record and is otherwise as it was
pub record Written (f : Facts) (r : Shown) (buf : List ℕ) : Type 0 where
  pub last : Builder
  pub run : Run f fresh_state buf (turns_of r) last (sets buf 0 (record_bytes f.people r))
  pub ended : last.stage ≡ Ended
  pub length : last.at ≡ length (record_bytes f.people r)

pub run_turns : (f : Facts) (r : Shown) (buf : List ℕ) → Keeps f r → length (record_bytes f.people r) ≤ length buf → Written f r buf
unfolding turns_of
run_turns f r buf k h =
    let n = length_wholly f.people r in
    let m = length_record_bytes f.people r in
    let most = k.most in
    let w₅ : Fits buf (wholly r) = (omega arith, omega arith) in
    let w₄ = fits_front buf (sited r) (joined format_bytes r.formats) w₅ in
    let w₃ = fits_front buf (filtered r) (joined info_bytes r.infos) w₄ in
    let w₂ = fits_front buf (alleled r) (given_bytes integers (length r.filters) r.filters) w₃ in
    let w₁ = fits_front buf (named r) (joined text_bytes r.alleles) w₂ in
    let s₁ = last_stage Named Alleles r.alleles in
    let s₂ = last_stage Filtered Infos r.infos in
    let s₃ = last_stage s₂ Formats r.formats in
    let o₂ : (4 ≤ rank s₂) × (rank s₂ ≤ 5) = rank_last_stage 4 5 Filtered Infos r.infos (omega arith, omega arith) (omega arith, omega arith) in
    let o₂' : (4 ≤ rank s₂) × (rank s₂ ≤ 6) = (o₂.0, omega (arith, o₂.1)) in
    let o₃ : (4 ≤ rank s₃) × (rank s₃ ≤ 6) = rank_last_stage 4 6 s₂ Formats r.formats o₂' (omega arith, omega arith) in
    let o₁ : (3 ≤ rank s₁) × (rank s₁ ≤ 3) = some-alleles r.alleles k.some in
    let at_end : RunFrom f buf s₃ (length (sited r)) (wholly r) (length r.alleles) (length r.infos) (keys_of r.formats) (end ∷ [])
    (ended_state (standing f r s₃)) (sets buf 0 (record_bytes f.people r)) =
    rw (sym (filled_in_record f r s₃ buf w₅.1)) (end_run o₃ (omega arith)) in
    let formats : RunFrom f buf s₂ (length (sited r)) (sited r) (length r.alleles) (0 + length r.infos) [] (map format r.formats ++ (end ∷ []))
    (ended_state (standing f r s₃)) (sets buf 0 (record_bytes f.people r)) =
    rw (zero-add (length r.infos))
    (formats_run r.formats o₂' k.people k.formats (rw (zero-add (length r.formats)) k.formats_most) w₅ at_end) in
    let infos = infos_run r.infos (omega arith, omega arith) k.infos (rw (zero-add (length r.infos)) k.infos_most) w₄ formats in
    let filters = filter_run o₁ k.filters w₃ infos in
    record {
      last = ended_state (standing f r s₃);
      run = begin_run k.fields (omega arith) (id_run (omega arith, omega arith) k.id w₁
          (alleles_run r.alleles (omega arith, omega arith) k.alleles (rw (zero-add (length r.alleles)) k.alleles_most) w₂
          (rw (zero-add (length r.alleles)) filters)));
      ended = refl;
      length = n;
    }
  where
    some-alleles : (xs : List (List ℕ)) → 0 < length xs → (3 ≤ rank (last_stage Named Alleles xs)) × (rank (last_stage Named Alleles xs) ≤ 3)
    some-alleles [] h = absurd (omega arith)
    some-alleles (x ∷ xs) h = rw (same_last_stage Alleles xs) (omega arith, omega arith)
