-- The FORMAT fields of a genotype block that is sound, as they are shown: each keeps the builder's rules, and together they are written in no more
-- bytes than they stand in. Rests on proofs/Values, on fetch_laws' law of the first field of a block and on contents' fields as they are shown.
use mathlib.Core.Path.{◌≡◌, refl, ◌∙◌, sym, ap}
use mathlib.Core.List.{List, [], ◌∷◌, ◌++◌, map}
use mathlib.Core.Bool.{true}
use Prim.Native.Nat.{ℕ, zero, suc, ◌+◌, ◌-◌, ◌≤◌}
use native.Mathlib.Omega.{arith}
use lib.Dec.{eqb}
use lib.ListN.{length, drop, replicate, length-append}
use Rattle.words.specs.Words.{Bytes}
use Rattle.values.specs.Values.{present}
use Rattle.facts.specs.declared.Facts.{Facts}
use Rattle.genotypes.specs.Formats.{formats, role_of}
use Rattle.genotypes.specs.declared.Gt.{Gt}
use Rattle.encode.specs.Encode.{integer_bytes}
use Rattle.shown.specs.Shown.{Field, kind_of, is_integers}
use Rattle.shown.specs.Values.{given_bytes, pair_bytes}
use Rattle.fetch.specs.declared.Kind.TheVariants.{Format}
use Rattle.fetch.proofs.Inside.{drop_past}
use Rattle.fetch_laws.proofs.Agree.{sound_there, sound_judged}
use Rattle.fetch_laws.proofs.FormatFields.{JudgedField, formats_field}
use Rattle.contents.proofs.Blocks.{format_of, items_of}
use Rattle.build_laws.specs.Records.{KeepsField, KeepsFields}
use Rattle.shown.specs.Records.{joined, format_bytes}
use Rattle.choose_laws.proofs.Stored.{Bytes_drop}
use Rattle.keeps_laws.proofs.Descriptors.{key_keeps}
use Rattle.std.specs.Prelude.{Ok}
use Rattle.values.specs.Answers.{whole}
use Rattle.keeps_laws.proofs.Values.{elements_from, value_keeps, gt_types}

-- GT is integers
role_types : (people key gt at : ℕ) (l : List ℕ) (t n first stop : ℕ) → present people (role_of key gt) at l ≡ whole t n first stop → Bytes l
    → eqb key gt ≡ true → is_integers (kind_of t) ≡ true
unfolding role_of
role_types people key gt at l t n first stop h b e = rw (gt_types people at l t n first stop (rw e at h) b)

-- the field that is shown
abbrev format_at : ℕ → List ℕ → ℕ → ℕ → ℕ → ℕ → ℕ → ℕ → Field
format_at at l key next t n first stop =
    record { key = key; len = n; value = record { kind = kind_of t; elements = elements_from next (drop (next - at) l) t first stop } }

record FieldKeeps (f : Facts) (alleles : ℕ) (earlier : List ℕ) (at : ℕ) (l : List ℕ) (x : Field) (stop : ℕ) : Type 0 where
  keeps : KeepsField f alleles earlier x
  long : length (format_bytes x) + length (drop (stop - at) l) ≤ length l

field_keeps : (f : Facts) (alleles n : ℕ) (earlier : List ℕ) (known : Gt) (at : ℕ) (l : List ℕ) {g : Gt} → Bytes l
    → (j : JudgedField f.strings f.people f.gt alleles n earlier known at l g)
    → FieldKeeps f alleles earlier at l (format_at at l j.key j.next j.code j.len j.first j.stop) j.stop
unfolding pair_bytes
field_keeps f alleles n earlier known at l b j =
    let key = j.key in
    let next = j.next in
    let t = j.code in
    let first = j.first in
    let stop = j.stop in
    let role = role_of key f.gt in
    let l1 = drop (next - at) l in
    let b1 = Bytes_drop (next - at) l b in
    let here = sound_there f.people alleles role next l1 t j.len first stop j.value in
    let c = key_keeps f.strings at l key next j.number b in
    let k = value_keeps f.people alleles role next l1 t j.len first stop here b1
    (sound_judged f.people alleles role next l1 t j.len first stop j.value) in
    let xs = elements_from next l1 t first stop in
    let behind = drop_past l at next stop j.key_later (omega (arith, j.later, j.ends)) in
    let long : length (given_bytes (kind_of t) j.len xs) + length (drop (stop - at) l) ≤ length l1 = rw behind at k.long in
    record {
      keeps = record {
        fit = k.value.fit;
        key = c.bits;
        inside = c.inside;
        once = j.once;
        whole = role_types f.people key f.gt next l1 t j.len first stop here b1;
        count = sym k.value.count;
        rules = k.rules;
      };
      long = rw (length-append (integer_bytes key) (given_bytes (kind_of t) j.len xs)) (omega (arith, c.long));
    }

-- the law: so many FORMAT fields, as they are shown
abbrev pub fields_at : ℕ → ℕ → ℕ → List ℕ → List Field
fields_at people n at l = map format_of (items_of people (replicate n Format) at l)

pub record Fields (f : Facts) (alleles n : ℕ) (earlier : List ℕ) (at : ℕ) (l : List ℕ) : Type 0 where
  pub count : length (fields_at f.people n at l) ≡ n
  pub keep : KeepsFields f alleles earlier (fields_at f.people n at l)
  pub long : length (joined format_bytes (fields_at f.people n at l)) ≤ length l

pub fields_keep : (f : Facts) (alleles n : ℕ) (earlier : List ℕ) (known : Gt) (at : ℕ) (l : List ℕ) {g : Gt}
    → formats f.strings f.people f.gt alleles n earlier known at l ≡ Ok g → Bytes l → Fields f alleles n earlier at l
unfolding items_of joined
fields_keep f alleles zero earlier known at l h b = record { count = refl; keep = tt; long = omega arith }
fields_keep f alleles (suc n) earlier known at l h b =
    let j = formats_field f.strings f.people f.gt alleles n earlier known at l h in
    let key = j.key in
    let next = j.next in
    let stop = j.stop in
    let rest = drop (stop - at) l in
    let x = format_at at l key next j.code j.len j.first stop in
    let k = field_keeps f alleles n earlier known at l b j in
    let on = fields_keep f alleles n (earlier ++ (key ∷ [])) _ stop rest j.on (Bytes_drop (stop - at) l b) in
    let shows : fields_at f.people (suc n) at l ≡ x ∷ fields_at f.people n stop rest =
    rw (j.field, drop_past l at next j.first j.key_later j.later) in
    let both = length-append (format_bytes x) (joined format_bytes (fields_at f.people n stop rest)) in
    record {
      count = ap length shows ∙ ap suc on.count;
      keep = rw shows (k.keeps, on.keep);
      long = rw (shows, both) (omega (arith, k.long, on.long));
    }
