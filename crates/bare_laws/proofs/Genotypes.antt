-- A genotype block whose bare 00 become 01 is read as it was, but for the type of a GT that was 00. Rests on proofs/Values and Steps, and
-- on the definitions of genotypes.
use mathlib.Core.Path.{◌≡◌, refl, sym, ◌∙◌, ap}
use mathlib.Core.List.{List, [], ◌∷◌, ◌++◌}
use Prim.Native.Nat.{ℕ, zero, suc, ◌+◌, ◌-◌}
use native.Mathlib.Omega.{arith}
use lib.ListN.{take, drop, length-drop, replicate}
use lib.Seq.{length-take-le, drop_at}
use Rattle.types.specs.declared.Use.TheVariants.{Format}
use Rattle.genotypes.specs.Formats.{format_field, so_many, formats, role_of, gt_now, gt_at}
use Rattle.genotypes.specs.declared.Gt.{Gt}
use Rattle.fetch_laws.proofs.FormatFields.{JudgedField, format_there, formats_field, keyed_integer}
use Rattle.fetch.specs.declared.Kind.TheVariants.{Format as FormatKind}
use Rattle.fetch_laws.proofs.Fronts.{keyed_front}
use Rattle.fetch.proofs.Inside.{drop_past}
use Rattle.bare_laws.specs.Ones.{one_for, ones_of}
use Rattle.bare_laws.proofs.Values.{code_for, sound_ones, drop_ones}
use Rattle.std.specs.Prelude.{Ok}
use Rattle.bare_laws.proofs.Steps.{value_one_there, pair_one_there}

-- where GT stands in what becomes of the block
pub record Genotyped (strings people gt alleles n : ℕ) (earlier : List ℕ) (known : Gt) (at : ℕ) (l : List ℕ) : Type 0 where
  pub found : Gt
  pub read : formats strings people gt alleles n earlier known at (ones_of people (replicate n FormatKind) at l) ≡ Ok found

-- one FORMAT field, before what becomes of the rest
field_ones : (strings people gt alleles n : ℕ) (earlier : List ℕ) (known known' : Gt) (at : ℕ) (l : List ℕ) {g : Gt}
    → (j : JudgedField strings people gt alleles n earlier known at l g)
    → formats strings people gt alleles (suc n) earlier known' at (ones_of people (replicate (suc n) FormatKind) at l)
    ≡ formats strings people gt alleles n (earlier ++ (j.key ∷ [])) (gt_now j.key gt (gt_at (code_for j.code) j.len j.first) known') j.stop
    (ones_of people (replicate n FormatKind) j.stop (drop (j.stop - at) l))
unfolding format_field so_many formats ones_of
field_ones strings people gt alleles n earlier known known' at l j =
    let next = j.next in
    let first = j.first in
    let stop = j.stop in
    let a = j.key_later in
    let b = j.later in
    let c = j.ends in
    let i = j.inside in
    let l1 = drop (next - at) l in
    let rest = ones_of people (replicate n FormatKind) in
    let there = format_there people alleles j.key gt next l1 j.code j.len first stop j.value in
    let past = drop_past l at next stop a (omega arith) in
    let m = rest stop (drop (stop - next) l1) in
    let v = one_for (take (stop - next) l1) ++ m in
    let split = pair_one_there people Format rest at l j.key next (keyed_integer strings at l j.key next j.number) in
    let value : drop (next - at) (take (next - at) l ++ v) ≡ v = drop_at (take (next - at) l) v (next - at) (length-take-le (next - at) l (omega arith)) in
    let here : at + (next - at) ≡ next = omega arith in
    let behind : drop (stop - at) (take (next - at) l ++ v) ≡ m =
    sym (drop_past (take (next - at) l ++ v) at next stop a (omega arith)) ∙ ap (drop (stop - next)) value
    ∙ drop_ones next stop l1 m (omega arith) (rw length-drop (omega arith)) in
    rw (
      split,
      value_one_there people Format rest next l1 j.code j.len first stop there,
      keyed_front strings at at l v j.key next j.number,
      here,
      j.once,
      value,
      sound_ones people alleles (role_of j.key gt) next l1 m j.code j.len first stop j.value,
      behind,
      past,
    )

-- no field is left, and no byte
none_over_lem : (strings people gt alleles : ℕ) (earlier : List ℕ) (known known' : Gt) (at : ℕ) (l : List ℕ) {g : Gt}
    → formats strings people gt alleles zero earlier known at l ≡ Ok g → formats strings people gt alleles zero earlier known' at l ≡ Ok known'
unfolding format_field so_many formats
none_over_lem strings people gt alleles earlier known known' at [] h = refl
none_over_lem strings people gt alleles earlier known known' at (b ∷ rest) h = cc

-- the law: fields that are sound are sound with 01 in place of each bare 00
formats_ones : (strings people gt alleles n : ℕ) (earlier : List ℕ) (known known' : Gt) (at : ℕ) (l : List ℕ) {g : Gt}
    → formats strings people gt alleles n earlier known at l ≡ Ok g → Genotyped strings people gt alleles n earlier known' at l
unfolding ones_of
formats_ones strings people gt alleles zero earlier known known' at l h = record { found = known'; read = none_over_lem strings people gt alleles earlier known known' at l h }
formats_ones strings people gt alleles (suc n) earlier known known' at l h =
    let j = formats_field strings people gt alleles n earlier known at l h in
    let now = gt_now j.key gt (gt_at (code_for j.code) j.len j.first) known' in
    let on = formats_ones strings people gt alleles n (earlier ++ (j.key ∷ [])) _ now j.stop (drop (j.stop - at) l) j.on in
    record { found = on.found; read = field_ones strings people gt alleles n earlier known known' at l j ∙ on.read }

pub genotypes_ones : (strings people gt alleles n at : ℕ) (known : Gt) (l : List ℕ) {g : Gt}
    → formats strings people gt alleles n [] known at l ≡ Ok g → Genotyped strings people gt alleles n [] known at l
genotypes_ones strings people gt alleles n at known l h = formats_ones strings people gt alleles n [] known known at l h
