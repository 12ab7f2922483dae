-- Of an accepted record: what its front says, and that its FORMAT fields are there and fill the genotype block to its last byte.
-- Rests on choose's facts about the front and on fetch's FORMAT fields.
use mathlib.Core.Path.{◌≡◌, refl}
use mathlib.Core.List.{List, [], ◌∷◌}
use Prim.Native.Nat.{ℕ, zero, suc, ◌+◌, ◌-◌, ◌*◌, ◌≤◌}
use native.Mathlib.Omega.{arith}
use lib.ListN.{length, take, drop}
use Rattle.types.specs.Rows.{width_of}
use Rattle.types.specs.declared.Use.TheVariants.{Format}
use Rattle.fixed.specs.Layout.{indiv_at, people_at, id_at, members_of, field}
use Rattle.facts.specs.declared.Facts.{Facts}
use Rattle.fixed.specs.declared.Site.{Site}
use Rattle.fixed.proofs.Fits.{people_given}
use Rattle.genotypes.specs.Formats.{format_field, so_many, formats, none_over}
use Rattle.genotypes.specs.declared.Gt.{Gt}
use Rattle.record.specs.Reading.{reading, genotypes_of, accepted_as}
use Rattle.record.proofs.Accepted.{accepted, accepted_fits}
use Rattle.fetch.specs.Fields.{paired, found_field}
use Rattle.std.specs.Prelude.{Ok}
use Rattle.fetch_laws.proofs.FormatFields.{formats_field}

-- a FORMAT field at the front of a list that is there, and what holds of the rest
pub record Fill (people at : ℕ) (l : List ℕ) (After : ℕ → List ℕ → Type 0) : Type 0 where
  pub key : ℕ
  pub code : ℕ
  pub len : ℕ
  pub first : ℕ
  pub stop : ℕ
  pub here : paired people Format at l ≡ found_field key code len first stop
  pub later : at ≤ first
  pub ends : stop ≡ first + people * len * width_of code
  pub inside : stop ≤ at + length l
  pub rest : After stop (drop (stop - at) l)

-- so many FORMAT fields fill a list
abbrev pub Filled : ℕ → ℕ → ℕ → List ℕ → Type 0
Filled people zero at l = l ≡ []
Filled people (suc n) at l = Fill people at l (Filled people n)

none_over_lem : (known : Gt) (at : ℕ) (l : List ℕ) {g : Gt} → none_over known at l ≡ Ok g → l ≡ []
none_over_lem known at [] h = refl
none_over_lem known at (b ∷ rest) h = cc

-- fields that reading judged sound are there, and fill their list
formats_filled : (strings people gt alleles n : ℕ) (earlier : List ℕ) (known : Gt) (at : ℕ) (l : List ℕ) {g : Gt}
    → formats strings people gt alleles n earlier known at l ≡ Ok g → Filled people n at l
unfolding format_field so_many formats
formats_filled strings people gt alleles zero earlier known at l h = none_over_lem known at l h
formats_filled strings people gt alleles (suc n) earlier known at l h =
    let j = formats_field strings people gt alleles n earlier known at l h in
    let a = j.key_later in
    let b = j.later in
    record {
      key = j.key;
      code = j.code;
      len = j.len;
      first = j.first;
      stop = j.stop;
      here = j.field;
      later = omega arith;
      ends = j.ends;
      inside = j.inside;
      rest = formats_filled strings people gt alleles n _ _ j.stop _ j.on;
    }

-- what the front of an accepted record says
pub record Opened (f : Facts) (s : List ℕ) (t : Site) : Type 0 where
  pub sited : id_at ≤ t.border
  pub bordered : t.border ≤ t.length
  pub inside : t.length ≤ length s
  pub indiv : field indiv_at s ≡ t.length - t.border
  pub members : field people_at s ≡ members_of t.formats t.people
  pub given : t.people ≡ f.people
  pub nobody : t.people ≡ 0 → t.formats ≡ 0

pub opened : (f : Facts) (s : List ℕ) (t : Site) (g : Gt) → reading f s ≡ accepted_as t g → Opened f s t
opened f s t g h =
    let x = accepted_fits f s t g h in
    let a = x.border in
    let b = x.whole in
    let c = x.formats in
    let d = x.people in
    let p = people_given f.people t.formats t.people x.people_right in
    record {
      sited = x.site;
      bordered = omega arith;
      inside = x.there;
      indiv = omega arith;
      members = omega arith;
      given = p.0;
      nobody = p.1;
    }

-- an accepted record's FORMAT fields fill its genotype block
pub filled : (f : Facts) (s : List ℕ) (t : Site) (g : Gt) → reading f s ≡ accepted_as t g
    → Filled t.people t.formats t.border (drop t.border (take t.length s))
unfolding genotypes_of
filled f s t g h =
    let r = accepted f s t g h in
    let o = opened f s t g h in
    rw o.given (formats_filled f.strings f.people f.gt t.alleles t.formats _ _ t.border _ r.genotypes)
