-- The site block from ID on: ID, alleles, FILTER, INFO pairs, and no byte over. Rests on the steps of each.
use Rattle.std.specs.Prelude.{ℕ, ◌-◌, List, drop, Err, Ok}
use Rattle.types.specs.declared.Use.TheVariants.{Id, Info}
use Rattle.values.specs.Values.{keyed}
use Rattle.vectors.specs.Sound.{sound}
use Rattle.site.specs.Steps.{then, times, value_step, ended}
use Rattle.site.specs.Alleles.{allele}
use Rattle.values.specs.declared.Integer.{Integer}
use Rattle.values.specs.Answers.{Answer}
use Rattle.site.specs.Filters.{filter}

-- an INFO pair: a key, then any typed value
abbrev pub info_value : ℕ → List ℕ → Answer Integer → Answer ℕ
info_value at l (Err r) = Err r
info_value at l (Ok i) = value_step (sound 1 0 Info i.next (drop (i.next - at) l))

unfoldable pub info : ℕ → ℕ → List ℕ → Answer ℕ
info strings at l = info_value at l (keyed strings at l)

-- ID, so many alleles, FILTER, so many INFO pairs, and then the end of the block
unfoldable pub site : ℕ → ℕ → ℕ → ℕ → List ℕ → Answer ℕ
site strings a i at l =
    then at l (value_step (sound 1 0 Id at l)) (λ p fromAlleles.
    then p fromAlleles (times allele a p fromAlleles) (λ q fromFilter.
    then q fromFilter (filter strings q fromFilter) (λ r fromInfo.
    then r fromInfo (times (info strings) i r fromInfo) ended)))
