-- Alleles: text of length 1 or more, each byte from 21 to 7E. Rests on values.
use Rattle.std.specs.Prelude.{ℕ, ◌+◌, ◌-◌, List, [], ◌∷◌, ltb, eqb, take, drop, Err, Ok}
use Rattle.words.specs.Pick.{pick}
use Rattle.types.specs.declared.Use.TheVariants.{Allele}
use Rattle.values.specs.Values.{present}
use Rattle.vectors.specs.Vectors.{unsound, Sound}
use Rattle.values.specs.declared.Value.{Value}
use Rattle.values.specs.Answers.{Answer}
use Rattle.site.specs.Steps.{no_step, judged_step}

-- the first byte that is not from 21 to 7E gives 9; a zero byte is none either
unfoldable pub allele_bytes : ℕ → List ℕ → Answer (Unit {0})
allele_bytes at [] = Sound
allele_bytes at (b ∷ bs) =
    let on = allele_bytes (at + 1) bs in
    pick (ltb b 0x21) (unsound 9 at) (pick (ltb 0x7E b) (unsound 9 at) on)

-- an allele's value: not empty, and then its bytes
abbrev pub allele_value : ℕ → List ℕ → Answer Value → Answer ℕ
allele_value at l (Err r) = Err r
allele_value at l (Ok v) =
    pick (eqb v.len 0) (no_step 7 at) (judged_step v.first v.stop (allele_bytes 0 (take (v.stop - v.first) (drop (v.first - at) l))))

unfoldable pub allele : ℕ → List ℕ → Answer ℕ
allele at l = allele_value at l (present 1 Allele at l)
