-- The record with everything in it is computed. Rests on specs/Witness.
use mathlib.Core.Path.{◌≡◌, refl}
use mathlib.Core.Bool.{Bool, true, false}
use mathlib.Core.List.{List, [], ◌∷◌}
use Prim.Native.Nat.{ℕ, zero, suc, ◌<◌}
use native.Mathlib.Omega.{arith}
use lib.Dec.{ltb}
use borrow.Author.Tests.{ltb-true}
use Rattle.words.specs.Lists.{among}
use Rattle.words.specs.Pick.{pick}
use Rattle.words.specs.Words.{le, number, Bytes, outside}
use Rattle.types.specs.Rows.{row_of, width_of}
use Rattle.types.specs.Elements.{marked, kind, widened, shown}
use Rattle.values.specs.Values.{integer, true_length, keyed, may_stand, described, present}
use Rattle.vectors.specs.Vectors.{numbers, shown_numbers, vector, vectors, judged}
use Rattle.vectors.specs.Sound.{highest, code_most, sound}
use Rattle.positions.specs.Positions.{pos_of}
use Rattle.fixed.specs.Layout.{field, pos_wrong, people_wrong, qual_wrong}
use Rattle.fixed.specs.Fixed.{blocks, wrong_at, site_at, fixed}
use Rattle.site.specs.Steps.{times}
use Rattle.site.specs.Alleles.{allele_bytes, allele}
use Rattle.site.specs.Filters.{filters, filtered, filter}
use Rattle.site.specs.Site.{info, site}
use Rattle.genotypes.specs.Formats.{role_of, gt_now, format_field, so_many, formats}
use Rattle.record.specs.Reading.{site_of, genotypes_of, reading}
use Rattle.choice.specs.Choice.{ascending_from}
use Rattle.choose_laws.specs.Divisions.{Division, other}
use Rattle.laws.specs.Witness.{Witness, witness}

-- a list of bytes, by a test of each
are_bytes : List ℕ → Bool
are_bytes [] = true
are_bytes (b ∷ bs) = pick (ltb b 256) (are_bytes bs) false

bytes_tested : (l : List ℕ) → are_bytes l ≡ true → Bytes l
unfolding are_bytes
bytes_tested [] h = tt
bytes_tested (b ∷ bs) h = by-test (ltb b 256) refl h (bytes_tested bs)
  where
    by-test : (c : Bool) → ltb b 256 ≡ c → pick c (are_bytes bs) false ≡ true → (are_bytes bs ≡ true → Bytes bs) → (b < 256) × Bytes bs
    by-test true e q on = (ltb-true b 256 e, on q)
    by-test false e q on = let z : ◌≡◌ {A = ℕ} 0 1 = cc in absurd (omega arith)

three : Division 3 (0 ∷ 2 ∷ []) (1 ∷ [])
unfolding among ascending_from
three = record { first = refl; second = refl; once = λ p h. once p h }
  where
    once : (p : ℕ) → p < 3 → among p (0 ∷ 2 ∷ []) ≡ other (among p (1 ∷ []))
    once zero h = refl
    once (suc zero) h = refl
    once (suc (suc zero)) h = refl
    once (suc (suc (suc p))) h = absurd (omega arith)

pub witnessed : Witness
unfolding witness pos_of are_bytes among le number outside row_of width_of marked kind widened shown integer true_length keyed may_stand described present numbers shown_numbers vector vectors judged highest code_most sound field pos_wrong people_wrong qual_wrong blocks wrong_at site_at fixed times allele_bytes allele filters filtered filter info site role_of gt_now format_field so_many formats site_of genotypes_of reading ascending_from
witnessed = record { bytes = bytes_tested witness refl; read = refl; few = omega arith; chosen = refl; divided = three }
