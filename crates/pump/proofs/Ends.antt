-- What a read that gave no byte says of the bytes that are left, and what the piece of a line feed has.
use Rattle.std.proofs.Common.{◌≡◌, ◌∙◌, sym, refl, ℕ, ◌<◌, length, take, List, [], ◌∷◌, slice_set, arith}
use Rattle.std.specs.declared.option.Option.{Option}
use Rattle.std.specs.declared.option.Option.TheVariants.{None, Some}
use Rattle.std.specs.Io.KnownBytes.{Consumes, Keeps, IsAtEnd}

-- where a read took no byte and none are left, none were, and what is left is as it was
pub ended : (old new : Option (List ℕ)) → Consumes old new [] → IsAtEnd new → IsAtEnd old × Keeps old new
ended None new c e = (tt, tt)
ended (Some xs) None c e = (elim c as (λ _. xs ≡ []) [ ], c)
ended (Some xs) (Some ys) c e = (c ∙ e, sym c)

-- the first byte of a piece is the line feed that was put there
pub fed : (piece : List ℕ) → 0 < length piece → take 1 (slice_set piece 0 10) ≡ 10 ∷ []
fed [] l =
    let f : ⊥ = omega (arith, l) in
    elim f as (λ _. take {A = ℕ} 1 (slice_set [] 0 10) ≡ 10 ∷ []) [ ]
fed (x ∷ xs) l = refl
