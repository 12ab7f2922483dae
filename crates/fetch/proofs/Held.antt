-- What two fields that are one hold, part by part.
use mathlib.Core.Path.{◌≡◌, ap}
use Prim.Native.Nat.{ℕ}
use Rattle.values.proofs.Held.{held}
use Rattle.fetch.specs.declared.Found.{Found}
use Rattle.fetch.specs.Fields.{found_field}

pub same_field : {k k' t t' n n' p p' q q' : ℕ} → found_field k t n p q ≡ found_field k' t' n' p' q'
    → (k ≡ k') × (t ≡ t') × (n ≡ n') × (p ≡ p') × (q ≡ q')
same_field h =
    let e = held h in (
      ap (λ (x : Found). x.key) e,
      ap (λ (x : Found). x.code) e,
      ap (λ (x : Found). x.len) e,
      ap (λ (x : Found). x.place) e,
      ap (λ (x : Found). x.stop) e,
    )
