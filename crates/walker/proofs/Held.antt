-- What two pairs that are one hold, part by part.
use mathlib.Core.Path.{◌≡◌, ap}
use Prim.Native.Nat.{ℕ}
use Rattle.std.specs.Prelude.{Some}
use Rattle.walker.specs.declared.Pair.{Pair}
use Rattle.walker.specs.Walk.{found_pair}

paired_held : {x y : Pair} → Some x ≡ Some y → x ≡ y
paired_held h = cc

pub same_pair : {k k' t t' n n' p p' q q' : ℕ} → found_pair k t n p q ≡ found_pair k' t' n' p' q'
    → (k ≡ k') × (t ≡ t') × (n ≡ n') × (p ≡ p') × (q ≡ q')
same_pair h =
    let e = paired_held h in (
      ap (λ (x : Pair). x.key) e,
      ap (λ (x : Pair). x.code) e,
      ap (λ (x : Pair). x.len) e,
      ap (λ (x : Pair). x.place) e,
      ap (λ (x : Pair). x.next) e,
    )
