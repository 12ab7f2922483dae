-- What two answers that are one hold: what they hold is one, field by field.
use mathlib.Core.Path.{◌≡◌, ap}
use Prim.Native.Nat.{ℕ}
use Rattle.std.specs.Prelude.{Ok}
use Rattle.values.specs.Answers.{Answer, one, typed, whole}
use Rattle.values.specs.declared.Descriptor.{Descriptor}
use Rattle.values.specs.declared.Integer.{Integer}
use Rattle.values.specs.declared.Value.{Value}

pub held : {A : Type 0} {x y : A} → ◌≡◌ {A = Answer A} (Ok x) (Ok y) → x ≡ y
held h = cc

pub same_one : {x y p q : ℕ} → one x p ≡ one y q → (x ≡ y) × (p ≡ q)
same_one h = let e = held h in (ap (λ (i : Integer). i.bits) e, ap (λ (i : Integer). i.next) e)

pub same_typed : {t t' n n' p q : ℕ} → typed t n p ≡ typed t' n' q → (t ≡ t') × (n ≡ n') × (p ≡ q)
same_typed h =
    let e = held h in
    (ap (λ (d : Descriptor). d.code) e, ap (λ (d : Descriptor). d.len) e, ap (λ (d : Descriptor). d.first) e)

pub same_whole : {t t' n n' p p' q q' : ℕ} → whole t n p q ≡ whole t' n' p' q' → (t ≡ t') × (n ≡ n') × (p ≡ p') × (q ≡ q')
same_whole h =
    let e = held h in (
      ap (λ (v : Value). v.code) e,
      ap (λ (v : Value). v.len) e,
      ap (λ (v : Value). v.first) e,
      ap (λ (v : Value). v.stop) e,
    )
