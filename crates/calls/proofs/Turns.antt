-- One turn of each loop: of a person's elements, of people, and of blocks of them. Rests on specs/Engine.
use mathlib.Core.Path.{◌≡◌, refl}
use mathlib.Core.List.{List, [], ◌∷◌, ◌++◌, map}
use Prim.Native.Nat.{ℕ, zero, suc, ◌+◌, ◌*◌, ◌/◌, ◌%◌, ◌<◌, ◌≤◌}
use native.Mathlib.Omega.{arith}
use native.Mathlib.Nat.{div-zero, suc-mul, zero-div}
use lib.ListN.{length}
use lib.Seq.{take_all}
use Rattle.std.specs.Prelude.{Option, None, Some}
use Rattle.words.specs.Words.{number}
use Rattle.words.proofs.Words.{number_part}
use Rattle.types.specs.Elements.{kind}
use Rattle.types.specs.declared.Element.{Element}
use Rattle.types.specs.declared.Element.TheVariants.{Plain, Missing, End, Reserved}
use Rattle.calls.specs.Calls.{before, slots, allele_of, alleles, called, without, no_slot}
use Rattle.calls.specs.Engine.{every, everyone, slotted, raised}
use Rattle.calls.proofs.Chunks.{every_cons, every_end, everyone_append, everyone_cons, everyone_end}
use Rattle.calls.proofs.Counters.{raised_append, raised_none}
use Rattle.calls.proofs.Laws.{called_append, without_append}

-- one where a person's slots end at once
abbrev pub ends : Option ℕ → ℕ
ends None = 1
ends (Some a) = 0

-- a slot's allele before those of the rest
abbrev pub calls : Option ℕ → List ℕ → List ℕ
calls None rest = []
calls (Some a) rest = a ∷ rest

pub none_cons : (t x : ℕ) (xs : List ℕ) → no_slot (slots t (x ∷ xs)) ≡ ends (slotted (kind t x) x)
unfolding slots
none_cons t x xs = by_kind (kind t x) (slots t xs)
  where
    by_kind : (k : Element) (rest : List ℕ) → no_slot (before k x rest) ≡ ends (slotted k x)
    by_kind End rest = refl
    by_kind Missing rest = refl
    by_kind Plain rest = refl
    by_kind Reserved rest = refl

pub alleles_cons : (t x : ℕ) (xs : List ℕ) → alleles t (x ∷ xs) ≡ calls (slotted (kind t x) x) (alleles t xs)
unfolding alleles allele_of slots
alleles_cons t x xs = by_kind (kind t x) refl
  where
    by_kind : (k : Element) → kind t x ≡ k → map (allele_of t) (before k x (slots t xs)) ≡ calls (slotted k x) (map (allele_of t) (slots t xs))
    by_kind End e = refl
    by_kind Missing e = rw e
    by_kind Plain e = rw e
    by_kind Reserved e = rw e

-- one element of w bytes before the rest of a person
pub person_turn : (t w : ℕ) (s x rest : List ℕ) → 0 < w → w ≤ 4 → s ≡ x ++ rest → length x ≡ w
    → (no_slot (slots t (every w s)) ≡ ends (slotted (kind t (number 4 x)) (number 4 x)))
    × (alleles t (every w s) ≡ calls (slotted (kind t (number 4 x)) (number 4 x)) (alleles t (every w rest)))
person_turn t w s x rest p q e h =
    let n : number 4 x ≡ number w x = rw (take_all w x (omega arith)) at (number_part w x q) in
    let c : every w s ≡ number 4 x ∷ every w rest = rw (e, n) (every_cons w x rest p h) in
    (rw c (none_cons t _ _), rw c (alleles_cons t _ _))

-- nothing is left of a person
pub person_end : (t w : ℕ) (s : List ℕ) → length s < w → (no_slot (slots t (every w s)) ≡ 1) × (alleles t (every w s) ≡ [])
unfolding slots alleles
person_end t w s h = rw (every_end w s h) (refl, refl)

-- one person before the rest of them
pub people_turn : (t w len : ℕ) (s x rest cs : List ℕ) → 0 < w → 0 < len * w → s ≡ x ++ rest → length x ≡ len * w
    → (without t (everyone w len s) ≡ no_slot (slots t (every w x)) + without t (everyone w len rest))
    × (raised 0 cs (called t (everyone w len s)) ≡ raised 0 (raised 0 cs (alleles t (every w x))) (called t (everyone w len rest)))
unfolding called without
people_turn t w len s x rest cs p q e h =
    let c : everyone w len s ≡ every w x ∷ everyone w len rest = rw e (everyone_cons w len x rest p q h) in
    (rw c, rw (c, raised_append))

-- a block of people before the rest of them
pub block_turn : (t w len : ℕ) (s x rest cs : List ℕ) → 0 < len * w → s ≡ x ++ rest → length x % (len * w) ≡ 0
    → (without t (everyone w len s) ≡ without t (everyone w len x) + without t (everyone w len rest))
    × (raised 0 cs (called t (everyone w len s)) ≡ raised 0 (raised 0 cs (called t (everyone w len x))) (called t (everyone w len rest)))
block_turn t w len s x rest cs p e h =
    let c : everyone w len s ≡ everyone w len x ++ everyone w len rest = rw e (everyone_append w len x rest p h) in
    (rw (c, without_append), rw (c, called_append, raised_append))

-- nobody is left
pub people_end : (t w len : ℕ) (s cs : List ℕ) → length s < len * w → (without t (everyone w len s) ≡ 0) × (raised 0 cs (called t (everyone w len s)) ≡ cs)
unfolding called without
people_end t w len s cs h = rw (everyone_end w len s h) (refl, raised_none 0 cs)

-- where there are people, an element has a width
pub some_width : (m w len n : ℕ) → 0 < n → n ≤ m / w / len → 0 < w
some_width m zero len n p h = let q = rw (div-zero m, zero-div len) at h in absurd (omega (arith, q))
some_width m (suc w) len n p h = omega arith

-- where there is anyone, elements have a width and vectors a length
pub some_size : (m w len : ℕ) → 0 < m / w / len → 0 < len * w
some_size m zero len p = let q = rw (div-zero m, zero-div len) at p in absurd (omega (arith, q))
some_size m (suc w) zero p = let q = rw (div-zero (m / suc w)) at p in absurd (omega (arith, q))
some_size m (suc w) (suc len) p = omega (arith, suc-mul len (suc w))
