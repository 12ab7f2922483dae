-- A line cut to one character more than it may have says what the whole line says. Rests on specs/Hexadecimal and on what a long line is.
use mathlib.Core.Path.{◌≡◌, refl, sym, ap, ◌∙◌}
use mathlib.Core.List.{List}
use mathlib.Core.Bool.{Bool, true, false}
use Prim.Native.Nat.{ℕ, ◌<◌}
use native.Mathlib.Omega.{arith}
use lib.Dec.{ltb}
use lib.ListN.{length, take}
use lib.Seq.{take_all, length-take-le}
use borrow.Author.Tests.{ltb-true, ltb-false, ne_eqb}
use Rattle.hexadecimal.specs.Hexadecimal.{facts_of, choice_of, frame_of}
use Rattle.std.specs.Prelude.{None}
use Rattle.hexadecimal.proofs.Choices.{choice_long}
use Rattle.hexadecimal.proofs.Frames.{frame_long}

-- whatever says the same of each line over a length says the same of a line that is cut behind it
cut : {A : Type 0} (f : List ℕ → A) (long : A) (most n : ℕ) (l : List ℕ) → ((x : List ℕ) → most < length x → f x ≡ long) → most < n
    → f (take n l) ≡ f l
cut f long most n l over h = by_length (ltb n (length l)) refl
  where
    by_length : (b : Bool) → ltb n (length l) ≡ b → f (take n l) ≡ f l
    by_length true e =
        let k : n < length l = ltb-true n (length l) e in
        let whole = length-take-le n l (omega arith) in
        over (take n l) (omega (arith, whole)) ∙ sym (over l (omega arith))
    by_length false e = ap f (take_all n l (ltb-false _ _ e))

facts_long : (l : List ℕ) → 32 < length l → facts_of l ≡ None
unfolding facts_of
facts_long l h = rw (ne_eqb (length l) 32 (λ (e : length l ≡ 32). omega arith))

pub facts_cut : (n : ℕ) (l : List ℕ) → 32 < n → facts_of (take n l) ≡ facts_of l
facts_cut n l h = cut facts_of _ 32 n l facts_long h

pub frame_cut : (n : ℕ) (l : List ℕ) → 60000 < n → frame_of (take n l) ≡ frame_of l
frame_cut n l h = cut frame_of _ 60000 n l frame_long h

pub choice_cut : (n : ℕ) (l : List ℕ) → 240000 < n → choice_of (take n l) ≡ choice_of l
choice_cut n l h = cut choice_of _ 240000 n l choice_long h
