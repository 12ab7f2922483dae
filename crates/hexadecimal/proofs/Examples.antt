-- Small lines, worked: what the definitions say of them is computed. Rests on specs/Hexadecimal.
use mathlib.Core.Path.{◌≡◌, refl}
use mathlib.Core.List.{[], ◌∷◌, ◌++◌}
use mathlib.Core.Option.{none, some}
use lib.ListN.{replicate}
use Rattle.hexadecimal.specs.Hexadecimal.{digit, digits, byte, line_bytes, big, facts_of, eights, choice_of, frame_of}
use Rattle.std.specs.Prelude.{Some, None}

pub record Worked : Type 0 where
  -- `0aF9`
  pub two_bytes : frame_of (0x30 ∷ 0x61 ∷ 0x46 ∷ 0x39 ∷ []) ≡ some (0x0A ∷ 0xF9 ∷ [])
  pub no_digit : frame_of [] ≡ some []
  -- `0a1`
  pub odd : frame_of (0x30 ∷ 0x61 ∷ 0x31 ∷ []) ≡ none
  -- `0g`
  pub other : frame_of (0x30 ∷ 0x67 ∷ []) ≡ none
  -- 7 zeros and `5`, 6 zeros and `1F`, `FFFFFFFF`, 8 zeros
  pub facts
      : facts_of (replicate 7 0x30 ++ 0x35 ∷ replicate 6 0x30 ++ 0x31 ∷ 0x46 ∷ replicate 8 0x46 ++ replicate 8 0x30)
      ≡ Some (record { strings = 5; contigs = 31; people = 0xFFFFFFFF; gt = 0 })
  pub short : facts_of (replicate 31 0x30) ≡ None
  -- 31 zeros and `g`
  pub another : facts_of (replicate 31 0x30 ++ 0x67 ∷ []) ≡ None
  -- 7 zeros and `1`, 6 zeros and `1f`
  pub two_people : choice_of (replicate 7 0x30 ++ 0x31 ∷ replicate 6 0x30 ++ 0x31 ∷ 0x66 ∷ []) ≡ some (1 ∷ 31 ∷ [])
  pub nobody : choice_of [] ≡ some []
  pub half_person : choice_of (replicate 12 0x30) ≡ none
  -- 7 zeros and `g`
  pub no_person : choice_of (replicate 7 0x30 ++ 0x67 ∷ []) ≡ none

pub worked : Worked
unfolding digit digits byte line_bytes big facts_of eights choice_of frame_of
worked =
    record {
      two_bytes = refl;
      no_digit = refl;
      odd = refl;
      other = refl;
      facts = refl;
      short = refl;
      another = refl;
      two_people = refl;
      nobody = refl;
      half_person = refl;
      no_person = refl;
    }
