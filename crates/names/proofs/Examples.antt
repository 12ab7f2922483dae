-- Names of a text with ends in order, with ends that fall and with ends past the text: what the definitions say is computed. Rests on specs/Names.
use mathlib.Core.Path.{◌≡◌, refl}
use mathlib.Core.List.{List, [], ◌∷◌}
use Prim.Native.Nat.{ℕ}
use Rattle.names.specs.Names.{before_zero, stretch_of, name_of, name_at}

-- `abcdef`
abbrev pub six : List ℕ
six = 0x61 ∷ 0x62 ∷ 0x63 ∷ 0x64 ∷ 0x65 ∷ 0x66 ∷ []

-- its second end falls, and its second end is past it
abbrev pub falling : List ℕ
falling = 4 ∷ 2 ∷ 6 ∷ []

abbrev pub long : List ℕ
long = 4 ∷ 9 ∷ 6 ∷ []

pub record Worked : Type 0 where
  pub first : name_of six falling 0 ≡ 0x61 ∷ 0x62 ∷ 0x63 ∷ 0x64 ∷ []
  pub fallen : name_of six falling 1 ≡ []
  pub fallen_at : name_at six falling 1 ≡ 4
  pub again : name_of six falling 2 ≡ 0x63 ∷ 0x64 ∷ 0x65 ∷ 0x66 ∷ []
  pub again_at : name_at six falling 2 ≡ 2
  pub before : name_of six long 0 ≡ 0x61 ∷ 0x62 ∷ 0x63 ∷ 0x64 ∷ []
  pub cut : name_of six long 1 ≡ 0x65 ∷ 0x66 ∷ []
  pub none : name_of six long 2 ≡ []
  pub none_at : name_at six long 2 ≡ 6
  pub past : name_of six long 3 ≡ []
  pub far_past : name_of six long 4 ≡ []
  pub stopped : name_of (0x61 ∷ 0 ∷ 0x62 ∷ 0x63 ∷ []) (3 ∷ 4 ∷ []) 0 ≡ 0x61 ∷ []
  pub after_stopped : name_of (0x61 ∷ 0 ∷ 0x62 ∷ 0x63 ∷ []) (3 ∷ 4 ∷ []) 1 ≡ 0x63 ∷ []

pub worked : Worked
unfolding before_zero stretch_of name_of name_at
worked =
    record {
      first = refl;
      fallen = refl;
      fallen_at = refl;
      again = refl;
      again_at = refl;
      before = refl;
      cut = refl;
      none = refl;
      none_at = refl;
      past = refl;
      far_past = refl;
      stopped = refl;
      after_stopped = refl;
    }
