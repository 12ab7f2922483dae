-- Vectors that reading judged sound, once they are shown: no builder's rule is against them, and they take no wider type. Rests on proofs/Elements
-- and on the definitions of vectors and build_given.
use mathlib.Core.Path.{◌≡◌, refl, ap}
use mathlib.Core.Logic.{◌≢◌}
use mathlib.Core.List.{List, [], ◌∷◌, map}
use mathlib.Core.Bool.{Bool, true, false}
use Prim.Native.Nat.{ℕ, zero, suc, ◌+◌, ◌*◌, ◌/◌, ◌^◌, ◌<◌, ◌≤◌}
use native.Mathlib.Omega.{arith}
use native.Mathlib.Nat.{zero-add, suc-add, suc-mul, zero-mul, mul-zero, mul-div_cancel}
use lib.Dec.{ltb}
use lib.ListN.{length, take, drop, length-drop, length-map}
use lib.Seq.{length-take-le, drop-drop}
use borrow.Author.Tests.{ltb-false, le-ltb}
use Rattle.words.specs.Words.{number, Bytes}
use Rattle.words.proofs.Words.{le_bound}
use Rattle.types.specs.Rows.{width_of}
use Rattle.types.specs.Elements.{kind, shown}
use Rattle.types.specs.declared.Use.{Use}
use Rattle.types.specs.declared.Element.{Element}
use Rattle.types.specs.declared.Element.TheVariants.{Plain, Missing, End, Reserved}
use Rattle.vectors.specs.Sound.{most_of}
use Rattle.vectors.specs.Vectors.{numbers, element_turn, follow, vector, vectors, judged, Sound}
use Rattle.encode.specs.Encode.{type_for}
use Rattle.shown.specs.Shown.{kind_of}
use Rattle.build_given.specs.Given.{vectors_given, elements_number}
use Rattle.build_rules.specs.Values.{given_as}
use Rattle.build_laws.specs.Records.{All, Fit}
use Rattle.choose_laws.proofs.Judging.{both_sound}
use Rattle.choose_laws.proofs.Stored.{Bytes_drop, Bytes_take}
use Rattle.values.specs.Answers.{Answer}
use Rattle.keeps_laws.proofs.Elements.{Shows, shows, shown_fits}

-- numbers of bytes are of their width
pub number_bound : (w : ℕ) (l : List ℕ) → Bytes l → w ≤ length l → number w l < 256 ^ w
unfolding number
number_bound w l b h = rw (length-take-le w l h) at (le_bound (take w l) (Bytes_take w l b))

pub numbers_bound : (w n : ℕ) (l : List ℕ) → Bytes l → n * w ≤ length l → All (λ y. y < 256 ^ w) (numbers w n l)
unfolding numbers
numbers_bound w zero l b h = tt
numbers_bound w (suc n) l b h =
    let e = suc-mul n w in
    (number_bound w l b (omega arith), numbers_bound w n (drop w l) (Bytes_drop w l b) (rw length-drop (omega arith)))

pub length_numbers : (w n : ℕ) (l : List ℕ) → length (numbers w n l) ≡ n
unfolding numbers
length_numbers w zero l = refl
length_numbers w (suc n) l = ap suc (length_numbers w n (drop w l))

-- the first of some numbers, and those after them
take_numbers : (w n k : ℕ) (l : List ℕ) → take n (numbers w (n + k) l) ≡ numbers w n l
unfolding numbers
take_numbers w zero k l = refl
take_numbers w (suc n) k l = rw (suc-add n k, take_numbers w n k (drop w l))

drop_numbers : (w n k : ℕ) (l : List ℕ) → drop n (numbers w (n + k) l) ≡ numbers w k (drop (n * w) l)
unfolding numbers
drop_numbers w zero k l = rw (zero-add k, zero-mul w)
drop_numbers w (suc n) k l =
    let e : suc n * w ≡ w + n * w = omega (arith, suc-mul n w) in
    rw (suc-add n k, e, ← drop-drop (n * w) w l) (drop_numbers w n k (drop w l))

-- what holds of the first ones and of the others holds of all
all_parts : (P : ℕ → Type 0) (n : ℕ) (ys : List ℕ) → All P (take n ys) → All P (drop n ys) → All P ys
all_parts P zero ys h k = k
all_parts P (suc n) [] h k = tt
all_parts P (suc n) (y ∷ ys) h k = (h.0, all_parts P n ys h.1 k)

all_take : (P : ℕ → Type 0) (n : ℕ) (ys : List ℕ) → All P ys → All P (take n ys)
all_take P zero ys h = tt
all_take P (suc n) [] h = tt
all_take P (suc n) (y ∷ ys) h = (h.0, all_take P n ys h.1)

all_drop : (P : ℕ → Type 0) (n : ℕ) (ys : List ℕ) → All P ys → All P (drop n ys)
all_drop P zero ys h = h
all_drop P (suc n) [] h = tt
all_drop P (suc n) (y ∷ ys) h = all_drop P n ys h.1

all_map : (P Q : ℕ → Type 0) (f : ℕ → ℕ) → ((y : ℕ) → P y → Q (f y)) → (ys : List ℕ) → All P ys → All Q (map f ys)
all_map P Q f on [] h = tt
all_map P Q f on (y ∷ ys) h = (on y h.0, all_map P Q f on ys h.1)

all_both : (P Q R : ℕ → Type 0) → ((y : ℕ) → P y → Q y → R y) → (ys : List ℕ) → All P ys → All Q ys → All R ys
all_both P Q R on [] h k = tt
all_both P Q R on (y ∷ ys) h k = (on y h.0 k.0, all_both P Q R on ys h.1 k.1)

take_map : (f : ℕ → ℕ) (n : ℕ) (ys : List ℕ) → take n (map f ys) ≡ map f (take n ys)
take_map f zero ys = refl
take_map f (suc n) [] = refl
take_map f (suc n) (y ∷ ys) = ap (λ l. f y ∷ l) (take_map f n ys)

drop_map : (f : ℕ → ℕ) (n : ℕ) (ys : List ℕ) → drop n (map f ys) ≡ map f (drop n ys)
drop_map f zero ys = refl
drop_map f (suc n) [] = refl
drop_map f (suc n) (y ∷ ys) = drop_map f n ys

-- a sound vector has no reserved pattern
vector_plain : (most t w at : ℕ) (e : Bool) (ys : List ℕ) → vector most t w at e ys ≡ Sound → All (λ y. kind t y ≢ Reserved) ys
unfolding vector
vector_plain most t w at e [] h = tt
vector_plain most t w at e (y ∷ ys) h = by_kind (kind t y) refl e h (λ b. vector_plain most t w (at + w) b ys)
  where
    rest : Bool → Answer (Unit {0})
    rest b = vector most t w (at + w) b ys

    by_kind : (k : Element) → kind t y ≡ k → (b : Bool) → follow at (element_turn most b k y) rest ≡ Sound
        → ((b : Bool) → rest b ≡ Sound → All (λ y. kind t y ≢ Reserved) ys) → (kind t y ≢ Reserved) × All (λ y. kind t y ≢ Reserved) ys
    by_kind End p b s on = (λ r. let z : ◌≡◌ {A = ℕ} 0 1 = cc in omega arith, on true s)
    by_kind Reserved p b s on = let z : ◌≡◌ {A = ℕ} 0 1 = cc in absurd (omega arith)
    by_kind Missing p true s on = let z : ◌≡◌ {A = ℕ} 0 1 = cc in absurd (omega arith)
    by_kind Missing p false s on = (λ r. let z : ◌≡◌ {A = ℕ} 0 1 = cc in omega arith, on false s)
    by_kind Plain p true s on = let z : ◌≡◌ {A = ℕ} 0 1 = cc in absurd (omega arith)
    by_kind Plain p false s on = by_most (ltb most y) refl
      where
        by_most : (q : Bool) → ltb most y ≡ q → (kind t y ≢ Reserved) × All (λ y. kind t y ≢ Reserved) ys
        by_most true g = let x = rw g at s in let z : ◌≡◌ {A = ℕ} 0 1 = cc in absurd (omega arith)
        by_most false g = (λ r. let z : ◌≡◌ {A = ℕ} 0 1 = cc in omega arith, on false (rw g at s))

-- and is sound as it is shown
vector_shown : (t g w w' at at' alleles : ℕ) (role : Use) (e : Bool) (ys : List ℕ) → All (Shows t g) ys
    → vector (most_of role alleles t) t w at e ys ≡ Sound → vector (most_of role alleles g) g w' at' e (map (shown t) ys) ≡ Sound
unfolding vector
vector_shown t g w w' at at' alleles role e [] f h = refl
vector_shown t g w w' at at' alleles role e (y ∷ ys) f h =
    rw f.0.same (by_kind (kind t y) e h (λ b. vector_shown t g w w' (at + w) (at' + w') alleles role b ys f.1))
  where
    held : Bool → Answer (Unit {0})
    held b = vector (most_of role alleles t) t w (at + w) b ys

    given : Bool → Answer (Unit {0})
    given b = vector (most_of role alleles g) g w' (at' + w') b (map (shown t) ys)

    by_kind : (k : Element) (b : Bool) → follow at (element_turn (most_of role alleles t) b k y) held ≡ Sound → ((b : Bool) → held b ≡ Sound → given b ≡ Sound)
        → follow at' (element_turn (most_of role alleles g) b k (shown t y)) given ≡ Sound
    by_kind End b s on = on true s
    by_kind Reserved b s on = cc
    by_kind Missing true s on = cc
    by_kind Missing false s on = on false s
    by_kind Plain true s on = cc
    by_kind Plain false s on = by_most (ltb (most_of role alleles t) y) refl
      where
        by_most : (q : Bool) → ltb (most_of role alleles t) y ≡ q → follow at' (element_turn (most_of role alleles g) false Plain (shown t y)) given ≡ Sound
        by_most true p = let z = rw p at s in cc
        by_most false p =
            let i = f.0.under role alleles (ltb-false (most_of role alleles t) y p) in
            rw (le-ltb (most_of role alleles g) (shown t y) i) (on false (rw p at s))

-- so many vectors
vectors_plain : (most t w len n at : ℕ) (l : List ℕ) → vectors most t w len n at l ≡ Sound → All (λ y. kind t y ≢ Reserved) (numbers w (n * len) l)
unfolding vectors numbers
vectors_plain most t w len zero at l h = rw (zero-mul len) tt
vectors_plain most t w len (suc n) at l h =
    let e : suc n * len ≡ len + n * len = omega (arith, suc-mul n len) in
    let b = both_sound (vector most t w at false (numbers w len l)) _ h in
    rw e (all_parts (λ y. kind t y ≢ Reserved) len (numbers w (len + n * len) l)
    (rw (take_numbers w len (n * len) l) (vector_plain most t w at false (numbers w len l) b.0))
    (rw (drop_numbers w len (n * len) l) (vectors_plain most t w len n (at + len * w) (drop (len * w) l) b.1)))

vectors_shown : (t g w len n at alleles : ℕ) (role : Use) (l : List ℕ) → All (Shows t g) (numbers w (n * len) l)
    → vectors (most_of role alleles t) t w len n at l ≡ Sound
    → vectors_given (most_of role alleles g) g len n (map (shown t) (numbers w (n * len) l)) ≡ Sound
unfolding vectors vectors_given
vectors_shown t g w len zero at alleles role l f h = refl
vectors_shown t g w len (suc n) at alleles role l f h =
    let e : suc n * len ≡ len + n * len = omega (arith, suc-mul n len) in
    let b = both_sound (vector (most_of role alleles t) t w at false (numbers w len l)) _ h in
    let ys = numbers w (len + n * len) l in
    let k : All (Shows t g) ys = rw e at f in
    rw (
      e,
      take_map (shown t) len ys,
      drop_map (shown t) len ys,
      take_numbers w len (n * len) l,
      drop_numbers w len (n * len) l,
      vector_shown t g w 0 at 0 alleles role false (numbers w len l) (rw (take_numbers w len (n * len) l) at (all_take (Shows t g) len ys k)) b.0,
    )
    (vectors_shown t g w len n (at + len * w) alleles role (drop (len * w) l)
    (rw (drop_numbers w len (n * len) l) at (all_drop (Shows t g) len ys k)) b.1)

-- so many vectors of a length are whole
whole_vectors : (p len count : ℕ) → count ≡ p * len → count / len * len ≡ count
whole_vectors p zero count e = rw (mul-zero (count / 0)) (omega (arith, mul-zero p))
whole_vectors p (suc len) count e = let q : 0 < suc len = omega arith in rw (e, mul-div_cancel p q)

-- the law: the elements of a sound part, as they are shown
pub record Given (t len alleles : ℕ) (role : Use) (xs : List ℕ) : Type 0 where
  pub rules : elements_number (most_of role alleles (given_as (kind_of t))) (given_as (kind_of t)) len xs ≡ 0
  pub takes : given_as (kind_of t) ≡ 3 → All (λ x. type_for (kind 3 x) x ≤ t) xs

pub judged_given : (t len p count alleles : ℕ) (role : Use) (l : List ℕ) → 0 < width_of t → Bytes l → length l ≡ count * width_of t → count ≡ p * len
    → judged (most_of role alleles t) t len l ≡ Sound → Given t len alleles role (map (shown t) (numbers (width_of t) count l))
unfolding judged elements_number
judged_given t len p count alleles role l wide b size c h =
    let w = width_of t in
    let g = given_as (kind_of t) in
    let ys = numbers w count l in
    let many : length l / w ≡ count = rw size (mul-div_cancel count wide) in
    let whole = whole_vectors p len count c in
    let sound : vectors (most_of role alleles t) t w len (count / len) 0 l ≡ Sound = rw many at h in
    let plain : All (λ y. kind t y ≢ Reserved) ys = rw whole at (vectors_plain (most_of role alleles t) t w len (count / len) 0 l sound) in
    let each : All (Shows t g) ys =
    all_both (λ y. y < 256 ^ w) (λ y. kind t y ≢ Reserved) (Shows t g) (shows t wide) ys (numbers_bound w count l b (omega arith)) plain in
    let given = rw whole at (vectors_shown t g w len (count / len) 0 alleles role l (rw whole each) sound) in
    record {
      rules = rw (length-map ys (shown t), length_numbers w count l, given);
      takes = λ e. all_map (Shows t g) (λ x. type_for (kind 3 x) x ≤ t) (shown t) (λ y s. s.takes e) ys each;
    }

-- whatever they are, they are of 32 bits, or bytes of text
pub numbers_fit : (t count : ℕ) (l : List ℕ) → 0 < width_of t → Bytes l → count * width_of t ≤ length l
    → Fit (kind_of t) (map (shown t) (numbers (width_of t) count l))
numbers_fit t count l wide b h = all_map _ _ (shown t) (shown_fits t wide) (numbers (width_of t) count l) (numbers_bound (width_of t) count l b h)
