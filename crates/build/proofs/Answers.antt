-- Turns that append: from the numbers and the bytes that the code makes them of to the definitions of the turns. Rests on specs/Turns and on
-- the numbers.
use mathlib.Core.Path.{◌≡◌, ◌∙◌, refl, ap, sym}
use mathlib.Core.List.{List, map}
use mathlib.Core.Bool.{Bool, true, false}
use Prim.Native.Nat.{ℕ, ◌<◌}
use native.Mathlib.Omega.{arith}
use lib.Dec.{eqb}
use lib.ListN.{length, length-map}
use Rattle.words.specs.Pick.{pick}
use Rattle.types.specs.declared.Use.TheVariants.{Format, Gt}
use Rattle.vectors.specs.Sound.{most_of}
use Rattle.genotypes.specs.Formats.{role_of}
use Rattle.shown.specs.Shown.{Kind, integers, floats, text, is_integers}
use Rattle.build_append.specs.Append.{first_of}
use Rattle.build_rules.specs.Rules.{gt_number, format_order, format_shape, wrong_allele, wrong_info, wrong_format}
use Rattle.build_rules.specs.Values.{any, given_as, given_number}
use Rattle.build_rules.proofs.Numbers.{count_zero, count_below}
use Rattle.build_append.proofs.Numbers.{first_zero, first_assoc, first_refused, first_eq}
use Rattle.build.specs.Order.{rank}
use Rattle.build.specs.Turns.{info_key, info_rules, format_count, format_front, format_rules}
use Rattle.build.specs.declared.Stage.{Stage}
use Rattle.build.specs.declared.Builder.{Builder}

-- any integers are judged as other elements are
any_most : (k : Kind) → pick (is_integers k) any any ≡ any
any_most integers = refl
any_most floats = refl
any_most text = refl

-- the number of an INFO turn: that before its value, then its elements'
pub info_rules_by : {X : Type 0} (shown : X → ℕ) (st : Builder) (key : ℕ) (kind : Kind) (vs : List X)
    → info_rules st key kind (map shown vs)
    ≡ first_of (info_key st.stage st.infos st.facts.strings key) (given_number (pick (is_integers kind) any any) kind (length vs) (map shown vs))
unfolding info_rules
info_rules_by shown st key kind vs = rw (any_most kind, length-map vs shown)

-- the number of an INFO turn
pub info_number : (st : Builder) (n a b k key m : ℕ) (kind : Kind) (xs : List ℕ) → k ≡ key → m ≡ length xs → n ≡ first_of a b
    → a ≡ info_key st.stage st.infos st.facts.strings k → b ≡ given_number any kind m xs → n ≡ info_rules st key kind xs
unfolding info_rules
info_number st n a b k key m kind xs e f h p q = first_eq n a b _ _ h (rw (← e) p) (rw (← f) q)

-- an allele, an INFO field and a FORMAT field that are taken can be counted
pub allele_below : (rank alleles : ℕ) (xs : List ℕ) → wrong_allele rank alleles xs ≡ 0 → alleles < 65535
unfolding wrong_allele
allele_below rank alleles xs z = count_below _ alleles 65535 _ _ refl z

pub info_below : (s : Stage) (infos strings key : ℕ) → info_key s infos strings key ≡ 0 → infos < 65535
unfolding info_key wrong_info
info_below s infos strings key z = count_below _ infos 65535 _ _ refl z

pub format_below : (st : Builder) (key len m : ℕ) (whole : Bool) → format_front st key whole len m ≡ 0 → st.formats < 255
unfolding format_front wrong_format format_order
format_below st key len m whole z =
    count_zero st.formats 255 (first_zero _ _ (first_zero _ _ (first_zero _ _ z).0).1).1

-- the number of a FORMAT turn: that before its elements, then theirs
front_rules : (st : Builder) (key len : ℕ) (kind : Kind) (xs : List ℕ)
    → first_of (format_front st key (is_integers kind) len (length xs)) (given_number (most_of (role_of key st.facts.gt) st.alleles (given_as kind)) kind len xs)
    ≡ format_rules st key kind len xs
unfolding format_front wrong_format format_rules format_count
front_rules st key len kind xs =
    let f = st.facts in
    let a = format_order (rank st.stage) f.people st.formats in
    first_assoc a _ _ ∙ ap (first_of a) (first_assoc _ _ _)

pub format_number : (st : Builder) (n a b k key len m most : ℕ) (kind : Kind) (xs : List ℕ) → k ≡ key → m ≡ length xs → n ≡ first_of a b
    → a ≡ format_front st k (is_integers kind) len m → b ≡ given_number most kind len xs
    → most ≡ most_of (role_of k st.facts.gt) st.alleles (given_as kind) → n ≡ format_rules st key kind len xs
format_number st n a b k key len m most kind xs e f h p q r =
    first_eq n a b _ _ h (rw (← e, ← f) p) (q ∙ rw (r, e)) ∙ front_rules st key len kind xs

-- GT in something else than integers is refused before its elements are looked at
gt_refused : (st : Builder) (key len m : ℕ) → eqb key st.facts.gt ≡ true → format_front st key false len m ≡ 0 → ⊥
unfolding format_front wrong_format format_shape gt_number
gt_refused st key len m e z =
    let g = (first_zero _ _ (first_zero _ _ (first_zero _ _ z).1).1).0 in
    let k : ◌≡◌ {A = ℕ} 6 0 = rw e at g in
    absurd (omega arith)

plain_most : (st : Builder) (key len m : ℕ) (kind : Kind) (xs : List ℕ)
    → first_of (format_front st key false len m) (given_number any kind len xs)
    ≡ first_of (format_front st key false len m) (given_number (most_of (role_of key st.facts.gt) st.alleles (given_as kind)) kind len xs)
unfolding role_of
plain_most st key len m kind xs = by_key (eqb key st.facts.gt) refl
  where
    by_key : (b : Bool) → eqb key st.facts.gt ≡ b
        → first_of (format_front st key false len m) (given_number any kind len xs)
        ≡ first_of (format_front st key false len m) (given_number (most_of (pick b Gt Format) st.alleles (given_as kind)) kind len xs)
    by_key true e = first_refused _ _ _ (gt_refused st key len m e)
    by_key false e = refl

pub plain_number : (st : Builder) (n a b k key len m : ℕ) (kind : Kind) (xs : List ℕ) → is_integers kind ≡ false → k ≡ key → m ≡ length xs
    → n ≡ first_of a b → a ≡ format_front st k false len m → b ≡ given_number any kind len xs → n ≡ format_rules st key kind len xs
plain_number st n a b k key len m kind xs i e f h p q =
    let g : first_of (format_front st key false len (length xs)) (given_number (most_of (role_of key st.facts.gt) st.alleles (given_as kind)) kind len xs)
    ≡ format_rules st key kind len xs = rw i at (front_rules st key len kind xs) in
    first_eq n a b _ _ h (rw (← e, ← f) p) q ∙ plain_most st key len (length xs) kind xs ∙ g

-- integers alone are held to GT's codes
by_kind : (st : Builder) (key len : ℕ) (kind : Kind) (xs : List ℕ)
    → format_rules st key kind len xs
    ≡ first_of (format_front st key (is_integers kind) len (length xs)) (given_number (pick (is_integers kind) (most_of (role_of key st.facts.gt) st.alleles 3) any) kind len xs)
by_kind st key len integers xs = sym (front_rules st key len integers xs)
by_kind st key len floats xs = sym (plain_most st key len (length xs) floats xs ∙ front_rules st key len floats xs)
by_kind st key len text xs = sym (plain_most st key len (length xs) text xs ∙ front_rules st key len text xs)

pub format_rules_by : {X : Type 0} (shown : X → ℕ) (st : Builder) (key len : ℕ) (kind : Kind) (vs : List X)
    → format_rules st key kind len (map shown vs)
    ≡ first_of (format_front st key (is_integers kind) len (length vs)) (given_number (pick (is_integers kind) (most_of (role_of key st.facts.gt) st.alleles 3) any) kind len (map shown vs))
format_rules_by shown st key len kind vs = rw (length-map vs shown) at (by_kind st key len kind (map shown vs))
