-- Values that are there, as they are shown: they are written in no more bytes than they stand in, and where they were sound no builder's rule is
-- against them. Rests on proofs/Descriptors and Vectors, and on fetch_laws' and contents' laws of what is there.
use mathlib.Core.Path.{◌≡◌, refl, ◌∙◌, sym, ap}
use mathlib.Core.List.{List, [], ◌∷◌, map}
use mathlib.Core.Bool.{Bool, true, false}
use Prim.Native.Nat.{ℕ, ◌+◌, ◌-◌, ◌*◌, ◌/◌, ◌^◌, ◌<◌, ◌≤◌}
use native.Mathlib.Omega.{arith}
use native.Mathlib.Nat.{mul-zero, zero-div, zero-mul, mul-div_cancel, mul-le-mul_left}
use lib.Dec.{eqb}
use lib.ListN.{length, take, drop, length-drop, length-map}
use lib.Seq.{length-take-le, take_all}
use borrow.Author.Tests.{eqb-true, ne_eqb}
use Rattle.words.specs.Pick.{pick}
use Rattle.words.specs.Words.{le, number, Bytes}
use Rattle.types.specs.Rows.{row_of, width_of}
use Rattle.types.specs.Elements.{kind, shown}
use Rattle.types.specs.declared.Use.{Use}
use Rattle.types.specs.declared.Use.TheVariants.{Id, Allele, Filter, Gt}
use Rattle.types.proofs.Table.{whole as whole_number, or_bare, rows_rule}
use Rattle.values.specs.Values.{present}
use Rattle.vectors.specs.Vectors.{numbers, judged, elements_of, Sound}
use Rattle.vectors.specs.Sound.{most_of}
use Rattle.encode.specs.Encode.{type_for, widest}
use Rattle.encode.proofs.Lengths.{length_value_bytes}
use Rattle.shown.specs.Shown.{integers, kind_of}
use Rattle.build_given.specs.Given.{vectors_given, elements_number}
use Rattle.shown.specs.Values.{written_as, given_bytes}
use Rattle.build_rules.specs.Values.{given_as, given_number}
use Rattle.fetch_laws.proofs.Fronts.{numbers_take, shown_numbers_numbers}
use Rattle.fetch_laws.proofs.Present.{There as Found, present_typed}
use Rattle.contents.proofs.Bare.{wide_type, present_zero}
use Rattle.contents.proofs.Elements.{elements_of_none}
use Rattle.build_laws.specs.Records.{All, Fit}
use Rattle.build_laws.proofs.Widths.{widest_types, type_for_narrowest}
use Rattle.choose_laws.proofs.Stored.{Bytes_drop, Bytes_take}
use Rattle.keeps_laws.proofs.Elements.{by_wide, narrowest_shown, width_under, widest_under}
use Rattle.keeps_laws.proofs.Vectors.{numbers_bound, length_numbers, judged_given, numbers_fit}
use Rattle.values.specs.Answers.{whole}
use Rattle.keeps_laws.proofs.Descriptors.{whole_types, Stands, empty, filled, Described, described_long}

-- the type that elements are written in is no wider than the one that takes each
width_written : (t : ℕ) (xs : List ℕ) → 0 < width_of t → (given_as (kind_of t) ≡ 3 → All (λ x. type_for (kind 3 x) x ≤ t) xs)
    → width_of (written_as (kind_of t) xs) ≤ width_of t
width_written t xs w f =
    by_wide (λ t. (given_as (kind_of t) ≡ 3 → All (λ x. type_for (kind 3 x) x ≤ t) xs) → width_of (written_as (kind_of t) xs) ≤ width_of t)
    (λ f. under 1 (omega arith) (omega arith) (f refl)) (λ f. under 2 (omega arith) (omega arith) (f refl)) (λ f. under 3 (omega arith) (omega arith) (f refl))
    (λ f. omega arith) (λ f. omega arith) t w f
  where
    under : (t : ℕ) → 0 < t → t ≤ 3 → All (λ x. type_for (kind 3 x) x ≤ t) xs → width_of (widest xs) ≤ width_of t
    under t h k g = width_under (widest xs) t (widest_types xs).0 (widest_under t xs h g) k

-- the elements of a value that is there
abbrev pub elements_from : ℕ → List ℕ → ℕ → ℕ → ℕ → List ℕ
elements_from at l t first stop = elements_of t (stop - first) (drop (first - at) l)

elements_none : (at : ℕ) (l : List ℕ) (t first : ℕ) → elements_from at l t first first ≡ []
elements_none at l t first = let e : first - first ≡ 0 = omega arith in rw e (elements_of_none t (drop (first - at) l))

-- the bytes of its elements
record Part (at : ℕ) (l : List ℕ) (t count first stop : ℕ) : Type 0 where
  bytes : Bytes (take (stop - first) (drop (first - at) l))
  size : length (take (stop - first) (drop (first - at) l)) ≡ count * width_of t
  same : elements_from at l t first stop ≡ map (shown t) (numbers (width_of t) count (take (stop - first) (drop (first - at) l)))

part_there : (at : ℕ) (l : List ℕ) (t count first stop : ℕ) → 0 < width_of t → Bytes l → at ≤ first → stop ≡ first + count * width_of t
    → stop ≤ at + length l → Part at l t count first stop
unfolding elements_of
part_there at l t count first stop w b h e i =
    let rest = drop (first - at) l in
    let k : stop - first ≡ count * width_of t = omega arith in
    let m : stop - first ≤ length rest = rw length-drop (omega arith) in
    let n : (stop - first) / width_of t ≡ count = rw k (mul-div_cancel count w) in
    let size : length (take (stop - first) rest) ≡ count * width_of t = length-take-le (stop - first) rest m ∙ k in
    let same : take (count * width_of t) rest ≡ take (count * width_of t) (take (stop - first) rest) =
    ap (λ q. take q rest) (sym k) ∙ sym (take_all (count * width_of t) (take (stop - first) rest) (omega arith)) in
    record {
      bytes = Bytes_take (stop - first) rest (Bytes_drop (first - at) l b);
      size = size;
      same = rw (n, shown_numbers_numbers t (width_of t) count rest, numbers_take (width_of t) count rest (take (stop - first) rest) same);
    }

-- the law: a value that is there has as many elements as its vectors have, each of 32 bits or a byte of text; and where they take no wider type it is
-- written in no more bytes than it stands in
pub record ValueThere (vectors at : ℕ) (l : List ℕ) (t n first stop : ℕ) : Type 0 where
  pub count : length (elements_from at l t first stop) ≡ vectors * n
  pub fit : Fit (kind_of t) (elements_from at l t first stop)
  pub long : (given_as (kind_of t) ≡ 3 → All (λ x. type_for (kind 3 x) x ≤ t) (elements_from at l t first stop))
      → length (given_bytes (kind_of t) n (elements_from at l t first stop)) + length (drop (stop - at) l) ≤ length l

pub value_there : (vectors : ℕ) (role : Use) (at : ℕ) (l : List ℕ) (t n first stop : ℕ) → present vectors role at l ≡ whole t n first stop → Bytes l
    → ValueThere vectors at l t n first stop
unfolding given_bytes
value_there vectors role at l t n first stop h b =
    by_type d.there
  where
    i : Found vectors role at l t n first stop
    i = present_typed vectors role at l t n first stop h

    d : Described role at t n first
    d = described_long role at l t n first i.descriptor b

    by_type : Stands t n → ValueThere vectors at l t n first stop
    by_type (empty e z) =
        let p = present_zero vectors role at l n first stop (rw e at h) in
        let none : elements_from at l t first stop ≡ [] = rw p.1 (elements_none at l t first) in
        let inside = i.inside in
        let same = p.1 in
        record {
          count = rw (none, z, mul-zero vectors);
          fit = rw none tt;
          long = λ f.
              let u = written_as (kind_of t) [] in
              rw (none, length_value_bytes u n [], length-drop (stop - at) l) (omega (arith, d.long 0, zero-mul (width_of u)));
        }
    by_type (filled w) =
        let ends = i.ends in
        let later = i.later in
        let inside = i.inside in
        let p = part_there at l t (vectors * n) first stop w b later ends inside in
        let part = take (stop - first) (drop (first - at) l) in
        let ys = numbers (width_of t) (vectors * n) part in
        let size = p.size in
        let count : length (elements_from at l t first stop) ≡ vectors * n = rw (p.same, length-map ys (shown t), length_numbers (width_of t) (vectors * n) part) in
        let xs = elements_from at l t first stop in
        record {
          count = count;
          fit = rw p.same (numbers_fit t (vectors * n) part w p.bytes (omega arith));
          long = λ f.
              let short = mul-le-mul_left (vectors * n) (width_written t xs w f) in
              rw (length_value_bytes (written_as (kind_of t) xs) n xs, count, length-drop (stop - at) l) (omega (arith, d.long 0));
        }

-- and where its elements were judged sound, no rule is against them
pub record ValueKeeps (vectors alleles : ℕ) (role : Use) (at : ℕ) (l : List ℕ) (t n first stop : ℕ) : Type 0 where
  pub value : ValueThere vectors at l t n first stop
  pub rules : given_number (most_of role alleles (given_as (kind_of t))) (kind_of t) n (elements_from at l t first stop) ≡ 0
  pub long : length (given_bytes (kind_of t) n (elements_from at l t first stop)) + length (drop (stop - at) l) ≤ length l

pub value_keeps : (vectors alleles : ℕ) (role : Use) (at : ℕ) (l : List ℕ) (t n first stop : ℕ) → present vectors role at l ≡ whole t n first stop → Bytes l
    → judged (most_of role alleles t) t n (take (stop - first) (drop (first - at) l)) ≡ Sound → ValueKeeps vectors alleles role at l t n first stop
unfolding given_number elements_number vectors_given
value_keeps vectors alleles role at l t n first stop h b j = by_type (described_long role at l t n first i.descriptor b).there
  where
    i : Found vectors role at l t n first stop
    i = present_typed vectors role at l t n first stop h

    v : ValueThere vectors at l t n first stop
    v = value_there vectors role at l t n first stop h b

    by_type : Stands t n → ValueKeeps vectors alleles role at l t n first stop
    by_type (empty e z) =
        let p = present_zero vectors role at l n first stop (rw e at h) in
        let none : elements_from at l t first stop ≡ [] = rw p.1 (elements_none at l t first) in
        record {
          value = v;
          rules = rw (none, zero-div n);
          long = v.long (λ k. rw none tt);
        }
    by_type (filled w) =
        let p = part_there at l t (vectors * n) first stop w b i.later i.ends i.inside in
        let g = judged_given t n vectors (vectors * n) alleles role (take (stop - first) (drop (first - at) l)) w p.bytes p.size refl j in
        record {
          value = v;
          rules = rw p.same g.rules;
          long = v.long (λ k. rw p.same (g.takes k));
        }

-- ID and alleles are text; FILTER and GT are integers, a bare 00 too
described_there : (vectors : ℕ) (role : Use) (at : ℕ) (l : List ℕ) (t n first stop : ℕ) → present vectors role at l ≡ whole t n first stop → Bytes l
    → Described role at t n first
described_there vectors role at l t n first stop h b =
    described_long role at l t n first (present_typed vectors role at l t n first stop h).descriptor b

pub id_text : (vectors at : ℕ) (l : List ℕ) (t n first stop : ℕ) → present vectors Id at l ≡ whole t n first stop → Bytes l → t ≡ 7
id_text vectors at l t n first stop h b =
    let d = described_there vectors Id at l t n first stop h b in
    eqb-true t 7 (sym (rows_rule t d.code).id ∙ d.fits)

pub allele_text : (vectors at : ℕ) (l : List ℕ) (t n first stop : ℕ) → present vectors Allele at l ≡ whole t n first stop → Bytes l → t ≡ 7
allele_text vectors at l t n first stop h b =
    let d = described_there vectors Allele at l t n first stop h b in
    eqb-true t 7 (sym (rows_rule t d.code).allele ∙ d.fits)

integers_kind : (t : ℕ) → t ≤ 3 → kind_of t ≡ integers
integers_kind t h = rw (ne_eqb t 7 (λ e. omega arith), ne_eqb t 5 (λ e. omega arith))

bare_types : (t : ℕ) → or_bare t (whole_number t) ≡ true → t ≤ 3
bare_types t h = by-test (eqb t 0) refl h
  where
    by-test : (b : Bool) → eqb t 0 ≡ b → pick b true (whole_number t) ≡ true → t ≤ 3
    by-test true p e = omega (arith, eqb-true t 0 p)
    by-test false p e = (whole_types t e).1

pub filter_types : (vectors at : ℕ) (l : List ℕ) (t n first stop : ℕ) → present vectors Filter at l ≡ whole t n first stop → Bytes l
    → (t ≤ 3) × (kind_of t ≡ integers)
filter_types vectors at l t n first stop h b =
    let d = described_there vectors Filter at l t n first stop h b in
    let e = bare_types t (sym (rows_rule t d.code).filter ∙ d.fits) in
    (e, integers_kind t e)

pub gt_types : (vectors at : ℕ) (l : List ℕ) (t n first stop : ℕ) → present vectors Gt at l ≡ whole t n first stop → Bytes l → kind_of t ≡ integers
gt_types vectors at l t n first stop h b =
    let d = described_there vectors Gt at l t n first stop h b in
    integers_kind t (bare_types t (sym (rows_rule t d.code).gt ∙ d.fits))

-- text is shown as its bytes
numbers_one : (l : List ℕ) → map (shown 7) (numbers 1 (length l) l) ≡ l
unfolding numbers shown number le
numbers_one [] = refl
numbers_one (x ∷ l) = let e : x + 0 * 256 ≡ x = omega arith in rw (e, numbers_one l)

wide_text : 0 < width_of 7
unfolding width_of row_of
wide_text = omega arith

pub text_part : (vectors : ℕ) (role : Use) (at : ℕ) (l : List ℕ) (n first stop : ℕ) → present vectors role at l ≡ whole 7 n first stop → Bytes l
    → elements_from at l 7 first stop ≡ take (stop - first) (drop (first - at) l)
unfolding width_of row_of
text_part vectors role at l n first stop h b =
    let i = present_typed vectors role at l 7 n first stop h in
    let p = part_there at l 7 (vectors * n) first stop wide_text b i.later i.ends i.inside in
    let part = take (stop - first) (drop (first - at) l) in
    let e : length part ≡ vectors * n = omega (arith, p.size) in
    p.same ∙ ap (λ k. map (shown 7) (numbers 1 k part)) (sym e) ∙ numbers_one part

-- elements that are no negative numbers take no wider type
positive_takes : (t : ℕ) → 0 < t → t ≤ 3 → (ys : List ℕ) → All (λ y. y < 256 ^ width_of t) ys → All (λ x. x < 0x80000000) (map (shown t) ys)
    → All (λ x. type_for (kind 3 x) x ≤ t) (map (shown t) ys)
positive_takes t a b [] h k = tt
positive_takes t a b (y ∷ ys) h k =
    let n = narrowest_shown t a b y h.0 k.0 in
    let m = type_for_narrowest (kind 3 (shown t y)) (shown t y) in
    (omega arith, positive_takes t a b ys h.1 k.1)

pub there_takes : (vectors : ℕ) (role : Use) (at : ℕ) (l : List ℕ) (t n first stop : ℕ) → present vectors role at l ≡ whole t n first stop → Bytes l
    → t ≤ 3 → All (λ x. x < 0x80000000) (elements_from at l t first stop) → All (λ x. type_for (kind 3 x) x ≤ t) (elements_from at l t first stop)
there_takes vectors role at l t n first stop h b k f = by_type (described_there vectors role at l t n first stop h b).there
  where
    by_type : Stands t n → All (λ x. type_for (kind 3 x) x ≤ t) (elements_from at l t first stop)
    by_type (empty e z) =
        let p = present_zero vectors role at l n first stop (rw e at h) in
        let none : elements_from at l t first stop ≡ [] = rw p.1 (elements_none at l t first) in
        rw none tt
    by_type (filled w) =
        let i = present_typed vectors role at l t n first stop h in
        let p = part_there at l t (vectors * n) first stop w b i.later i.ends i.inside in
        let part = take (stop - first) (drop (first - at) l) in
        rw p.same (positive_takes t (wide_type t w) k (numbers (width_of t) (vectors * n) part)
        (numbers_bound (width_of t) (vectors * n) part p.bytes (omega (arith, p.size))) (rw p.same at f))
