-- Reading is on a record's account: a record is accepted just where each of its fields is judged sound in turn, and GT is the field that is fetched
-- with GT's key. Rests on specs/InTurn, proofs/Turns and proofs/Once, and on what reading went through.
use mathlib.Core.Path.{◌≡◌, refl, sym, ◌∙◌, ap}
use mathlib.Core.Logic.{◌≢◌}
use mathlib.Core.List.{List, [], ◌∷◌, ◌++◌, map, map-append}
use mathlib.Core.Bool.{Bool, true, false}
use Prim.Native.Nat.{ℕ, zero, suc, ◌+◌, ◌-◌, ◌≤◌}
use native.Mathlib.Nat.{sub_self}
use native.Mathlib.Omega.{arith}
use lib.Dec.{eqb}
use lib.ListN.{length, take, drop, replicate, length-drop, drop_of_length-le}
use lib.Seq.{length-take-le}
use borrow.Author.Tests.{eqb-true, eq-eqb}
use Rattle.words.specs.Lists.{among}
use Rattle.words.specs.Pick.{pick}
use Rattle.words.proofs.Places.{drop_on}
use Rattle.fixed.specs.Layout.{id_at}
use Rattle.fixed.specs.Fixed.{fixed}
use Rattle.facts.specs.declared.Facts.{Facts}
use Rattle.fixed.specs.declared.Site.{Site}
use Rattle.fixed.proofs.Fits.{fixed_fits, people_given}
use Rattle.site.specs.Steps.{ended}
use Rattle.genotypes.specs.Formats.{gt_at, no_gt}
use Rattle.genotypes.specs.declared.Gt.{Gt}
use Rattle.record.specs.Reading.{reading, site_of, genotypes_of, accepted_as}
use Rattle.record.proofs.Accepted.{accepted, accepted_fits}
use Rattle.fetch.specs.Account.{Entry, fields_of, site_kinds, site_fields, genotype_fields, account, of_kind, numbered}
use Rattle.fetch.specs.Fetch.{field_of, found}
use Rattle.fetch.specs.declared.Kind.TheVariants.{Format}
use Rattle.fetch.proofs.Account.{of_kind_lem}
use Rattle.fetch_laws.specs.InTurn.{judging, in_turn, NoneTwice, keys_of, InTurn, Accepts, gt_in}
use Rattle.fetch_laws.proofs.Agree.{went}
use Rattle.fetch_laws.proofs.There.{ended_none, accepted_people}
use Rattle.fetch_laws.proofs.Turns.{site_in_turn, turns_within, turns_there}
use Rattle.fetch.specs.Fields.{found_field}
use Rattle.std.specs.Prelude.{Ok}
use Rattle.fetch_laws.proofs.Once.{formats_turns, turns_formats, formats_gt, among_more}
use Rattle.fetch.proofs.Held.{same_field}

-- the FORMAT fields of an account are those of the genotype block
format_fields : (t : Site) (s : List ℕ)
    → of_kind Format (account t s) ≡ fields_of t.people (replicate t.formats Format) t.border (drop t.border (take t.length s))
format_fields t s = rw (of_kind_lem Format t s, sub_self t.border)

-- a block is read to its last byte where it ends
filled : (s : List ℕ) (from end e : ℕ) → end ≤ length s → from ≤ e → e ≤ from + length (drop from (take end s)) → from ≤ end
    → drop (e - from) (drop from (take end s)) ≡ [] → e ≡ end
filled s from end e h a b c o =
    let z : length (drop (e - from) (drop from (take end s))) ≡ 0 = ap length o in
    let y = rw (length-drop (e - from) (drop from (take end s)), length-drop from (take end s), length-take-le end s h) at z in
    let x = rw (length-drop from (take end s), length-take-le end s h) at b in
    omega arith

filled_over : (s : List ℕ) (from end : ℕ) → end ≤ length s → from ≤ end → drop (end - from) (drop from (take end s)) ≡ []
filled_over s from end h c =
    let z : length (take end s) ≤ end = rw (length-take-le end s h) (omega arith) in
    drop_on (take end s) from end c ∙ drop_of_length-le (take end s) z

-- the law: of an accepted record each field is judged sound in turn, the blocks are filled, and no key of FORMAT stands twice
pub accepted_in_turn : (f : Facts) (s : List ℕ) (t : Site) (g : Gt) → reading f s ≡ accepted_as t g → InTurn f t s
unfolding site_of genotypes_of
accepted_in_turn f s t g h =
    let r = accepted f s t g h in
    let x = accepted_fits f s t g h in
    let block = drop id_at (take t.border s) in
    let kinds = site_kinds t.alleles t.infos in
    let last = drop t.border (take t.length s) in
    let w = went id_at block (in_turn (judging f t) kinds id_at block) ended (sym (site_in_turn f t id_at block) ∙ r.block) in
    let i = turns_within f t kinds id_at block w.here in
    let a = x.site in
    let b = x.border in
    let c = x.whole in
    let d = x.there in
    let e : w.place ≡ t.border = filled s id_at t.border w.place (omega arith) i.0 i.1 a (ended_none w.place _ w.on) in
    let v = formats_turns f t t.formats [] no_gt t.border last r.genotypes in
    let j = turns_within f t (replicate t.formats Format) t.border last v.walked in
    let k : v.end ≡ t.length = filled s t.border t.length v.end d j.0 j.1 (omega arith) v.over in
    record {
      site = rw e at w.here;
      genotypes = rw k at v.walked;
      once = rw (format_fields t s, accepted_people f s t g h) v.once;
    }

-- the other way: a front whose fields are judged sound in turn is that of an accepted record
pub in_turn_accepted : (f : Facts) (s : List ℕ) (t : Site) → fixed f s ≡ Ok t → InTurn f t s → Accepts f s t
unfolding reading site_of genotypes_of
in_turn_accepted f s t h u =
    let x = fixed_fits f s t h in
    let a = x.site in
    let b = x.border in
    let c = x.whole in
    let d = x.there in
    let block = drop id_at (take t.border s) in
    let last = drop t.border (take t.length s) in
    let people : t.people ≡ f.people = (people_given f.people t.formats t.people x.people_right).0 in
    let once = rw (format_fields t s, people) at u.once in
    let g = turns_formats f t t.formats [] no_gt t.border last u.genotypes (filled_over s t.border t.length d (omega arith)) once in
    record {
      gt = g.gt;
      read = rw (h, site_in_turn f t id_at block, u.site, filled_over s id_at t.border (omega arith) a, g.all);
    }

-- the law: of an accepted record every part is in the account
pub kinds_there : (f : Facts) (s : List ℕ) (t : Site) (g : Gt) → reading f s ≡ accepted_as t g
    → map (λ e. e.kind) (account t s) ≡ site_kinds t.alleles t.infos ++ replicate t.formats Format
unfolding account site_fields genotype_fields
kinds_there f s t g h =
    let u = accepted_in_turn f s t g h in
    let kinds = site_kinds t.alleles t.infos in
    let block = drop id_at (take t.border s) in
    let formats = replicate t.formats Format in
    let last = drop t.border (take t.length s) in
    rw (
      accepted_people f s t g h,
      map-append (λ (e : Entry). e.kind) (fields_of f.people kinds id_at block) (fields_of f.people formats t.border last),
      turns_there f t kinds id_at block u.site,
      turns_there f t formats t.border last u.genotypes,
    )

-- the law: GT, as reading tells it, is the field of the account whose key is GT's
pub accepted_gt : (f : Facts) (s : List ℕ) (t : Site) (g : Gt) → reading f s ≡ accepted_as t g → g ≡ gt_in f.gt (of_kind Format (account t s))
unfolding genotypes_of
accepted_gt f s t g h =
    rw (format_fields t s, accepted_people f s t g h)
    (formats_gt f t t.formats [] t.border (drop t.border (take t.length s)) (accepted f s t g h).genotypes)

-- of two tests neither holds
neither : (a b : Bool) → pick a true b ≡ false → (a ≡ false) × (b ≡ false)
neither true b h = let z : ◌≡◌ {A = ℕ} 0 1 = cc in absurd (omega arith)
neither false b h = (refl, h)

-- a field that is numbered among those whose keys stand once has a key that did not stand earlier
numbered_new : (n : ℕ) (es : List Entry) (earlier : List ℕ) (key : ℕ) {code len place stop : ℕ} → NoneTwice earlier (keys_of es)
    → numbered n es ≡ found_field key code len place stop → among key earlier ≡ false
unfolding numbered
numbered_new n [] earlier key h e = cc
numbered_new zero (x ∷ es) earlier key h e = let z = (same_field e).0 in rw z at h.0
numbered_new (suc n) (x ∷ es) earlier key h e =
    (neither (among key earlier) (eqb x.key key) (rw (among_more key x.key earlier) at (numbered_new n es (earlier ++ (x.key ∷ [])) key h.1 e))).0

numbered_gt : (n : ℕ) (es : List Entry) (earlier : List ℕ) (gt : ℕ) {code len place stop : ℕ} → NoneTwice earlier (keys_of es)
    → numbered n es ≡ found_field gt code len place stop → gt_in gt es ≡ gt_at code len place
unfolding numbered gt_in
numbered_gt n [] earlier gt h e = cc
numbered_gt zero (x ∷ es) earlier gt h e =
    let z = same_field e in
    let a = eq-eqb x.key gt z.0 in
    rw (a, z.1, z.2, z.3)
numbered_gt (suc n) (x ∷ es) earlier gt h e =
    let z = rw (among_more gt x.key earlier) at (numbered_new n es (earlier ++ (x.key ∷ [])) gt h.1 e) in
    rw (neither (among gt earlier) (eqb x.key gt) z).1 (numbered_gt n es (earlier ++ (x.key ∷ [])) gt h.1 e)

-- for callers: any FORMAT field that is fetched with GT's key is the GT that reading told
pub gt_fetched : (f : Facts) (s : List ℕ) (t : Site) (g : Gt) → reading f s ≡ accepted_as t g → (n code len place stop : ℕ)
    → found f Format n s ≡ found_field f.gt code len place stop → g ≡ gt_at code len place
unfolding found field_of
gt_fetched f s t g h n code len place stop e =
    accepted_gt f s t g h ∙ numbered_gt n (of_kind Format (account t s)) [] f.gt (accepted_in_turn f s t g h).once (rw h at e)

-- and where none is, reading told none
none_gt : (gt : ℕ) (es : List Entry) → ((n code len place stop : ℕ) → numbered n es ≢ found_field gt code len place stop) → gt_in gt es ≡ no_gt
unfolding numbered gt_in
none_gt gt [] h = refl
none_gt gt (e ∷ es) h = by-test (eqb e.key gt) refl (none_gt gt es (λ n. h (suc n)))
  where
    by-test : (b : Bool) → eqb e.key gt ≡ b → gt_in gt es ≡ no_gt → pick b (gt_at e.code e.len e.place) (gt_in gt es) ≡ no_gt
    by-test true p on = absurd (h 0 e.code e.len e.place e.stop (rw (eqb-true e.key gt p)))
    by-test false p on = on

pub gt_none : (f : Facts) (s : List ℕ) (t : Site) (g : Gt) → reading f s ≡ accepted_as t g
    → ((n code len place stop : ℕ) → found f Format n s ≢ found_field f.gt code len place stop) → g ≡ no_gt
unfolding found field_of
gt_none f s t g h k =
    accepted_gt f s t g h
    ∙ none_gt f.gt (of_kind Format (account t s)) (λ n code len place stop e. k n code len place stop (rw h e))
