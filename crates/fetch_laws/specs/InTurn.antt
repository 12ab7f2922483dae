-- Reading on a record's account: what is judged of one field, that each field is judged in turn, and which field is GT. Rests on the account of a
-- record's fields, and on the steps of site and of genotypes.
use Rattle.std.specs.Prelude.{ℕ, zero, suc, ◌+◌, ◌-◌, ◌≡◌, List, [], ◌∷◌, ◌++◌, map, false, eqb, take, drop, replicate, Err, Ok}
use Rattle.words.specs.Lists.{among}
use Rattle.words.specs.Pick.{pick}
use Rattle.types.specs.declared.Use.TheVariants.{Id as IdUse}
use Rattle.values.specs.Values.{keyed}
use Rattle.vectors.specs.Sound.{sound}
use Rattle.fixed.specs.Layout.{id_at}
use Rattle.facts.specs.declared.Facts.{Facts}
use Rattle.fixed.specs.declared.Site.{Site}
use Rattle.site.specs.Steps.{no_step, then, value_step}
use Rattle.site.specs.Alleles.{allele}
use Rattle.site.specs.Filters.{filter}
use Rattle.site.specs.Site.{info}
use Rattle.genotypes.specs.Formats.{role_of, gt_at, no_gt}
use Rattle.genotypes.specs.declared.Gt.{Gt}
use Rattle.record.specs.Reading.{reading, accepted_as}
use Rattle.fetch.specs.Account.{Entry, fields_of, site_kinds, account, of_kind}
use Rattle.fetch.specs.declared.Kind.{Kind}
use Rattle.values.specs.declared.Integer.{Integer}
use Rattle.values.specs.Answers.{Answer}
use Rattle.fetch.specs.declared.Kind.TheVariants.{Id, Allele, Filter, Info, Format}

-- reading's judgement of a FORMAT field, but for keys that stand twice
abbrev pub format_value : ℕ → ℕ → ℕ → ℕ → List ℕ → Answer Integer → Answer ℕ
format_value people gt alleles at l (Err r) = Err r
format_value people gt alleles at l (Ok i) = value_step (sound people alleles (role_of i.bits gt) i.next (drop (i.next - at) l))

unfoldable pub format : ℕ → ℕ → ℕ → ℕ → ℕ → List ℕ → Answer ℕ
format strings people gt alleles at l = format_value people gt alleles at l (keyed strings at l)

-- reading's judgement of one field of a kind; that no key of FORMAT stands twice is judged beside it
abbrev pub judging : Facts → Site → Kind → ℕ → List ℕ → Answer ℕ
judging f t Id at l = value_step (sound 1 0 IdUse at l)
judging f t Allele at l = allele at l
judging f t Filter at l = filter f.strings at l
judging f t Info at l = info f.strings at l
judging f t Format at l = format f.strings f.people f.gt t.alleles at l

-- steps for these kinds, one after the other
unfoldable pub in_turn : (Kind → ℕ → List ℕ → Answer ℕ) → List Kind → ℕ → List ℕ → Answer ℕ
in_turn step [] at l = Ok at
in_turn step (kind ∷ kinds) at l = then at l (step kind at l) (in_turn step kinds)

-- no key stands among the earlier ones, each in turn
abbrev pub NoneTwice : List ℕ → List ℕ → Type 0
NoneTwice earlier [] = Unit {0}
NoneTwice earlier (key ∷ keys) = (among key earlier ≡ false) × NoneTwice (earlier ++ (key ∷ [])) keys

-- the keys of fields, in their order
abbrev pub keys_of : List Entry → List ℕ
keys_of es = map (λ e. e.key) es

-- each field of a record is judged sound in turn, the two blocks are filled to their last byte, and no key of FORMAT stands twice
pub record InTurn (f : Facts) (t : Site) (s : List ℕ) : Type 0 where
  pub site : in_turn (judging f t) (site_kinds t.alleles t.infos) id_at (drop id_at (take t.border s)) ≡ Ok t.border
  pub genotypes : in_turn (judging f t) (replicate t.formats Format) t.border (drop t.border (take t.length s)) ≡ Ok t.length
  pub once : NoneTwice [] (keys_of (of_kind Format (account t s)))

-- a record is accepted, and its site is known
pub record Accepts (f : Facts) (s : List ℕ) (t : Site) : Type 0 where
  pub gt : Gt
  pub read : reading f s ≡ accepted_as t gt

-- where GT stands: at the first of these fields whose key is GT's, or nowhere
unfoldable pub gt_in : ℕ → List Entry → Gt
gt_in gt [] = no_gt
gt_in gt (e ∷ es) = let on = gt_in gt es in pick (eqb e.key gt) (gt_at e.code e.len e.place) on

-- a FORMAT field's judgement after earlier keys: 11 at the key's element where it stands among them
abbrev pub unless_earlier : List ℕ → ℕ → Answer ℕ → Answer Integer → Answer ℕ
unless_earlier earlier at judged (Err r) = judged
unless_earlier earlier at judged (Ok i) = pick (among i.bits earlier) (no_step 11 (at + 1)) judged

-- so many FORMAT fields, one after the other, each after the keys of those before it
unfoldable pub formats_in_turn : Facts → Site → ℕ → List ℕ → ℕ → List ℕ → Answer ℕ
formats_in_turn f t zero earlier at l = Ok at
formats_in_turn f t (suc n) earlier at l =
    then at l (unless_earlier earlier at (judging f t Format at l) (keyed f.strings at l))
    (formats_in_turn f t n (earlier ++ keys_of (fields_of f.people (Format ∷ []) at l)))

-- steps through the genotype block as reading's answer: their refusal, or sound, with where GT stands
abbrev pub with_gt : Gt → Answer ℕ → Answer Gt
with_gt g (Err r) = Err r
with_gt g (Ok q) = Ok g
