-- Reading's judgement of the genotype block is, on every list, that of each FORMAT field in turn. Rests on specs/InTurn, proofs/Turns and proofs/Once,
-- and on the definitions of genotypes.
use mathlib.Core.Path.{◌≡◌, refl, ◌∙◌, ap}
use mathlib.Core.List.{List, [], ◌∷◌, ◌++◌}
use mathlib.Core.Bool.{Bool, true, false}
use Prim.Native.Nat.{ℕ, zero, suc, ◌+◌, ◌-◌, ◌≤◌}
use native.Mathlib.Nat.{sub_self}
use native.Mathlib.Omega.{arith}
use lib.ListN.{length, drop, replicate}
use Rattle.words.specs.Lists.{among}
use Rattle.words.specs.Pick.{pick}
use Rattle.types.specs.declared.Use.TheVariants.{Format as FormatUse}
use Rattle.values.specs.Answers.{IntegerInside, Answer, one}
use Rattle.values.specs.Values.{keyed}
use Rattle.vectors.specs.Sound.{sound}
use Rattle.facts.specs.declared.Facts.{Facts}
use Rattle.fixed.specs.declared.Site.{Site}
use Rattle.site.specs.Steps.{then, no_step, ended}
use Rattle.genotypes.specs.Formats.{format_field, so_many, formats, none_over, role_of, gt_now, gt_at, no_gt}
use Rattle.genotypes.specs.declared.Gt.{Gt}
use Rattle.fetch.specs.Fields.{paired}
use Rattle.fetch.specs.Account.{fields_of}
use Rattle.fetch.specs.declared.Kind.TheVariants.{Format}
use Rattle.fetch.proofs.Inside.{StepLater, keyed_inside, then_later}
use Rattle.fetch_laws.specs.InTurn.{format, judging, gt_in, unless_earlier, formats_in_turn, with_gt}
use Rattle.fetch_laws.proofs.FormatFields.{format_there, keyed_integer}
use Rattle.fetch_laws.proofs.Present.{present_typed}
use Rattle.fetch_laws.proofs.Turns.{judging_later, then_on}
use Rattle.values.specs.declared.Value.{Value}
use Rattle.std.specs.Prelude.{Err, Ok}
use Rattle.values.specs.declared.Integer.{Integer}
use Rattle.fetch_laws.proofs.Once.{formats_gt}

-- these steps do not go back
unless_later : (earlier : List ℕ) (at : ℕ) (p : Answer ℕ) (i : Answer Integer) → StepLater at p → StepLater at (unless_earlier earlier at p i)
unless_later earlier at p (Err r) h = h
unless_later earlier at p (Ok i) h = by-test (among i.bits earlier) _ _
  where
    by-test : (b : Bool) (n q : ℕ) → StepLater at (pick b (no_step n q) p)
    by-test true n q = tt
    by-test false n q = h

formats_later : (f : Facts) (t : Site) (n : ℕ) (earlier : List ℕ) (at : ℕ) (l : List ℕ) → StepLater at (formats_in_turn f t n earlier at l)
unfolding formats_in_turn
formats_later f t zero earlier at l = omega arith
formats_later f t (suc n) earlier at l =
    then_later at l (unless_earlier earlier at (judging f t Format at l) (keyed f.strings at l)) _
    (unless_later earlier at (judging f t Format at l) (keyed f.strings at l) (judging_later f t Format at l)) (formats_later f t n _)

-- reading's answer is that of these steps, with some GT
record Told (f : Facts) (t : Site) (n : ℕ) (earlier : List ℕ) (known : Gt) (at : ℕ) (l : List ℕ) : Type 0 where
  gt : Gt
  told : formats f.strings f.people f.gt t.alleles n earlier known at l ≡ with_gt gt (then at l (formats_in_turn f t n earlier at l) ended)

none_told : (known : Gt) (at : ℕ) (l : List ℕ) → none_over known at l ≡ with_gt known (ended at l)
none_told known at [] = refl
none_told known at (b ∷ rest) = refl

formats_told : (f : Facts) (t : Site) (n : ℕ) (earlier : List ℕ) (known : Gt) (at : ℕ) (l : List ℕ) → Told f t n earlier known at l
unfolding format_field so_many formats formats_in_turn format fields_of paired
formats_told f t zero earlier known at l = record { gt = known; told = rw (sub_self at) (none_told known at l) }
formats_told f t (suc n) earlier known at l =
    by_key (keyed f.strings at l) refl (keyed_inside f.strings at l) (λ more now stop. formats_told f t n more now stop (drop (stop - at) l))
  where
    On : Type 0
    On = (more : List ℕ) (now : Gt) (stop : ℕ) → Told f t n more now stop (drop (stop - at) l)

    by_value : (key next : ℕ) (b : Bool) (v : Answer Value) → keyed f.strings at l ≡ one key next → at ≤ next → among key earlier ≡ b
        → sound f.people t.alleles (role_of key f.gt) next (drop (next - at) l) ≡ v → On → Told f t (suc n) earlier known at l
    by_value key next true v p a q s on = record { gt = known; told = rw (p, q) }
    by_value key next false (Err r) p a q s on = record { gt = known; told = rw (p, q, s) }
    by_value key next false (Ok v) p a q s on =
        let there = format_there f.people t.alleles key f.gt next (drop (next - at) l) v.code v.len v.first v.stop s in
        let i = present_typed f.people FormatUse next (drop (next - at) l) v.code v.len v.first v.stop there in
        let x = i.ends in
        let y = i.later in
        let more = earlier ++ (key ∷ []) in
        let r = on more (gt_now key f.gt (gt_at v.code v.len v.first) known) v.stop in
        record {
          gt = r.gt;
          told =
              rw (
                p,
                q,
                s,
                keyed_integer f.strings at l key next p,
                there,
                then_on at v.stop l (formats_in_turn f t n more v.stop (drop (v.stop - at) l)) ended (omega arith) (formats_later f t n more v.stop (drop (v.stop - at) l)),
              )
              r.told;
        }

    by_key : (i : Answer Integer) → keyed f.strings at l ≡ i → IntegerInside at (at + length l) i → On → Told f t (suc n) earlier known at l
    by_key (Err r) p k on = record { gt = known; told = rw p }
    by_key (Ok i) p k on =
        by_value i.bits i.next (among i.bits earlier) (sound f.people t.alleles (role_of i.bits f.gt) i.next (drop (i.next - at) l)) p (omega arith) refl refl on

-- the law: on every list, reading's judgement of the genotype block is that of each FORMAT field in turn, after the keys before it, and then that no
-- byte is over, refusals included; and GT is the field whose key is GT's
pub format_in_turn : (f : Facts) (t : Site) (n at : ℕ) (l : List ℕ)
    → formats f.strings f.people f.gt t.alleles n [] no_gt at l
    ≡ with_gt (gt_in f.gt (fields_of f.people (replicate n Format) at l)) (then at l (formats_in_turn f t n [] at l) ended)
format_in_turn f t n at l = let r = formats_told f t n [] no_gt at l in by-step r.gt (then at l (formats_in_turn f t n [] at l) ended) r.told
  where
    by-step : (g : Gt) (p : Answer ℕ) → formats f.strings f.people f.gt t.alleles n [] no_gt at l ≡ with_gt g p
        → formats f.strings f.people f.gt t.alleles n [] no_gt at l
        ≡ with_gt (gt_in f.gt (fields_of f.people (replicate n Format) at l)) p
    by-step g (Err r) h = h
    by-step g (Ok q) h = h ∙ ap (λ (x : Gt). with_gt x (Ok q)) (formats_gt f t n [] at l h)
