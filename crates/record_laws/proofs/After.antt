-- Bytes after the record make no difference: it is read the same, and of an accepted one the same is found and shown. Rests on the definitions of
-- reading and of the account, and on a field being its own four bytes.
use mathlib.Core.Path.{◌≡◌, refl, sym, ◌∙◌, ap}
use mathlib.Core.List.{List, [], ◌++◌, append-nil}
use mathlib.Core.Bool.{Bool, true, false}
use Prim.Native.Nat.{ℕ, ◌+◌, ◌≤◌}
use native.Mathlib.Omega.{arith}
use lib.Dec.{ltb, eqb}
use lib.ListN.{length, take, length-append}
use lib.Seq.{take-take, take_at, length-take-le}
use borrow.Author.Tests.{ltb-false, le-ltb}
use Rattle.words.specs.Pick.{pick}
use Rattle.fixed.specs.Layout.{indiv_at, chrom_at, pos_at, rlen_at, counts_at, people_at, qual_at, id_at, most_bytes, field}
use Rattle.fixed.specs.Fixed.{no_blocks, blocks, wrong_at, site_at, fields, no_site, fixed, lent}
use Rattle.facts.specs.declared.Facts.{Facts}
use Rattle.fixed.specs.declared.Site.{Site}
use Rattle.genotypes.specs.declared.Gt.{Gt}
use Rattle.record.specs.Reading.{reading, after_fixed, after_site, site_of, genotypes_of, accepted_as}
use Rattle.record.proofs.Accepted.{accepted_fits}
use Rattle.fetch.specs.Account.{site_fields, genotype_fields, account}
use Rattle.fetch.specs.Fetch.{field_of, found}
use Rattle.fetch.specs.declared.Kind.{Kind}
use Rattle.fetch_laws.proofs.Fronts.{field_take}
use Rattle.contents.specs.Contents.{shown_of}
use Rattle.contents.proofs.Blocks.{shown_blocks}
use Rattle.std.specs.Prelude.{Ok, Err}
use Rattle.fixed.specs.declared.Blocks.{Blocks}
use Rattle.values.specs.Answers.{Answer}
use Rattle.record_laws.specs.Told.{own_length}

-- two lists that begin with the same bytes
module _ (f : Facts) (s s' : List ℕ) (w : ℕ) (same : take w s' ≡ take w s) where
  same_field : (p : ℕ) → p + 4 ≤ w → field p s' ≡ field p s
  same_field p h = sym (field_take p w s' h) ∙ ap (field p) same ∙ field_take p w s h

  same_take : (n : ℕ) → n ≤ w → take n s' ≡ take n s
  same_take n h = sym (take-take n w s' h) ∙ ap (take n) same ∙ take-take n w s h

  same_wrong : id_at ≤ w → wrong_at f s' ≡ wrong_at f s
  unfolding wrong_at
  same_wrong h =
      rw (
        same_field chrom_at (omega arith),
        same_field pos_at (omega arith),
        same_field rlen_at (omega arith),
        same_field qual_at (omega arith),
        same_field counts_at (omega arith),
        same_field people_at (omega arith),
      )

  same_site : (border : ℕ) → id_at ≤ w → site_at border w s' ≡ site_at border w s
  unfolding site_at
  same_site border h =
      rw (
        same_field chrom_at (omega arith),
        same_field pos_at (omega arith),
        same_field rlen_at (omega arith),
        same_field qual_at (omega arith),
        same_field counts_at (omega arith),
        same_field people_at (omega arith),
      )

  -- have the same blocks
  same_blocks : (t : Site) → t.border ≤ w → t.length ≤ w → after_site f t s' (site_of f t s') ≡ after_site f t s (site_of f t s)
  unfolding site_of genotypes_of
  same_blocks t b l = rw (same_take t.border b) (by-step (site_of f t s))
    where
      by-step : (x : Answer ℕ) → after_site f t s' x ≡ after_site f t s x
      by-step (Err r) = refl
      by-step (Ok q) = rw (same_take t.length l)

  same_front : (border : ℕ) → id_at ≤ border → border ≤ w → after_fixed f s' (fields f s' (lent border w)) ≡ after_fixed f s (fields f s (lent border w))
  unfolding site_at
  same_front border i b = rw (same_wrong (omega arith), same_site border (omega arith)) (by-test (eqb (wrong_at f s) 0))
    where
      by-test : (c : Bool) → after_fixed f s' (pick c (Ok (site_at border w s)) (no_site 5 (wrong_at f s)))
          ≡ after_fixed f s (pick c (Ok (site_at border w s)) (no_site 5 (wrong_at f s)))
      by-test true = same_blocks (site_at border w s) b (omega arith)
      by-test false = refl

-- a record that is there, by what is left to test of its lengths
abbrev as_lent : Bool → Bool → ℕ → ℕ → Answer Blocks
as_lent over short border w = pick over (no_blocks 2 0) (pick short (no_blocks 3 border) (lent border w))

-- and read the same, where they have the length that the first eight of them say
same_reading : (f : Facts) (s s' : List ℕ) → 8 ≤ length s → own_length s ≤ length s → own_length s ≤ length s'
    → take (own_length s) s' ≡ take (own_length s) s → reading f s' ≡ reading f s
unfolding reading fixed blocks own_length
same_reading f s s' e l l' same =
    rw (
      same_field f s s' (own_length s) same 0 (omega arith),
      same_field f s s' (own_length s) same indiv_at (omega arith),
      le-ltb (length s) 8 e,
      le-ltb (length s') 8 (omega arith),
      le-ltb (length s) (own_length s) l,
      le-ltb (length s') (own_length s) l',
    )
    (by_tests (ltb most_bytes (own_length s)) (ltb (8 + field 0 s) id_at) refl)
  where
    by_tests : (a b : Bool) → ltb (8 + field 0 s) id_at ≡ b
        → after_fixed f s' (fields f s' (as_lent a b (8 + field 0 s) (own_length s)))
        ≡ after_fixed f s (fields f s (as_lent a b (8 + field 0 s) (own_length s)))
    by_tests true b h = refl
    by_tests false true h = refl
    by_tests false false h = same_front f s s' (own_length s) same (8 + field 0 s) (ltb-false (8 + field 0 s) id_at h) (omega arith)

-- the laws: any other bytes behind the record's own, and none
pub after_record : (f : Facts) (s rest : List ℕ) → 8 ≤ length s → own_length s ≤ length s → reading f (take (own_length s) s ++ rest) ≡ reading f s
after_record f s rest e l =
    let own = take (own_length s) s in
    let size : length own ≡ own_length s = length-take-le (own_length s) s l in
    same_reading f s (own ++ rest) e l (rw length-append (omega arith)) (take_at own rest (own_length s) size)

pub own_record : (f : Facts) (s : List ℕ) → 8 ≤ length s → own_length s ≤ length s → reading f (take (own_length s) s) ≡ reading f s
own_record f s e l = rw (append-nil (take (own_length s) s)) at (after_record f s [] e l)

-- of an accepted record, whose length is told: its account, and so what is found and shown
module _ (f : Facts) (s : List ℕ) (t : Site) (g : Gt) (rest : List ℕ) (h : reading f s ≡ accepted_as t g) where
  own : take t.length (take t.length s ++ rest) ≡ take t.length s
  own = take_at (take t.length s) rest t.length (length-take-le t.length s (accepted_fits f s t g h).there)

  site_block : take t.border (take t.length s ++ rest) ≡ take t.border s
  site_block =
      let x = accepted_fits f s t g h in
      same_take f s (take t.length s ++ rest) t.length own t.border (omega (arith, x.border, x.whole))

  pub accepted_after : reading f (take t.length s ++ rest) ≡ accepted_as t g
  unfolding own_length
  accepted_after =
      let x = accepted_fits f s t g h in
      let e : own_length s ≡ t.length = x.whole in
      rw e at (after_record f s rest (omega (arith, x.there, x.whole)) (omega (arith, x.there, x.whole))) ∙ h

  pub found_after : (kind : Kind) (n : ℕ) → found f kind n (take t.length s ++ rest) ≡ found f kind n s
  unfolding found field_of account site_fields genotype_fields
  found_after kind n = rw (accepted_after, h, own, site_block)

  pub shown_after : shown_of t (take t.length s ++ rest) ≡ shown_of t s
  shown_after = rw (shown_blocks t (take t.length s ++ rest), own, site_block, shown_blocks t s)
