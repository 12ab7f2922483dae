-- Reading's refusals: by the lengths, by the fixed fields, and then by each block. Rests on proofs/Blocks and on the definitions of fixed and record.
use mathlib.Core.Path.{◌≡◌, refl}
use mathlib.Core.List.{List}
use Prim.Native.Nat.{ℕ, ◌+◌, ◌≤◌}
use native.Mathlib.Omega.{arith}
use lib.Dec.{ltb, eqb}
use lib.ListN.{length, take, drop, length-take, length-drop}
use borrow.Author.Tests.{ltb-false}
use Rattle.words.specs.Lists.{among}
use Rattle.words.specs.Words.{outside}
use Rattle.values.specs.declared.Refusal.{Refusal}
use Rattle.fixed.specs.Layout.{indiv_at, chrom_at, pos_at, rlen_at, counts_at, people_at, qual_at, id_at, alleles_in, formats_in, people_in, most_bytes, field, pos_wrong, rlen_wrong, counts_wrong, people_wrong, qual_wrong}
use Rattle.fixed.specs.Fixed.{blocks, wrong_at, site_at, fields, fixed}
use Rattle.facts.specs.declared.Facts.{Facts}
use Rattle.fixed.specs.declared.Site.{Site}
use Rattle.record.specs.Reading.{site_of, genotypes_of, after_genotypes, after_site, after_fixed, reading}
use Rattle.refusal_laws.specs.Numbers.{reading_gives}
use Rattle.record_laws.specs.Told.{own_length}
use Rattle.refusal_laws.specs.Refused.{Told, InRecord}
use Rattle.refusal_laws.proofs.Among.{tested, either}
use Rattle.record.specs.declared.Reading.{Reading}
use Rattle.genotypes.specs.declared.Gt.{Gt}
use Rattle.std.specs.Prelude.{Err, Ok}
use Rattle.fixed.specs.declared.Blocks.{Blocks}
use Rattle.values.specs.Answers.{Answer}
use Rattle.refusal_laws.proofs.Blocks.{step_told, GenotypesTold, site_told_lem, genotypes_told}

-- the front of a record: refused at a place of the record; else the record is lent whole, and its fixed fields stand in the site block
pub record Lies (border whole : ℕ) (s : List ℕ) : Type 0 where
  pub front : id_at ≤ border
  pub site : border ≤ whole
  pub own : whole ≡ own_length s
  pub lent : whole ≤ length s

abbrev BlocksTold : List ℕ → Answer Blocks → Type 0
BlocksTold s (Err r) = InRecord reading_gives s r
BlocksTold s (Ok b) = Lies b.border b.length s

abbrev FixedTold : List ℕ → Answer Site → Type 0
FixedTold s (Err r) = InRecord reading_gives s r
FixedTold s (Ok t) = Lies t.border t.length s

abbrev ReadingTold : List ℕ → Answer Reading → Type 0
ReadingTold s (Err r) = InRecord reading_gives s r
ReadingTold s (Ok a) = Unit {0}

blocks_told : (s : List ℕ) → BlocksTold s (blocks s)
unfolding blocks own_length among
blocks_told s =
    let P = BlocksTold s in
    let border = 8 + field 0 s in
    let whole = border + field indiv_at s in
    either P (ltb (length s) 8) _ _ (record { number = refl; place = omega arith; lent = omega arith })
    (either P (ltb most_bytes whole) _ _ (record { number = refl; place = omega arith; lent = omega arith })
    (tested P (ltb (length s) whole) _ _ (λ e. record { number = refl; place = omega arith; lent = omega arith })
    (λ e. let there : whole ≤ length s = ltb-false (length s) whole e in
    tested P (ltb border id_at) _ _ (λ d. record { number = refl; place = omega arith; lent = omega arith })
    (λ d. record { front = ltb-false border id_at d; site = omega arith; own = refl; lent = there }))))

-- a fixed field stands before ID
wrong_before : (f : Facts) (s : List ℕ) → wrong_at f s ≤ id_at
unfolding wrong_at
wrong_before f s =
    let P : ℕ → Type 0 = λ at. at ≤ id_at in
    let members = field people_at s in
    either P (outside f.contigs (field chrom_at s)) _ _ (omega arith)
    (either P (pos_wrong (field pos_at s)) _ _ (omega arith)
    (either P (rlen_wrong (field rlen_at s)) _ _ (omega arith)
    (either P (qual_wrong (field qual_at s)) _ _ (omega arith)
    (either P (counts_wrong (alleles_in (field counts_at s))) _ _ (omega arith)
    (either P (people_wrong f.people (formats_in members) (people_in members)) _ _ (omega arith)
    (omega arith))))))

fields_told : (f : Facts) (s : List ℕ) (b : Answer Blocks) → BlocksTold s b → FixedTold s (fields f s b)
unfolding site_at among
fields_told f s (Err r) h = h
fields_told f s (Ok b) h =
    let before = wrong_before f s in
    either (FixedTold s) (eqb (wrong_at f s) 0) _ _ h
    (record { number = refl; place = omega (arith, before); lent = omega (arith, before) })

-- a refusal up to the end of a block that lies in the record
told_inside : (s : List ℕ) (border whole end : ℕ) (r : Refusal) → Lies border whole s → end ≤ whole → Told reading_gives end r
    → InRecord reading_gives s r
told_inside s border whole end r w e h =
    record { number = h.number; place = omega (arith, w.own, h.place); lent = omega (arith, w.lent, h.place) }

-- a block up to its end, from a place on
block_end_lem : (from stop whole : ℕ) (s : List ℕ) → from ≤ stop → stop ≤ whole → from + length (drop from (take stop s)) ≤ stop
block_end_lem from stop whole s a b = rw (length-drop, length-take) (omega arith)

genotypes_read : (s : List ℕ) (t : Site) (end : ℕ) (g : Answer Gt) → Lies t.border t.length s → end ≤ t.length → GenotypesTold end g
    → ReadingTold s (after_genotypes t g)
genotypes_read s t end (Err r) w e h = told_inside s t.border t.length end r w e h
genotypes_read s t end (Ok g) w e h = tt

site_read : (f : Facts) (s : List ℕ) (t : Site) (end : ℕ) (p : Answer ℕ) → Lies t.border t.length s → end ≤ t.border → step_told id_at end p
    → ReadingTold s (after_site f t s p)
unfolding genotypes_of
site_read f s t end (Err r) w e h = told_inside s t.border t.length end r w (omega (arith, w.site)) h
site_read f s t end (Ok q) w e h =
    let l = drop t.border (take t.length s) in
    genotypes_read s t (t.border + length l) (genotypes_of f t s) w (block_end_lem t.border t.length t.length s w.site (omega arith))
    (genotypes_told f t t.formats t.border l)

fixed_read : (f : Facts) (s : List ℕ) (x : Answer Site) → FixedTold s x → ReadingTold s (after_fixed f s x)
unfolding site_of
fixed_read f s (Err r) h = h
fixed_read f s (Ok t) h =
    let l = drop id_at (take t.border s) in
    site_read f s t (id_at + length l) (site_of f t s) h (block_end_lem id_at t.border t.length s h.front h.site) (site_told_lem f t id_at l)

reading_told : (f : Facts) (s : List ℕ) → ReadingTold s (reading f s)
unfolding reading fixed
reading_told f s = fixed_read f s (fixed f s) (fields_told f s (blocks s) (blocks_told s))

-- the law: one of reading's numbers, at a place of the record
pub reading_refused : (f : Facts) (s : List ℕ) (r : Refusal) → reading f s ≡ Err r → InRecord reading_gives s r
reading_refused f s r h = rw h at (reading_told f s)
