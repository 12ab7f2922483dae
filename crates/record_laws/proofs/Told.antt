-- What reading tells stands in the layout, and the blocks of an accepted record are filled to their last byte. Rests on specs/Told, on what the front
-- of an accepted record says and on reading's judgement of its fields in turn.
use mathlib.Core.Path.{◌≡◌, sym}
use mathlib.Core.List.{List, [], ◌∷◌}
use Prim.Native.Nat.{ℕ, ◌-◌}
use lib.ListN.{drop}
use Rattle.facts.specs.declared.Facts.{Facts}
use Rattle.fixed.specs.declared.Site.{Site}
use Rattle.genotypes.specs.declared.Gt.{Gt}
use Rattle.record.specs.Reading.{reading, accepted_as}
use Rattle.record.proofs.Accepted.{accepted_fits}
use Rattle.fetch.specs.Fields.{field_at}
use Rattle.fetch.specs.Account.{entered, fields_of, site_fields, genotype_fields}
use Rattle.fetch.specs.Engine.{field_step, passing}
use Rattle.fetch.specs.declared.Kind.{Kind}
use Rattle.fetch_laws.specs.InTurn.{judging, in_turn}
use Rattle.fetch_laws.proofs.Agree.{went}
use Rattle.fetch_laws.proofs.There.{judged_passed, accepted_people}
use Rattle.fetch_laws.proofs.InTurn.{accepted_in_turn}
use Rattle.fetch.specs.declared.Found.{Found}
use Rattle.values.specs.Answers.{Answer}
use Rattle.std.specs.Prelude.{Ok, Err}
use Rattle.record_laws.specs.Told.{own_length, Told, end_of, Filled}

pub accepted_told : (f : Facts) (s : List ℕ) (t : Site) (g : Gt) → reading f s ≡ accepted_as t g → Told f s t
unfolding own_length
accepted_told f s t g h =
    let x = accepted_fits f s t g h in
    record {
      length_told = sym x.whole;
      length_most = x.most;
      there = x.there;
      border = sym x.border;
      chrom = sym x.chrom;
      pos = sym x.pos;
      rlen = sym x.rlen;
      qual = sym x.qual;
      alleles = sym x.alleles;
      infos = sym x.infos;
      formats = sym x.formats;
      people = sym x.people;
      given = accepted_people f s t g h;
    }

-- fields that are judged in turn end where their judgement comes to
turns_end : (f : Facts) (t : Site) (kinds : List Kind) (at : ℕ) (l : List ℕ) {e : ℕ} → in_turn (judging f t) kinds at l ≡ Ok e
    → end_of at (fields_of f.people kinds at l) ≡ e
unfolding in_turn fields_of passing end_of
turns_end f t [] at l h = cc
turns_end f t (kind ∷ kinds) at l {e} h =
    let w = went at l (judging f t kind at l) (in_turn (judging f t) kinds) h in
    let on = turns_end f t kinds w.place (drop (w.place - at) l) w.on in
    by_field (field_at kind f.people at l) on (judged_passed f t kind at l w.place w.here)
  where
    by_field : (r : Answer Found) {q : ℕ} → end_of q (fields_of f.people kinds q (drop (q - at) l)) ≡ e → field_step r ≡ Ok q
        → end_of at (entered kind at l (fields_of f.people kinds) r) ≡ e
    by_field (Err r) on p = cc
    by_field (Ok x) {q} on p = let z : x.stop ≡ q = cc in rw z on

pub accepted_filled : (f : Facts) (s : List ℕ) (t : Site) (g : Gt) → reading f s ≡ accepted_as t g → Filled s t
unfolding site_fields genotype_fields
accepted_filled f s t g h =
    let j = accepted_in_turn f s t g h in
    let p = accepted_people f s t g h in
    record { site = rw p (turns_end f t _ _ _ j.site); genotypes = rw p (turns_end f t _ _ _ j.genotypes) }
