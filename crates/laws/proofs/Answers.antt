-- Promises fix answers. Rests on specs/Answers.
use Prim.Native.Nat.{ℕ, ◌/◌, ◌%◌, ◌<◌, ◌≤◌}
use mathlib.Core.Path.{◌≡◌, ◌∙◌, sym, refl}
use mathlib.Core.List.{List, ◌++◌}
use native.Mathlib.Omega.{arith}
use lib.ListN.{length, length-append, length-replicate}
use lib.Seq.{take_at}
use native.Mathlib.Nat.{mod-eq_of_lt}
use borrow.Author.Tests.{lt-ltb, le-ltb}
use Rattle.words.specs.Words.{Bytes}
use Rattle.values.specs.Answers.{refusal}
use Rattle.values.specs.Values.{present, described}
use Rattle.positions.proofs.Convert.{pos_bits_bound, pos_of_fits, pos_of_pos_bits}
use Rattle.fixed.specs.Layout.{chrom_at, pos_at, rlen_at, qual_at, counts_at, people_at, field}
use Rattle.facts.specs.declared.Facts.{Facts}
use Rattle.fixed.specs.declared.Site.{Site}
use Rattle.genotypes.specs.declared.Gt.{Gt}
use Rattle.record.specs.Reading.{reading, accepted_as}
use Rattle.record.proofs.Accepted.{accepted_fits}
use Rattle.fetch.specs.Fields.{alone}
use Rattle.fetch.specs.Account.{fields_of, site_kinds, site_fields, genotype_fields, account, of_kind, numbered}
use Rattle.fetch.specs.Fetch.{field_of, found}
use Rattle.fetch.specs.declared.Kind.{Kind}
use Rattle.choose_laws.proofs.Stored.{field_bound}
use Rattle.build.specs.Order.{rank}
use Rattle.build.specs.Turns.{fresh_state}
use Rattle.build.specs.declared.Stage.{Stage}
use Rattle.build.specs.declared.Stage.TheVariants.{Fresh, Begun, Named, Alleles, Filtered, Infos, Formats, Ended}
use Rattle.build.specs.declared.Builder.{Builder}
use Rattle.c_answers.specs.Told.{answer, refused_answer, site_numbers, site_told, empty_site}
use Rattle.c_state.specs.Kept.{stage_of, state_numbers, state_of}
use Rattle.std.specs.Prelude.{Err}
use Rattle.laws.specs.Answers.{Ranges, SiteRanges, Answers}

number_told : (n low : ℕ) → answer n low / 4294967296 ≡ n
unfolding answer
number_told n low = omega arith

low_told : (n low : ℕ) → low < 4294967296 → answer n low % 4294967296 ≡ low
unfolding answer
low_told n low h = omega arith

stage_back : (stage : Stage) → stage_of (rank stage) ≡ stage
unfolding stage_of
stage_back Fresh = refl
stage_back Begun = refl
stage_back Named = refl
stage_back Alleles = refl
stage_back Filtered = refl
stage_back Infos = refl
stage_back Formats = refl
stage_back Ended = refl

state_back : (st : Builder) (rest : List ℕ) → Ranges st → state_of (state_numbers st ++ rest) ≡ st
unfolding state_of
state_back st rest r =
    let all = length-append st.keys rest in
    let room : 266 ≤ length (state_numbers st ++ rest) = omega (arith, all, r.keys) in
    rw (le-ltb _ _ room, mod-eq_of_lt r.alleles, mod-eq_of_lt r.infos, mod-eq_of_lt r.formats, stage_back st.stage, take_at st.keys rest 256 r.keys)

fresh_ranges : Ranges fresh_state
unfolding fresh_state
fresh_ranges = record { alleles = omega arith; infos = omega arith; formats = omega arith; keys = length-replicate {A = ℕ} 256 0 }

site_back : (t : Site) (g : Gt) (rest : List ℕ) → SiteRanges t → site_told (site_numbers t g ++ rest) ≡ t
unfolding site_told
site_back t g rest r =
    let room : 13 ≤ length (site_numbers t g ++ rest) = omega arith in
    rw (le-ltb _ _ room, mod-eq_of_lt r.chrom, mod-eq_of_lt (pos_bits_bound t.pos r.pos), pos_of_pos_bits t.pos r.pos, mod-eq_of_lt r.rlen, mod-eq_of_lt r.qual, mod-eq_of_lt r.alleles, mod-eq_of_lt r.infos, mod-eq_of_lt r.formats, mod-eq_of_lt r.people)

-- a fixed field is a number of four bytes, and a count is a part of one
site_ranges : (f : Facts) (s : List ℕ) (t : Site) (g : Gt) → Bytes s → reading f s ≡ accepted_as t g → SiteRanges t
site_ranges f s t g b h =
    let fits = accepted_fits f s t g h in
    let long : 32 ≤ length s = omega (arith, fits.border, fits.whole, fits.there, fits.site) in
    let counts = field_bound counts_at s b (omega arith) in
    let members = field_bound people_at s b (omega arith) in
    record {
      chrom = rw fits.chrom at (field_bound chrom_at s b (omega arith));
      pos = rw fits.pos at (pos_of_fits (field pos_at s) (field_bound pos_at s b (omega arith)));
      rlen = rw fits.rlen at (field_bound rlen_at s b (omega arith));
      qual = rw fits.qual at (field_bound qual_at s b (omega arith));
      alleles = omega (arith, counts, fits.alleles);
      infos = omega (arith, counts, fits.infos);
      formats = omega (arith, members, fits.formats);
      people = omega (arith, members, fits.people);
    }

told_again : (f : Facts) (s : List ℕ) (t : Site) (g : Gt) (rest : List ℕ) (kind : Kind) (number : ℕ) → Bytes s → reading f s ≡ accepted_as t g
    → field_of kind number (site_told (site_numbers t g ++ rest)) s ≡ found f kind number s
unfolding found
told_again f s t g rest kind number b h = rw (site_back t g rest (site_ranges f s t g b h), h)

-- both blocks of the empty site are empty, so the first value is cut short
empty_none : (kind : Kind) (number : ℕ) (s : List ℕ) → field_of kind number empty_site s ≡ Err (refusal 16 0)
unfolding field_of numbered of_kind account site_fields genotype_fields site_kinds fields_of alone present described
empty_none kind number s = refl

few_none : (ns s : List ℕ) (kind : Kind) (number : ℕ) → length ns < 13 → field_of kind number (site_told ns) s ≡ Err (refusal 16 0)
unfolding site_told
few_none ns s kind number h = rw (lt-ltb _ _ h) (empty_none kind number s)

pub promises_fix : Answers
unfolding refused_answer
promises_fix =
    record {
      one = λ promised first second p q. p ∙ sym q;
      both = λ promised first second p q. λ i. ((p.0 ∙ sym q.0) i, (p.1 ∙ sym q.1) i);
      three = λ a a' a'' b b' b'' c c' c'' p q. (p.0 ∙ sym q.0, p.1 ∙ sym q.1, p.2 ∙ sym q.2);
      part = λ first second contents place p q. (p.0 ∙ sym q.0, p.1 ∙ sym q.1);
      number = number_told;
      low = low_told;
      refusal_said = λ r. refl;
      end_said = λ room. refl;
      reading_said = λ t g. refl;
      field_said = λ key t n place stop. refl;
      pair_said = λ key t n place next. refl;
      tally_said = λ t k. refl;
      fresh = fresh_ranges;
      state = state_back;
      site = site_back;
      ranges = site_ranges;
      again = told_again;
      few = few_none;
    }
