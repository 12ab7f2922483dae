-- The front and the site block of the chosen record: all is as it was but l_indiv and the people count. Rests on proofs/Stored,
-- proofs/Sets, and choose's facts about the front.
use mathlib.Core.Path.{◌≡◌, refl, ◌∙◌, ap}
use mathlib.Core.List.{List, [], ◌∷◌}
use mathlib.Core.Bool.{false}
use Prim.Native.Nat.{ℕ, suc, ◌+◌, ◌-◌, ◌≤◌, ◌<◌, ◌^◌}
use native.Mathlib.Omega.{arith}
use lib.ListN.{length, take, drop}
use lib.Seq.{sets, length-sets, length-take-le, take_at, drop_at}
use borrow.Author.Tests.{eq-eqb, ne_eqb}
use Rattle.words.specs.Words.{bytes, Bytes}
use Rattle.words.proofs.Words.{length_bytes}
use Rattle.positions.specs.Positions.{pos_of}
use Rattle.fixed.specs.Layout.{indiv_at, chrom_at, pos_at, rlen_at, counts_at, people_at, qual_at, id_at, members_of, field, people_wrong}
use Rattle.facts.specs.declared.Facts.{Facts}
use Rattle.fixed.specs.declared.Site.{Site}
use Rattle.choose.specs.Chosen.{kept_formats, chosen_block, chosen_site, chosen_record}
use Rattle.fixed.proofs.Fits.{Fits}
use Rattle.choose.proofs.Written.{length_chosen_site, length_chosen_record}
use Rattle.choose_laws.specs.Releases.{for_people, released_site}
use Rattle.choose_laws.proofs.Sets.{drop_sets}
use Rattle.fetch_laws.proofs.Fronts.{field_take, field_append}
use Rattle.choose_laws.proofs.Stored.{field_elsewhere, field_stored, field_bound}

-- the bytes from ID on stay
pub drop_chosen_site : (t : Site) (cs : List ℕ) (n : ℕ) (s : List ℕ) → drop id_at (chosen_site t cs n s) ≡ drop id_at (take t.border s)
unfolding chosen_site
drop_chosen_site t cs n s =
    let members = members_of (kept_formats cs t.formats) (length cs) in
    let l = take t.border s in
    let a = length_bytes 4 n in
    let b = length_bytes 4 members in
    drop_sets (bytes 4 members) (sets l indiv_at (bytes 4 n)) people_at id_at (omega arith) ∙ drop_sets (bytes 4 n) l indiv_at id_at (omega arith)

-- so do the fields but the two
field_chosen_site : (t : Site) (cs : List ℕ) (n : ℕ) (s : List ℕ) (p : ℕ) → 4 ≤ indiv_at - p + (p - indiv_at) → 4 ≤ people_at - p + (p - people_at)
    → p + 4 ≤ t.border → field p (chosen_site t cs n s) ≡ field p s
unfolding chosen_site
field_chosen_site t cs n s p h k e =
    let members = members_of (kept_formats cs t.formats) (length cs) in
    let l = take t.border s in
    let a = length_bytes 4 n in
    let b = length_bytes 4 members in
    field_elsewhere p people_at (sets l indiv_at (bytes 4 n)) (bytes 4 members) (omega arith) k
    ∙ field_elsewhere p indiv_at l (bytes 4 n) (omega arith) h ∙ field_take p t.border s e

indiv_chosen_site : (t : Site) (cs : List ℕ) (n : ℕ) (s : List ℕ) → id_at ≤ t.border → t.border ≤ length s → n < 2 ^ 32
    → field indiv_at (chosen_site t cs n s) ≡ n
unfolding chosen_site
indiv_chosen_site t cs n s h k b =
    let members = members_of (kept_formats cs t.formats) (length cs) in
    let l = take t.border s in
    let a = length_bytes 4 members in
    let e = length-take-le t.border s k in
    field_elsewhere indiv_at people_at (sets l indiv_at (bytes 4 n)) (bytes 4 members) (omega arith) (omega arith)
    ∙ field_stored indiv_at n l (omega arith) b

people_chosen_site : (t : Site) (cs : List ℕ) (n : ℕ) (s : List ℕ) → id_at ≤ t.border → t.border ≤ length s
    → members_of (kept_formats cs t.formats) (length cs) < 2 ^ 32
    → field people_at (chosen_site t cs n s) ≡ members_of (kept_formats cs t.formats) (length cs)
unfolding chosen_site
people_chosen_site t cs n s h k b =
    let l = take t.border s in
    let a = length-sets l indiv_at (bytes 4 n) in
    let e = length-take-le t.border s k in
    field_stored people_at (members_of (kept_formats cs t.formats) (length cs)) (sets l indiv_at (bytes 4 n)) (omega arith) b

-- the chosen record is its site and its genotype block
pub take_chosen_record : (t : Site) (cs s : List ℕ) → t.border ≤ length s
    → take t.border (chosen_record t cs s) ≡ chosen_site t cs (length (chosen_block t cs s)) s
unfolding chosen_record
take_chosen_record t cs s h =
    let n = length (chosen_block t cs s) in
    take_at (chosen_site t cs n s) (chosen_block t cs s) t.border (length_chosen_site t cs n s h)

pub drop_chosen_record : (t : Site) (cs s : List ℕ) → t.border ≤ length s → drop t.border (chosen_record t cs s) ≡ chosen_block t cs s
unfolding chosen_record
drop_chosen_record t cs s h =
    let n = length (chosen_block t cs s) in
    drop_at (chosen_site t cs n s) (chosen_block t cs s) t.border (length_chosen_site t cs n s h)

field_chosen_record : (t : Site) (cs s : List ℕ) (p : ℕ) → t.border ≤ length s → p + 4 ≤ t.border
    → field p (chosen_record t cs s) ≡ field p (chosen_site t cs (length (chosen_block t cs s)) s)
unfolding chosen_record
field_chosen_record t cs s p h k =
    let n = length (chosen_block t cs s) in
    let e = length_chosen_site t cs n s h in
    field_append p (chosen_site t cs n s) (chosen_block t cs s) (omega arith)

people_right_lem : (cs : List ℕ) (formats : ℕ) → people_wrong (length cs) (kept_formats cs formats) (length cs) ≡ false
unfolding people_wrong
people_right_lem [] formats = refl
people_right_lem (c ∷ cs) formats = rw (eq-eqb (suc (length cs)) (suc (length cs)) refl, ne_eqb (suc (length cs)) 0 (λ e. omega arith))

kept_most : (cs : List ℕ) (formats : ℕ) → kept_formats cs formats ≤ formats
kept_most [] formats = omega arith
kept_most (c ∷ cs) formats = omega arith

pub fits_chosen_record : (f : Facts) (s : List ℕ) (t : Site) (cs : List ℕ) → Bytes s → Fits f s t → length cs ≤ t.people
    → length (chosen_block t cs s) ≤ t.length - t.border → Fits (for_people (length cs) f) (chosen_record t cs s) (released_site cs s t)
fits_chosen_record f s t cs b x c n =
    let r = chosen_record t cs s in
    let size = length (chosen_block t cs s) in
    let i = x.site in
    let j = x.there in
    let m = x.most in
    let o = x.whole in
    let q = x.border in
    let h : t.border ≤ length s = omega arith in
    let bound = field_bound people_at s b (omega arith) in
    let formats = x.formats in
    let people = x.people in
    let kept = kept_most cs t.formats in
    let members = members_of (kept_formats cs t.formats) (length cs) in
    let small : members < 2 ^ 32 = omega arith in
    let few : size < 2 ^ 32 = omega arith in
    let len = length_chosen_record t cs s h in
    let e0 : field 0 r ≡ field 0 s = kept_field 0 h (omega arith) (omega arith) (omega arith) in
    let e4 : field indiv_at r ≡ size = field_chosen_record t cs s indiv_at h (omega arith) ∙ indiv_chosen_site t cs size s i h few in
    let pos : field pos_at r ≡ field pos_at s = kept_field pos_at h (omega arith) (omega arith) (omega arith) in
    let counts : field counts_at r ≡ field counts_at s = kept_field counts_at h (omega arith) (omega arith) (omega arith) in
    let told : field people_at r ≡ members = field_chosen_record t cs s people_at h (omega arith) ∙ people_chosen_site t cs size s i h small in
    record {
      border = omega arith;
      whole = omega arith;
      there = omega arith;
      most = omega arith;
      site = i;
      chrom = kept_field chrom_at h (omega arith) (omega arith) (omega arith) ∙ x.chrom;
      pos = ap pos_of pos ∙ x.pos;
      rlen = kept_field rlen_at h (omega arith) (omega arith) (omega arith) ∙ x.rlen;
      qual = kept_field qual_at h (omega arith) (omega arith) (omega arith) ∙ x.qual;
      alleles = rw counts x.alleles;
      infos = rw counts x.infos;
      formats = rw told (omega arith);
      people = rw told (omega arith);
      chrom_right = x.chrom_right;
      pos_right = rw pos x.pos_right;
      rlen_right = x.rlen_right;
      counts_right = x.counts_right;
      people_right = people_right_lem cs t.formats;
      qual_right = x.qual_right;
    }
  where
    kept_field : (p : ℕ) → t.border ≤ length s → p + 4 ≤ t.border → 4 ≤ indiv_at - p + (p - indiv_at) → 4 ≤ people_at - p + (p - people_at)
        → field p (chosen_record t cs s) ≡ field p s
    kept_field p h k u v = field_chosen_record t cs s p h k ∙ field_chosen_site t cs (length (chosen_block t cs s)) s p u v k
