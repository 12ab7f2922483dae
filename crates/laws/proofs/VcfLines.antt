-- Req 04, proved: the laws of a line cite the file of vcf_laws, vcf_qual or names that did the work, the answers unfold. Rests on specs/VcfLines.
use mathlib.Core.Path.{◌≡◌, refl, ◌∙◌}
use mathlib.Core.Logic.{◌⊎◌, inl, inr}
use mathlib.Core.List.{List}
use mathlib.Core.Bool.{Bool, true, false}
use Prim.Native.Nat.{ℕ, zero, suc, ◌<◌, ◌≤◌}
use native.Mathlib.Nat.{zero-add}
use native.Mathlib.Omega.{arith}
use lib.Ieee.{of_int, to_bits}
use lib.ListN.{length, take, drop}
use lib.Seq.{take-append_seam, drop-append_seam}
use borrow.Author.Tests.{lt-ltb, le-ltb, ne_eqb}
use Rattle.words.specs.Pick.{pick}
use Rattle.decimal.specs.Decimal.{decimal}
use Rattle.stores.proofs.Inside.{sets_start}
use Rattle.stores.proofs.Room.{filled_room}
use Rattle.values.specs.Answers.{refusal}
use Rattle.values.specs.declared.Refusal.{Refusal}
use Rattle.facts.specs.declared.Facts.{Facts}
use Rattle.fixed.specs.declared.Site.{Site}
use Rattle.genotypes.specs.declared.Gt.{Gt}
use Rattle.record.specs.Reading.{reading, accepted_as}
use Rattle.contents.specs.Contents.{shown_of}
use Rattle.names.specs.Names.{name_of}
use Rattle.names.proofs.Names.{zero_free}
use Rattle.vcf_qual.specs.Qual.{whole_of, missing_qual, printable, qual_text}
use Rattle.std.specs.Prelude.{Some, None, Err, Ok}
use Rattle.vcf_qual.proofs.Bits.{whole_bits, bits_whole, two_zeros, number_small}
use Rattle.vcf_qual.proofs.Text.{text_number, Printed, missing, number, printed as printed-qual, qual_alike}
use Rattle.vcf_line.specs.Line.{vcf_line, Names, is_short, line, unprinted, printed, answer_for, line_answer, after_line}
use Rattle.vcf_laws.specs.Lines.{Without, names_of, stretches_of}
use Rattle.vcf_laws.proofs.Apart.{apart, distinct_names, told_apart}
use Rattle.vcf_laws.proofs.Chosen.{chosen_line}
use Rattle.vcf_laws.proofs.Tabs.{tabs, line_feed}
use Rattle.vcf_laws.proofs.Witnesses.{needed}
use Rattle.refusal_laws.proofs.AfterReading.{line_refused}
use Rattle.laws.specs.VcfLines.{Ready, float_bits, WholeFloat, VcfLines}

prints_shown : (f : Facts) (strings contigs : Names) (s : List ℕ) (t : Site) (g : Gt) → Ready f s t g → f.strings ≤ length strings.ends
    → f.contigs ≤ length contigs.ends
    → printed f strings contigs s ≡ line (vcf_line f.gt f.people (names_of strings) (names_of contigs) (shown_of t s))
unfolding printed
prints_shown f strings contigs s t g h m n = rw (h.read, h.qual, le-ltb _ _ m, le-ltb _ _ n)

name_whole : (names : Names) (i : ℕ) → Without 0 (names_of names i)
unfolding name_of
name_whole names i = zero_free (stretches_of names i)

-- what is answered
answers_unread : (f : Facts) (strings contigs : Names) (s : List ℕ) (room : ℕ) (r : Refusal) → reading f s ≡ Err r
    → line_answer f strings contigs room s ≡ Err r
unfolding line_answer printed
answers_unread f strings contigs s room r h = rw h

answers_qual : (f : Facts) (strings contigs : Names) (s : List ℕ) (t : Site) (g : Gt) (room : ℕ) → reading f s ≡ accepted_as t g
    → printable t.qual ≡ false → line_answer f strings contigs room s ≡ Err (refusal 17 0)
unfolding line_answer printed
answers_qual f strings contigs s t g room h q = rw (h, q)

-- where the list of strings is too short, and where that of contigs is, whatever the other
answers_names : (f : Facts) (strings contigs : Names) (s : List ℕ) (t : Site) (g : Gt) (room : ℕ) → Ready f s t g
    → (length strings.ends < f.strings) ⊎ (length contigs.ends < f.contigs) → line_answer f strings contigs room s ≡ Err (refusal 18 0)
unfolding line_answer printed
answers_names f strings contigs s t g room h (inl n) = rw (h.read, h.qual, lt-ltb _ _ n)
answers_names f strings contigs s t g room h (inr n) = rw (h.read, h.qual, lt-ltb _ _ n) (by-test (is_short f.strings strings))
  where
    by-test : (b : Bool) → answer_for room (pick b (unprinted (refusal 18 0)) (unprinted (refusal 18 0))) ≡ Err (refusal 18 0)
    by-test true = refl
    by-test false = refl

answers_short : (f : Facts) (strings contigs : Names) (s l : List ℕ) (room : ℕ) → printed f strings contigs s ≡ line l → room < length l
    → line_answer f strings contigs room s ≡ Err (refusal 13 0)
unfolding line_answer
answers_short f strings contigs s l room h r = rw (h, lt-ltb _ _ r)

answers_written : (f : Facts) (strings contigs : Names) (s l : List ℕ) (room : ℕ) → printed f strings contigs s ≡ line l → length l ≤ room
    → line_answer f strings contigs room s ≡ Ok (length l)
unfolding line_answer
answers_written f strings contigs s l room h r = rw (h, le-ltb _ _ r)

-- the buffer
buffer_begins : (f : Facts) (strings contigs : Names) (s l buf : List ℕ) → printed f strings contigs s ≡ line l → length l ≤ length buf
    → take (length l) (after_line f strings contigs buf s) ≡ l
unfolding after_line
buffer_begins f strings contigs s l buf h r =
    rw (h, filled_room buf 0 l (rw zero-add r), sets_start buf l r) (take-append_seam l _)

buffer_stays : (f : Facts) (strings contigs : Names) (s l buf : List ℕ) → printed f strings contigs s ≡ line l → length l ≤ length buf
    → drop (length l) (after_line f strings contigs buf s) ≡ drop (length l) buf
unfolding after_line
buffer_stays f strings contigs s l buf h r =
    rw (h, filled_room buf 0 l (rw zero-add r), sets_start buf l r) (drop-append_seam l _)

-- QUAL: a number is not the missing mark, which is taken for none
not_missing : (q n : ℕ) → whole_of q ≡ Some n → q ≡ missing_qual → ⊥
not_missing q n h e =
    let m : whole_of missing_qual ≡ None = unfold whole_of in refl in
    let z : ◌≡◌ {A = ℕ} 0 1 = cc in
    omega arith

qual_digits : (n : ℕ) → n < 16777216 → (printable (float_bits n) ≡ true) × (qual_text (float_bits n) ≡ decimal n)
unfolding printable
qual_digits n h =
    let w = whole_bits n h in
    let o = not_missing (float_bits n) n w in
    (rw (ne_eqb (float_bits n) missing_qual o, w), text_number (float_bits n) n o w)

zero_bits : 0 ≡ float_bits 0
unfolding of_int to_bits
zero_bits = refl

qual_no_other : (q : ℕ) → q < 4294967296 → printable q ≡ true → (q ≡ missing_qual) ⊎ ((q ≡ 0x80000000) ⊎ WholeFloat q)
qual_no_other q l h = by-text (printed-qual q h)
  where
    by-zeros : (q ≡ 0) ⊎ (q ≡ 0x80000000) → (q ≡ missing_qual) ⊎ ((q ≡ 0x80000000) ⊎ WholeFloat q)
    by-zeros (inl z) = inr (inr (record { number = 0; most = omega arith; bits = z ∙ zero_bits }))
    by-zeros (inr z) = inr (inl z)

    by_number : (n : ℕ) → whole_of q ≡ Some n → (q ≡ missing_qual) ⊎ ((q ≡ 0x80000000) ⊎ WholeFloat q)
    by_number zero e = by-zeros (two_zeros q l e)
    by_number (suc n) e = inr (inr (record { number = suc n; most = number_small q (suc n) e; bits = bits_whole q (suc n) e (omega arith) }))

    by-text : Printed q → (q ≡ missing_qual) ⊎ ((q ≡ 0x80000000) ⊎ WholeFloat q)
    by-text (missing m e) = inl m
    by-text (number n w e) = by_number n w

pub vcf_lines : VcfLines
unfolding whole_of printable qual_text
vcf_lines =
    record {
      shown = prints_shown;
      name = name_whole;
      unread = answers_unread;
      qual = answers_qual;
      names = answers_names;
      short = answers_short;
      written = answers_written;
      begins = buffer_begins;
      stays = buffer_stays;
      refused = λ f strings contigs s buf r h. (line_refused f strings contigs buf s r h).1;
      apart = λ f₁ f₂ strings₁ strings₂ contigs s₁ s₂ t₁ t₂ g₁ g₂ l p q.
          apart f₁ f₂ strings₁ strings₂ contigs s₁ s₂ t₁ t₂ g₁ g₂ l p.bytes q.bytes p.read q.read p.prints q.prints;
      distinct_names = distinct_names;
      apart_words = λ f₁ f₂ strings₁ strings₂ contigs s₁ s₂ t₁ t₂ g₁ g₂ l p q.
          told_apart f₁ f₂ strings₁ strings₂ contigs s₁ s₂ t₁ t₂ g₁ g₂ l p.bytes q.bytes p.read q.read p.prints q.prints;
      needed = needed;
      dotted = (refl, refl);
      digits = qual_digits;
      minus_zero = (refl, refl);
      no_other = qual_no_other;
      whole_bits = whole_bits;
      bits_whole = bits_whole;
      two_zeros = two_zeros;
      qual_alike = qual_alike;
      tabs = λ f strings contigs s t g l p. tabs f strings contigs s t g l p.bytes p.read p.prints;
      line_feed = λ f strings contigs s t g l p. line_feed f strings contigs s t g l p.bytes p.read p.prints;
      chosen_line = λ f strings contigs s t g cs l c p. chosen_line f strings contigs s t g cs l c.bytes c.read c.ascends p;
    }
