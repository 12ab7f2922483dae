-- The marked examples are computed. Rests on specs/Marked.
use mathlib.Core.Path.{refl, ap}
use Prim.Native.Nat.{suc, ◌+◌}
use native.Mathlib.Omega.{arith}
use lib.ListN.{length, take, drop}
use borrow.Author.Tests.{le-leb}
use Rattle.words.specs.Words.{le, number}
use Rattle.types.specs.Rows.{row_of, width_of}
use Rattle.types.specs.Elements.{marked, kind, widened, shown, narrowest}
use Rattle.values.specs.Values.{integer, true_length, may_stand, described, present}
use Rattle.vectors.specs.Vectors.{numbers, vector, vectors, judged}
use Rattle.vectors.specs.Sound.{highest, code_most, sound}
use Rattle.fixed.specs.Layout.{indiv_at, field}
use Rattle.elements.specs.Elements.{shown_by, element_at, code_call, call_at}
use Rattle.tally.specs.declared.Tallied.{Tallied}
use Rattle.laws.specs.Marked.{Marked}
use Rattle.laws.proofs.Cut.{sample_cut}
use Rattle.laws.proofs.Sample.{sample_read}

pub examples : Marked
unfolding le number row_of width_of marked kind widened shown narrowest integer true_length may_stand described present numbers vector vectors judged highest code_most sound shown_by element_at code_call call_at field
examples =
    record {
      m1 = λ rest. refl;
      m2 = refl;
      m3 = refl;
      m4 = λ rest. refl;
      m5 = λ rest. refl;
      m6_low = refl;
      m6_high = refl;
      m6_below = refl;
      m6_above = refl;
      m7_low = refl;
      m7_high = refl;
      m7_below = refl;
      m7_above = refl;
      m8_shown = refl;
      m8_refused = refl;
      m9_accepted = λ rest. rw (le-leb 4 (0 + suc (suc (suc (suc (length rest))))) (omega arith));
      m9_refused = λ rest. rw (le-leb 4 (0 + suc (suc (suc (suc (length rest))))) (omega arith));
      m10_call = refl;
      m10_accepted = λ rest. rw (le-leb 2 (0 + suc (suc (length rest))) (omega arith));
      m10_high = λ rest. rw (le-leb 2 (0 + suc (suc (length rest))) (omega arith));
      m10_negative = λ rest. rw (le-leb 2 (0 + suc (suc (length rest))) (omega arith));
      m11 = ap (λ (t : Tallied). take 2 (drop 1 t.calls.counts)) sample_read.tally;
      m12_indiv = ap (field indiv_at) sample_cut.bytes;
      m12_gt = sample_cut.gt;
      m12_tally = ap (λ (t : Tallied). take 2 (drop 1 t.calls.counts)) sample_cut.tally;
    }
