-- `c_answers::tell_calls` meets its contract.
use mathlib.Core.Path.{◌≡◌, ◌∙◌, sym, refl}
use mathlib.Core.List.{List, ◌∷◌, ◌++◌, []}
use native.Mathlib.Omega.{arith}
use Prim.Native.Nat.{ℕ, ◌+◌, ◌<◌, ◌≤◌}
use lib.ListN.{length}
use Rattle.stores.proofs.Room.{filled_short, filled_room, filled_append}
use Rattle.c_answers.specs.Told.{tally_numbers}
use Rattle.c_answers.proofs.Room.{told_short, told_room, stored_numbers}
use Rattle.c_answers.proofs.tell_calls.Goals as goal

pub returns-then-out-lt68 : goal.returns-then-out-lt68
returns-then-out-lt68 c =
    let q = c.if-out-lt68.true in
    let k : length c.args.calls.counts ≡ 65 = c.well_formed.1.0.1.1.1.0.1.0.1 in
    let a = c.args in
    let h : length a.out.now < length (tally_numbers a.site a.calls) = omega (arith, q, k) in
    record {
      told = c.answer_of.ensures ∙ sym (told_short _ _ _ h);
      written = sym (filled_short _ 0 _ (omega (arith, h)));
    }

pub returns : goal.returns
returns c =
    let q = c.if-out-lt68.false in
    let a = c.args in
    let k : length a.calls.counts ≡ 65 = c.well_formed.1.0.1.1.1.0.1.0.1 in
    let first : List ℕ = a.site.alleles ∷ a.site.people ∷ a.calls.without ∷ [] in
    let h : 0 + length (first ++ a.calls.counts) ≤ length a.out.now = omega (arith, q, k) in
    let both = filled_append a.out.now 0 3 first a.calls.counts refl h ∙ sym (filled_room a.out.now 0 (first ++ a.calls.counts) h) in record {
      told = c.answer_of-2.ensures ∙ sym (told_room _ (tally_numbers a.site a.calls) _ (omega (arith, h)));
      written = rw (c.put_all-2.ensures, c.put_all.ensures, stored_numbers, stored_numbers) both;
    }
