-- `choose::choose` meets its contract.
use mathlib.Core.Path.{◌≡◌, ◌∙◌, refl, sym}
use Prim.Native.Nat.{◌<◌, ◌≤◌}
use native.Mathlib.Omega.{arith}
use lib.ListN.{length}
use lib.Seq.{length-take-le}
use borrow.Author.Tests.{lt-ltb, le-ltb}
use Rattle.choose.specs.Chosen.{chosen_block, chosen_record}
use Rattle.choose.specs.Choose.{choosing, after_choosing}
use Rattle.choose.proofs.People.{people_bound}
use Rattle.choose.proofs.Written.{length_chosen_record, kept_block}
use Rattle.choose.proofs.choose.Goals as goal

pub slice_bounds-kept_size-end : goal.slice_bounds-kept_size-end
slice_bounds-kept_size-end c =
    let i = c.in_ok-site.ensures.reading_inside in
    sym (length-take-le _ _ (omega (arith, i)))

pub overflow_add-border : goal.overflow_add-border
overflow_add-border c =
    let a = c.args in
    let site = c.in_ok-site.field-0.site in
    let i = c.in_ok-site.ensures.reading_inside in
    let small = rw (length-take-le site.length a.s.now (omega (arith, i))) at c.kept_size-size.ensures.upper_bound in
    omega (arith, i, small)

pub returns-then-buf-border : goal.returns-then-buf-border
unfolding choosing after_choosing
returns-then-buf-border c =
    let a = c.args in
    let site = c.in_ok-site.field-0.site in
    let h = sym c.read.ensures.value ∙ c.in_ok-site.was in
    let i = c.in_ok-site.ensures.reading_inside in
    let asc = sym c.is_ascending.ensures ∙ c.if-is_ascending.true in
    let block = chosen_block site a.choice.now a.s.now in
    let known = kept_block site a.choice.now a.s.now asc in
    let size : c.kept_size-size.result ≡ length block = c.kept_size-size.ensures.value ∙ rw c.kept_formats-count.ensures known in
    let whole = length_chosen_record site a.choice.now a.s.now (omega (arith, i)) in
    let q : length a.buf.now < length (chosen_record site a.choice.now a.s.now) = omega (arith, size, whole) in
    record { told = rw (h, asc, lt-ltb _ _ q); inside = tt; written = rw (h, asc, lt-ltb _ _ q) }

pub put_record-requires : goal.put_record-requires
put_record-requires c =
    let a = c.args in
    let site = c.in_ok-site.field-0.site in
    let h = sym c.read.ensures.value ∙ c.in_ok-site.was in
    let i = c.in_ok-site.ensures.reading_inside in
    let asc = sym c.is_ascending.ensures ∙ c.if-is_ascending.true in
    let block = chosen_block site a.choice.now a.s.now in
    let known = kept_block site a.choice.now a.s.now asc in
    let size : c.kept_size-size.result ≡ length block = c.kept_size-size.ensures.value ∙ rw c.kept_formats-count.ensures known in
    let small = rw (length-take-le site.length a.s.now (omega (arith, i))) at c.kept_size-size.ensures.upper_bound in
    let bound = people_bound a.facts a.s.now site c.in_ok-site.field-0.gt h in
    (refl, bound, omega (arith, i), omega (arith, i), omega (arith, i), omega (arith, i, small), size, omega (arith, i))

pub overflow_add-result : goal.overflow_add-result
overflow_add-result c =
    let a = c.args in
    let site = c.in_ok-site.field-0.site in
    let i = c.in_ok-site.ensures.reading_inside in
    let small = rw (length-take-le site.length a.s.now (omega (arith, i))) at c.kept_size-size.ensures.upper_bound in
    omega (arith, i, small)

pub returns-then-is_ascending : goal.returns-then-is_ascending
unfolding choosing after_choosing
returns-then-is_ascending c =
    let a = c.args in
    let site = c.in_ok-site.field-0.site in
    let h = sym c.read.ensures.value ∙ c.in_ok-site.was in
    let i = c.in_ok-site.ensures.reading_inside in
    let asc = sym c.is_ascending.ensures ∙ c.if-is_ascending.true in
    let block = chosen_block site a.choice.now a.s.now in
    let known = kept_block site a.choice.now a.s.now asc in
    let size : c.kept_size-size.result ≡ length block = c.kept_size-size.ensures.value ∙ rw c.kept_formats-count.ensures known in
    let small = rw (length-take-le site.length a.s.now (omega (arith, i))) at c.kept_size-size.ensures.upper_bound in
    let whole = length_chosen_record site a.choice.now a.s.now (omega (arith, i)) in
    let q : length (chosen_record site a.choice.now a.s.now) ≤ length a.buf.now = omega (arith, size, whole) in
    record {
      told = rw (h, asc, le-ltb _ _ q, whole, size);
      inside = omega (arith, i, small);
      written = rw (h, asc, le-ltb _ _ q) c.put_record.ensures;
    }

pub returns : goal.returns
unfolding choosing after_choosing
returns c =
    let h = sym c.read.ensures.value ∙ c.in_ok-site.was in
    let asc = sym c.is_ascending.ensures ∙ c.if-is_ascending.false in
    record { told = rw (h, asc); inside = tt; written = rw (h, asc) }
