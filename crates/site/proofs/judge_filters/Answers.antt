-- `site::judge_filters` meets its contract: by the law of the two indices.
use mathlib.Core.Path.{◌∙◌, sym}
use native.Mathlib.Omega.{arith}
use lib.ListN.{length}
use lib.Seq.{length-take-le}
use borrow.Author.Tests.{lt-ltb, le-ltb}
use Rattle.repeats.proofs.Elements.{front_room}
use Rattle.site.proofs.Filters.{filtered_verdict}
use Rattle.site.proofs.judge_filters.Goals as goal

pub overflow_mul-stop : goal.overflow_mul-stop
overflow_mul-stop c =
    let o = c.row_of-row.ensures.width_value.0 in
    let h = rw (← o) at c.first_outside-sound.ensures.upper_bound in
    omega (arith, front_room c.first_outside-sound.result c.row_of-row.result.width (length c.args.part.now) h)

pub slice_bounds-first_repeat-end : goal.slice_bounds-first_repeat-end
slice_bounds-first_repeat-end c =
    let v = c.args.part.now in
    let o = c.row_of-row.ensures.width_value.0 in
    let h = rw (← o) at c.first_outside-sound.ensures.upper_bound in
    sym (length-take-le _ v (front_room c.first_outside-sound.result c.row_of-row.result.width (length v) h))

pub overflow_mul-result : goal.overflow_mul-result
overflow_mul-result c =
    let o = c.row_of-row.ensures.width_value.0 in
    let h = rw (← o) at c.first_outside-sound.ensures.upper_bound in
    omega (arith, front_room c.first_repeat-first.result c.row_of-row.result.width (length c.args.part.now) (omega (arith, h, c.if-first-sound.true)))

pub returns-then-first-sound : goal.returns-then-first-sound
returns-then-first-sound c =
    let a = c.args in
    let w = c.row_of-row.result.width in
    let o = c.row_of-row.ensures.width_value.0 in
    let k = c.first_outside-sound in
    let r = c.first_repeat-first in
    let v = filtered_verdict a.part.now a.strings a.code w c.over-count.result k.result r.result o c.over-count.ensures.value k.ensures.value k.ensures.upper_bound r.ensures in
    let h = rw (← o) at k.ensures.upper_bound in
    record {
      value = sym (v ∙ rw (lt-ltb _ _ c.if-first-sound.true));
      judged_inside = front_room r.result w (length a.part.now) (omega (arith, h, c.if-first-sound.true));
    }

pub returns-then-sound-count : goal.returns-then-sound-count
returns-then-sound-count c =
    let a = c.args in
    let w = c.row_of-row.result.width in
    let o = c.row_of-row.ensures.width_value.0 in
    let k = c.first_outside-sound in
    let r = c.first_repeat-first in
    let v = filtered_verdict a.part.now a.strings a.code w c.over-count.result k.result r.result o c.over-count.ensures.value k.ensures.value k.ensures.upper_bound r.ensures in
    let h = rw (← o) at k.ensures.upper_bound in
    record {
      value = sym (v ∙ rw (le-ltb _ _ c.if-first-sound.false, lt-ltb _ _ c.if-sound-count.true));
      judged_inside = front_room k.result w (length a.part.now) h;
    }

pub returns : goal.returns
returns c =
    let a = c.args in
    let w = c.row_of-row.result.width in
    let o = c.row_of-row.ensures.width_value.0 in
    let k = c.first_outside-sound in
    let r = c.first_repeat-first in
    let v = filtered_verdict a.part.now a.strings a.code w c.over-count.result k.result r.result o c.over-count.ensures.value k.ensures.value k.ensures.upper_bound r.ensures in
    let h = rw (← o) at k.ensures.upper_bound in
    record { value = sym (v ∙ rw (le-ltb _ _ c.if-first-sound.false, le-ltb _ _ c.if-sound-count.false)); judged_inside = tt }
