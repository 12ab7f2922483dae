-- `cuts::say_record` meets its contract. By whether bytes follow the record: what reading said of it, or what choosing said.
use mathlib.Core.Path.{◌∙◌, ap, sym}
use mathlib.Core.List.{List}
use Prim.Native.Nat.{ℕ, ◌≤◌}
use native.Mathlib.Omega.{arith}
use lib.ListN.{length, take}
use lib.Seq.{sets, length-take-le}
use Rattle.std.proofs.Common.{Some}
use Rattle.cuts.specs.Cuts.{record_text}
use Rattle.cuts.proofs.Cuts.{unread_said, followed_said, chosen_said, refused_said, said_as, said_in_as}
use Rattle.cuts.proofs.say_record.Goals as goal

pub returns-in-Ok : goal.returns-in-Ok
returns-in-Ok c =
    let a = c.args in
    let pre = c.requires in
    let w = sym c.is_followed.ensures ∙ c.if-is_followed.true in
    let h = sym c.read.ensures.value ∙ c.in-Ok.is in
    let e = followed_said a.facts a.choice.now a.chosen.now a.bytes.now _ _ w h in
    let p = c.say_bad.ensures in record {
      value = p.told ∙ said_as a.out.now _ _ pre.2 e.0;
      text_inside = p.inside;
      out_after = p.written ∙ said_in_as a.out.now _ _ pre.2 e.0;
      chosen_after = sym e.1;
    }

pub returns-in-Err : goal.returns-in-Err
returns-in-Err c =
    let a = c.args in
    let pre = c.requires in
    let h = sym c.read.ensures.value ∙ c.in-Err.is in
    let e = unread_said a.facts a.choice.now a.chosen.now a.bytes.now _ h in
    let p = c.say_refusal.ensures in record {
      value = p.told ∙ said_as a.out.now _ _ pre.2 e.0;
      text_inside = p.inside;
      out_after = p.written ∙ said_in_as a.out.now _ _ pre.2 e.0;
      chosen_after = sym e.1;
    }

pub slice_bounds-say_text-end : goal.slice_bounds-say_text-end
slice_bounds-say_text-end c =
    let i = rw c.in-Ok-choose.is at c.choose.ensures.inside in
    let q : c.in-Ok-choose.n ≤ length c.choose.new.buf = omega (arith, i, c.choose.auto.buf) in
    q

pub slice_bounds-say_text-end-in-Ok-choose : goal.slice_bounds-say_text-end-in-Ok-choose
slice_bounds-say_text-end-in-Ok-choose c =
    let i = rw c.in-Ok-choose.is at c.choose.ensures.inside in
    let q : c.in-Ok-choose.n ≤ length c.choose.new.buf = omega (arith, i, c.choose.auto.buf) in
    sym (length-take-le _ _ q)

pub say_text-requires : goal.say_text-requires
say_text-requires c =
    let i = rw c.in-Ok-choose.is at c.choose.ensures.inside in
    let q : c.in-Ok-choose.n ≤ length c.choose.new.buf = omega (arith, i, c.choose.auto.buf) in
    let a = c.args in
    let pre = c.requires in
    let w = sym c.is_followed.ensures ∙ c.if-is_followed.false in
    let h = sym c.choose.ensures.told ∙ c.in-Ok-choose.is in
    let n = c.in-Ok-choose.n in
    let e = chosen_said a.facts a.choice.now a.chosen.now a.bytes.now n w (omega arith) h in
    let l = length-take-le n c.choose.new.buf q in
    (rw l (omega (arith, e)), pre.2)

pub returns-in-Ok-choose : goal.returns-in-Ok-choose
returns-in-Ok-choose c =
    let a = c.args in
    let pre = c.requires in
    let w = sym c.is_followed.ensures ∙ c.if-is_followed.false in
    let h = sym c.choose.ensures.told ∙ c.in-Ok-choose.is in
    let n = c.in-Ok-choose.n in
    let e = chosen_said a.facts a.choice.now a.chosen.now a.bytes.now n w (omega arith) h in
    let after = c.choose.ensures.written in
    let t = e.0 ∙ ap (λ (b : List ℕ). record_text (take n b)) (sym after) in
    let p = c.say_text.ensures in record {
      value = p.value ∙ ap (λ (x : List ℕ). Some (length x)) (sym t);
      text_inside = p.text_inside;
      out_after = p.out_after ∙ ap (sets a.out.now 0) (sym t);
      chosen_after = after ∙ sym e.1;
    }

pub returns-in-Err-choose : goal.returns-in-Err-choose
returns-in-Err-choose c =
    let a = c.args in
    let pre = c.requires in
    let w = sym c.is_followed.ensures ∙ c.if-is_followed.false in
    let h = sym c.choose.ensures.told ∙ c.in-Err-choose.is in
    let e = refused_said a.facts a.choice.now a.chosen.now a.bytes.now _ w (omega arith) h in
    let p = c.say_refusal-in-Err-choose.ensures in record {
      value = p.told ∙ said_as a.out.now _ _ pre.2 e.0;
      text_inside = p.inside;
      out_after = p.written ∙ said_in_as a.out.now _ _ pre.2 e.0;
      chosen_after = c.choose.ensures.written ∙ sym e.1;
    }
