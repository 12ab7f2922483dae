-- `vcf_calls::put_person` meets its contract.
use native.Mathlib.Omega.{arith}
use mathlib.Core.Path.{◌≡◌, sym, ◌∙◌}
use Prim.Native.Nat.{◌-◌}
use lib.ListN.{drop, length, length-drop, take}
use lib.Seq.{take_all}
use Rattle.pieces.proofs.Put.{then_put}
use Rattle.vcf_calls.specs.Words.{slot_word, call_of_number}
use Rattle.vcf_calls.specs.Engine.{later_text}
use Rattle.vcf_calls.proofs.Words.{person_text_none, person_text_end, person_text_on}
use Rattle.vcf_calls.proofs.put_person.Goals as goal

pub returns-then-person-width : goal.returns-then-person-width
returns-then-person-width c =
    let a = c.args in
    rw (person_text_none a.code a.width a.person.now c.requires.0 c.if-person-width.true) (record {
      next = c.put_byte.ensures.next;
      written = c.put_byte.ensures.written;
    })

pub returns-then-x : goal.returns-then-x
returns-then-x c =
    let a = c.args in
    rw (person_text_end a.code a.width a.person.now c.requires.0 c.requires.1 (omega arith) (rw (← c.requires.0) at (sym c.bits_at-x.ensures ∙ c.if-x.true))) (record {
      next = c.put_byte-then-x.ensures.next;
      written = c.put_byte-then-x.ensures.written;
    })

pub returns : goal.returns
returns c =
    let a = c.args in
    let x = c.bits_at-x.result in
    let e = person_text_on a.code a.width a.person.now x c.requires.0 c.requires.1 (omega arith) (rw (← c.requires.0) at c.bits_at-x.ensures) (omega arith) c.if-x.false in
    let s = a.person.now in
    let d : take (length s - a.width) (drop a.width s) ≡ drop a.width s = take_all _ _ (rw length-drop (omega arith)) in
    let l = rw d at c.put_later.ensures in
    let p = then_put a.buf.now a.to (slot_word (call_of_number x)) (later_text a.code (drop a.width a.person.now)) (omega arith)
    (c.put_slot-next.ensures.next, c.put_slot-next.ensures.written) (l.next, l.written) in
    rw e (record { next = p.0; written = p.1 })
