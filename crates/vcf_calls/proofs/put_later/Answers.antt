-- `vcf_calls::put_later` meets its contract.
use native.Mathlib.Omega.{arith}
use mathlib.Core.Path.{sym, ◌∙◌}
use mathlib.Core.List.{◌∷◌, ◌++◌, []}
use Prim.Native.Nat.{◌<◌}
use lib.ListN.{length}
use Rattle.std.specs.Slice.Iter.{chunks_exact_rest}
use Rattle.pieces.proofs.Put.{put_some, put_all}
use Rattle.vcf_calls.specs.Words.{slot_word, separator, call_of_number}
use Rattle.vcf_calls.specs.Engine.{later_text}
use Rattle.vcf_calls.proofs.Words.{chunk_front, later_text_none, later_text_end, later_text_on}
use Rattle.vcf_calls.proofs.put_later.Goals as goal

pub returns-then-x : goal.returns-then-x
returns-then-x c =
    let l = c.loop-element in
    let a = c.args in
    let h = c.in-Some.ensures.steps.1 in
    let f = chunk_front a.width _ _ _ h.0 (h.1 ∙ l.invariant.1) in
    let q = rw (← c.requires.0, ← f.0) at (sym c.bits_at-x.ensures ∙ c.if-x.true) in
    let p = put_all _ _ _ l.buf l.next (rw (later_text_end a.code a.width _ c.requires.0 c.requires.1 f.2 q) at l.invariant.0) in
    record { next = p.0; written = p.1 }

pub loop-element-preserved : goal.loop-element-preserved
loop-element-preserved c =
    let l = c.loop-element in
    let a = c.args in
    let x = c.bits_at-x.result in
    let h = c.in-Some.ensures.steps in
    let f = chunk_front a.width _ _ _ h.1.0 (h.1.1 ∙ l.invariant.1) in
    let q = rw (← c.requires.0, ← f.0) at c.bits_at-x.ensures in
    let e = later_text_on a.code a.width _ x c.requires.0 c.requires.1 f.2 q (omega arith) c.if-x.false in
    let t = rw (e, f.1) at l.invariant.0 in
    let m = rw c.separator_of.ensures at c.put_byte-next.ensures in
    let rest = later_text a.code (chunks_exact_rest c.next.new.self) in
    let u = put_some _ _ _ l.buf l.next (separator (call_of_number x) ∷ []) (slot_word (call_of_number x) ++ rest) (omega arith) t (m.next, m.written) in
    (put_some _ _ _ _ _ (slot_word (call_of_number x)) rest (omega arith) u (c.put_slot-next.ensures.next, c.put_slot-next.ensures.written), h.0 ∙ l.invariant.1)

pub returns : goal.returns
returns c =
    let l = c.loop-element in
    let a = c.args in
    let rest = chunks_exact_rest l.element-iterator in
    let h : length rest < a.width = let h = c.in-None.ensures.steps.1 in omega arith in
    let p = put_all _ _ _ l.buf l.next (rw (later_text_none a.code a.width rest c.requires.0 h) at l.invariant.0) in
    record { next = p.0; written = p.1 }
