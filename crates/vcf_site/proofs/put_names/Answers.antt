-- `vcf_site::put_names` meets its contract.
use mathlib.Core.Path.{◌∙◌}
use mathlib.Core.List.{◌∷◌, ◌++◌, map, []}
use Prim.Native.Nat.{◌<◌}
use native.Mathlib.Omega.{arith}
use native.Mathlib.Nat.{div-eq_of_lt}
use lib.ListN.{length}
use Rattle.std.specs.Slice.Iter.{chunks_exact_rest}
use Rattle.vectors.specs.Vectors.{elements_of}
use Rattle.pieces.specs.Pieces.{followed}
use Rattle.pieces.proofs.Put.{put_some, put_all}
use Rattle.names.specs.Names.{name_of}
use Rattle.vcf_site.proofs.Parts.{chunk_front, names_none, names_first, none_followed, followed_on}
use Rattle.vcf_site.proofs.put_names.Goals as goal

pub loop-element-preserved : goal.loop-element-preserved
loop-element-preserved c =
    let l = c.loop-element in
    let a = c.args in
    let string = name_of a.names.text.now a.names.ends.now in
    let x = c.bits_at-x.result in
    let h = c.in-Some.ensures.steps in
    let f = chunk_front a.width _ _ _ h.1.0 (h.1.1 ∙ l.invariant.1) in
    let q = rw (← c.requires.0, ← f.0) at c.bits_at-x.ensures in
    let e = names_first string a.code a.width _ c.requires.0 c.requires.1 f.2 in
    let last = chunks_exact_rest c.next.new.self in
    let rest = followed 0x3B (map string (elements_of a.code (length last) last)) in
    let t = rw (e, f.1, followed_on, ← q) at l.invariant.0 in
    let u = put_some _ _ _ l.buf l.next (0x3B ∷ []) (string x ++ rest) (omega arith) t (c.put_byte-next.ensures.next, c.put_byte-next.ensures.written) in
    let v = put_some _ _ _ _ _ (string x) rest (omega arith) u (let q = rw c.at.ensures at c.put_part-next.ensures in (q.next, q.written)) in
    (v, h.0 ∙ l.invariant.1)

pub returns : goal.returns
returns c =
    let l = c.loop-element in
    let a = c.args in
    let rest = chunks_exact_rest l.element-iterator in
    let h : length rest < a.width = let h = c.in-None.ensures.steps.1 in omega arith in
    let e = names_none (name_of a.names.text.now a.names.ends.now) a.code a.width rest c.requires.0 (div-eq_of_lt h) in
    let p = put_all _ _ _ l.buf l.next (rw (e, none_followed) at l.invariant.0) in
    record { next = p.0; written = p.1 }
