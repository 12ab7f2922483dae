-- `vcf_calls::put_dots` meets its contract.
use native.Mathlib.Omega.{arith}
use native.Mathlib.Nat.{sub-zero}
use mathlib.Core.List.{◌∷◌, []}
use Prim.Native.Nat.{◌+◌, ◌-◌}
use mathlib.Core.Path.{◌≡◌}
use lib.ListN.{replicate}
use Rattle.pieces.specs.Pieces.{followed, dot}
use Rattle.pieces.proofs.Put.{all_to_put, put_some, put_all}
use Rattle.vcf_calls.proofs.Words.{dots_on, no_dots}
use Rattle.vcf_calls.proofs.put_dots.Goals as goal

pub loop-init : goal.loop-init
loop-init c = rw sub-zero (all_to_put _ _ _ (omega arith))

pub loop-preserved : goal.loop-preserved
loop-preserved c =
    let l = c.loop in
    let n = c.args.people - l.counter in
    let m : n - 1 ≡ c.args.people - (l.counter + 1) = omega arith in
    let rest = followed 0x09 (replicate (c.args.people - (l.counter + 1)) dot) in
    let t = rw (dots_on n (omega arith), m) at l.invariant in
    let u = put_some _ _ _ l.buf l.next (0x09 ∷ []) (0x2E ∷ rest) (omega arith) t (c.put_byte-next.ensures.next, c.put_byte-next.ensures.written) in
    put_some _ _ _ _ _ (0x2E ∷ []) rest (omega arith) u (c.put_byte-next-in-loop.ensures.next, c.put_byte-next-in-loop.ensures.written)

pub returns : goal.returns
returns c =
    let l = c.loop in
    let z : c.args.people - l.counter ≡ 0 = omega arith in
    let p = put_all _ _ _ l.buf l.next (rw (z, no_dots) at l.invariant) in
    record { next = p.0; written = p.1 }
