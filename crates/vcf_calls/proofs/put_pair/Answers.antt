-- `vcf_calls::put_pair` meets its contract.
use mathlib.Core.Path.{sym}
use native.Mathlib.Omega.{arith}
use native.Mathlib.Numerals.{towards_suc}
use lib.ListN.{length-set}
use Rattle.pieces.proofs.Put.{after_under, sets_past}
use Rattle.vcf_calls.specs.Engine.{pair_text}
use Rattle.vcf_calls.proofs.Pairs.{pair_bytes_lem, pair_length}
use Rattle.vcf_calls.proofs.put_pair.Goals as goal

pub returns-then-buf-to : goal.returns-then-buf-to
returns-then-buf-to c =
    let a = c.args in
    record {
      next = rw (pair_length a.first a.second c.requires.0 c.requires.1) c.past.ensures;
      written = sym (sets_past a.buf.now a.to (pair_text a.first a.second) (omega arith));
    }

pub returns-then-buf-to-lt4 : goal.returns-then-buf-to-lt4
returns-then-buf-to-lt4 c =
    let a = c.args in
    rw (pair_bytes_lem a.first a.second _ _ _ c.figure-a.ensures c.separator_of-mark.ensures c.figure-b.ensures) (record {
      next = c.put_four.ensures.next;
      written = c.put_four.ensures.written;
    })

pub bounds-buf-to-2 : goal.bounds-buf-to-2
bounds-buf-to-2 c = simp length-set (omega arith)

pub bounds-buf-to-3 : goal.bounds-buf-to-3
bounds-buf-to-3 c = simp length-set (omega arith)

pub bounds-buf-to-4 : goal.bounds-buf-to-4
bounds-buf-to-4 c = simp length-set (omega arith)

pub returns : goal.returns
returns c =
    let a = c.args in
    rw (pair_bytes_lem a.first a.second _ _ _ c.figure-a.ensures c.separator_of-mark.ensures c.figure-b.ensures) (record {
      next = sym (after_under a.to 4 (omega arith));
      written = simp towards_suc;
    })
