-- `vcf_calls::put_couple` meets its contract.
use mathlib.Core.Path.{refl, sym}
use native.Mathlib.Omega.{arith}
use lib.ListN.{get_or}
use Rattle.vectors.proofs.Plain.{width_1}
use Rattle.vcf_calls.proofs.Pairs.{single_column, pair_column}
use Rattle.vcf_calls.proofs.put_couple.Goals as goal

pub put_column-requires : goal.put_column-requires
put_column-requires c = (sym width_1, omega arith)

pub returns-then-second : goal.returns-then-second
returns-then-second c =
    let s = c.args.person.now in
    rw (single_column s (get_or s 0 0) c.requires refl (sym c.if-second.true) (omega arith)) (record {
      next = c.put_single.ensures.next;
      written = c.put_single.ensures.written;
    })

pub put_column-requires-then-second-ge22 : goal.put_column-requires-then-second-ge22
put_column-requires-then-second-ge22 c = (sym width_1, omega arith)

pub returns : goal.returns
returns c =
    let s = c.args.person.now in
    rw (pair_column s (get_or s 0 0) (get_or s 1 0) c.requires refl refl (omega arith) (omega arith)) (record {
      next = c.put_pair.ensures.next;
      written = c.put_pair.ensures.written;
    })
