-- `vcf_calls::put_slot` meets its contract.
use native.Mathlib.Omega.{arith}
use Prim.Native.Nat.{◌/◌, ◌-◌}
use Rattle.decimal.proofs.Decimal.{below_ten}
use Rattle.vcf_calls.proofs.Words.{high_word, missing_word, allele_word}
use Rattle.vcf_calls.proofs.put_slot.Goals as goal

pub returns-then-x-ge2147483648 : goal.returns-then-x-ge2147483648
returns-then-x-ge2147483648 c = rw (high_word c.args.x c.if-x-ge2147483648.true (omega arith)) (record {
  next = c.put_byte.ensures.next;
  written = c.put_byte.ensures.written;
})

pub returns-then-x-lt2 : goal.returns-then-x-lt2
returns-then-x-lt2 c = rw (missing_word c.args.x c.if-x-lt2.true) (record {
  next = c.put_byte-then-x-lt2.ensures.next;
  written = c.put_byte-then-x-lt2.ensures.written;
})

pub returns-then-x-lt22 : goal.returns-then-x-lt22
returns-then-x-lt22 c =
    let x = c.args.x in
    rw (allele_word x c.if-x-lt2.false c.if-x-ge2147483648.false, below_ten (x / 2 - 1) (omega arith)) (record {
      next = c.put_byte-then-x-lt22.ensures.next;
      written = c.put_byte-then-x-lt22.ensures.written;
    })

pub returns : goal.returns
returns c =
    let x = c.args.x in
    rw (allele_word x c.if-x-lt2.false c.if-x-ge2147483648.false) (record {
      next = c.put_number.ensures.next;
      written = c.put_number.ensures.written;
    })
