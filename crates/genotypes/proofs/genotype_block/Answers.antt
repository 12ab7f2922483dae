-- `genotypes::genotype_block` meets its contract. The loop's invariant: the fields from the start on are those that are left, after the keys in the array.
use Rattle.std.proofs.Common.{◌≡◌, ◌∙◌, ◌+◌, ◌-◌, sym, arith, rules}
use Rattle.genotypes.proofs.Turns.{formats_field, keys_more}
use Rattle.genotypes.proofs.genotype_block.Goals as goal

pub loop-seen-preserved : goal.loop-seen-preserved
loop-seen-preserved c =
    let l = c.loop-seen in
    let f = rw c.in_ok-key.was at c.format_at.ensures.value in
    let i = c.in_ok-key.ensures.field_inside in
    let n : c.args.count - l.seen - 1 ≡ c.args.count - (l.seen + 1) = omega arith in (
      l.invariant.0
          ∙ formats_field _ _ _ _ _ _ _ _ _ (omega arith) (sym f) (omega (arith, i))
          ∙ rw (n, keys_more l.keys l.seen _ (omega arith), c.gt_after-gt.ensures),
      search rules,
    )
