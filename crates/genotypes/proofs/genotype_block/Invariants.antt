-- `genotypes::genotype_block` meets its contract. The loop's invariant: the fields from the start on are those that are left, after the keys in the array.
use Rattle.std.proofs.Common.{◌≡◌, ◌-◌, [], drop, length, take}
use Rattle.genotypes.specs.Formats.{formats, no_gt}
use Rattle.genotypes.proofs.genotype_block.Given as goal

abbrev pub invariant-loop-seen : goal.invariant-loop-seen
invariant-loop-seen l =
    (formats l.facts.strings l.facts.people l.facts.gt l.alleles l.count [] no_gt l.from (drop l.from l.block)
    ≡ formats l.facts.strings l.facts.people l.facts.gt l.alleles (l.count - l.seen) (take l.seen l.keys) l.gt l.at (drop l.at l.block))
    × (length l.keys ≡ 256)
