-- `encode::takes_all` meets its contract.
use Rattle.std.proofs.Common.{rules, get_or, pos, SFits, to_z-of_z}
use Rattle.std.specs.Int.{w32}
use Rattle.encode.specs.Engine.{taken}
use Rattle.encode.proofs.Widest.{swept_more}
use Rattle.encode.proofs.takes_all.Goals as goal

pub loop-z-preserved : goal.loop-z-preserved
loop-z-preserved g c =
    let zs = c.args.values.now in
    let i = c.loop-z.z-index in
    let f : SFits w32 (get_or zs i (pos 0)) = search rules in
    rw (swept_more (taken g.row.MOST g.row.LEAST) zs i c.loop-z-test.true, ← c.loop-z.invariant, c.takes-good.ensures, c.cast_unsigned.ensures) (simp to_z-of_z)
