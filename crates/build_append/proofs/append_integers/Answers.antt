-- `build_append::append_integers` meets its contract.
use Rattle.std.proofs.Common.{length, map, of_z, arith}
use Rattle.std.proofs.Math.Nat.{mul-le-mul_left}
use Rattle.std.specs.Int.{w32}
use Rattle.types.proofs.Table.{widths}
use Rattle.encode.specs.Encode.{widest}
use Rattle.build_append.proofs.append_integers.Goals as goal

pub append-requires : goal.append-requires
append-requires c =
    omega (arith, mul-le-mul_left (length c.args.values.now) (widths (widest (map (of_z w32) c.args.values.now))).0)
