-- `put_byte`: its test is that of the definition, said without a sum that might wrap. Rests on specs/Decimal.
use Prim.Native.Nat.{◌+◌, ◌<◌, ◌≤◌}
use native.Mathlib.Omega.{arith}
use lib.ListN.{length}
use borrow.Author.Tests.{lt-ltb, le-ltb}
use Rattle.decimal.specs.Decimal.{placed}
use Rattle.stores.specs.Stores.{filled}
use Rattle.decimal.proofs.put_byte.Goals as goal

pub returns-then-buf-at : goal.returns-then-buf-at
unfolding placed filled
returns-then-buf-at c =
    let a = c.args in
    let q : length a.buf.now < a.at + 1 = omega arith in
    record { told = rw (lt-ltb _ _ q); inside = tt; written = rw (lt-ltb _ _ q) }

pub returns : goal.returns
unfolding placed filled
returns c =
    let a = c.args in
    let q : a.at + 1 ≤ length a.buf.now = omega arith in
    record { told = rw (le-ltb _ _ q); inside = q; written = rw (le-ltb _ _ q) }
