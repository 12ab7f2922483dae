-- `c_answers::tell_reading` meets its contract.
use borrow.Author.Rules.{rules}
use Rattle.c_answers.proofs.tell_reading.Goals as goal

pub overflow_cast-numbers-8 : goal.overflow_cast-numbers-8
overflow_cast-numbers-8 c =
    search (rules, c.struct_known-7-1.given.1.1.1.1.1.1.1.1.1.0)

pub returns : goal.returns
returns c =
    let site = c.in-Ok.is in
    let pos = c.to_bits-pos.ensures in
    let told = c.tell.ensures in
    record { told = rw (site, ← pos) told.told; written = rw (site, ← pos) told.written }
