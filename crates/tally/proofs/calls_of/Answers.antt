-- `tally::calls_of` meets its contract.
use Rattle.tally.proofs.Parts.{calls_of_none, calls_of_part}
use Rattle.tally.proofs.calls_of.Goals as goal

pub returns-then-len-eq0 : goal.returns-then-len-eq0
returns-then-len-eq0 c =
    let a = c.args in
    rw (c.without_all.ensures, calls_of_none a.gt a.people a.s.now c.if-len-eq0.true)

pub returns : goal.returns
returns c =
    let a = c.args in
    rw (c.count_calls.ensures, calls_of_part a.gt a.people a.s.now c.if-len-eq0.false, c.gt_part.ensures.result_value)
