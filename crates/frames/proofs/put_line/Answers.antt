-- `frames::put_line` meets its contract. The pieces in turn are the line: law `line_stored`.
use Rattle.std.proofs.Common.{arith}
use Rattle.frames.proofs.Texts.{length_line}
use Rattle.frames.proofs.put_line.Goals as goal

pub returns-clause-value : goal.returns-clause-value
returns-clause-value c =
    let a = c.args in
    omega (arith, c.put_numbers-middle.ensures.value, c.put_numbers-last.ensures.value, length_line a.a a.b a.head.now a.more.now)
