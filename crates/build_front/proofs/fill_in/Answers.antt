-- `build_front::fill_in` meets its contract.
use Rattle.std.proofs.Common.{◌∙◌}
use borrow.Author.Tests.{le-ltb}
use Rattle.build_front.proofs.Fronts.{fields_stored}
use Rattle.build_front.proofs.fill_in.Goals as goal

pub returns : goal.returns
returns c =
    let a = c.args in
    let room = c.if-buf-lt-FILLED.false in
    rw (le-ltb _ _ room)
    (c.put_number-4.ensures.written
    ∙ rw (
      c.put_number-3.ensures.written,
      c.put_number-2.ensures.written,
      c.put_number.ensures.written,
      c.saturating_sub-indiv.ensures,
      c.saturating_sub-shared.ensures,
      c.from-3.ensures,
      c.from-2.ensures,
      c.from.ensures,
    ) (fields_stored a.buf.now a.border a.at a.alleles a.infos a.formats a.people room))
