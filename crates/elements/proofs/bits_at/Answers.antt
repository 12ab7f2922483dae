-- `elements::bits_at` meets its contract.
use mathlib.Core.Path.{◌∙◌}
use lib.ListN.{drop}
use Rattle.words.proofs.Words.{number_part}
use Rattle.types.proofs.Table.{widths}
use Rattle.elements.proofs.bits_at.Goals as goal

pub returns : goal.returns
returns c =
    let a = c.args in
    c.shown_bits.ensures ∙ rw (c.word_at.ensures, c.row_of-row.ensures.width_value.0, number_part _ (drop a.at a.part.now) (widths a.code).0)
