-- `vcf_site::put_text` meets its contract.
use mathlib.Core.Path.{sym, ◌∙◌}
use borrow.Author.Tests.{eqb-true, eqb-false}
use Rattle.names.specs.Names.{before_zero}
use Rattle.vcf_site.proofs.Parts.{dot_none, dot_some}
use Rattle.vcf_site.proofs.put_text.Goals as goal

pub returns-then-is_empty : goal.returns-then-is_empty
returns-then-is_empty c =
    let a = c.args in
    let e = c.before_zero-part.ensures.result_value in
    rw (dot_none (before_zero a.text.now) (rw (← e) (eqb-true _ _ (sym c.is_empty.ensures ∙ c.if-is_empty.true)))) (record {
      next = c.put_byte.ensures.next;
      written = c.put_byte.ensures.written;
    })

pub returns : goal.returns
returns c =
    let a = c.args in
    let e = c.before_zero-part.ensures.result_value in
    rw (dot_some (before_zero a.text.now) (rw (← e) (eqb-false _ _ (sym c.is_empty.ensures ∙ c.if-is_empty.false))), ← e) (record {
      next = c.put_part.ensures.next;
      written = c.put_part.ensures.written;
    })
