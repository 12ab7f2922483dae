-- `vcf_qual::put_qual` meets its contract.
use mathlib.Core.Path.{sym, ◌∙◌}
use native.Mathlib.Omega.{arith}
use Rattle.pieces.proofs.Put.{none_put}
use Rattle.vcf_qual.proofs.Text.{text_missing, text_number, text_other}
use Rattle.vcf_qual.proofs.put_qual.Goals as goal

pub returns-then-qual-eq-MISSING : goal.returns-then-qual-eq-MISSING
returns-then-qual-eq-MISSING c =
    let p = c.put_byte in
    let e = text_missing _ c.if-qual-eq-MISSING.true in
    record { next = rw e p.ensures.next; written = rw e p.ensures.written }

pub returns-in-Some : goal.returns-in-Some
returns-in-Some c =
    let p = c.put_number in
    let w = sym c.whole_of.ensures ∙ c.in-Some.is in
    let e = text_number _ _ c.if-qual-eq-MISSING.false w in
    record { next = rw (e, ← c.from.ensures) p.ensures.next; written = rw (e, ← c.from.ensures) p.ensures.written }

pub returns-in-None : goal.returns-in-None
returns-in-None c =
    let e = text_other _ c.if-qual-eq-MISSING.false (sym c.whole_of.ensures ∙ c.in-None.is) in
    let p = none_put c.args.buf.now c.args.at (omega arith) in
    record { next = rw e p.0; written = rw e p.1 }
