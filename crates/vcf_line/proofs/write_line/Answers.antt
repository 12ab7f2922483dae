-- `vcf_line::write_line` meets its contract.
use mathlib.Core.Path.{◌∙◌, sym}
use borrow.Author.Tests.{lt-ltb, le-ltb}
use Rattle.names.specs.Names.{name_of}
use Rattle.vcf_line.specs.Line.{printed, line_answer, after_line}
use Rattle.vcf_line.proofs.Shown.{line_shown}
use Rattle.vcf_line.proofs.write_line.Goals as goal

pub returns-then-string_ends-facts : goal.returns-then-string_ends-facts
unfolding line_answer after_line printed
returns-then-string_ends-facts c =
    let h = sym c.read.ensures.value ∙ c.in_ok-site.was in
    let q = sym c.is_printable.ensures ∙ c.if-is_printable.true in
    record {
      told = rw (h, q, lt-ltb _ _ c.if-string_ends-facts.true) c.refused.ensures;
      written = rw (h, q, lt-ltb _ _ c.if-string_ends-facts.true);
    }

pub returns-then-contig_ends-facts : goal.returns-then-contig_ends-facts
unfolding line_answer after_line printed
returns-then-contig_ends-facts c =
    let h = sym c.read.ensures.value ∙ c.in_ok-site.was in
    let q = sym c.is_printable.ensures ∙ c.if-is_printable.true in
    record {
      told = rw (h, q, le-ltb _ _ c.if-string_ends-facts.false, lt-ltb _ _ c.if-contig_ends-facts.true) c.refused-then-contig_ends-facts.ensures;
      written = rw (h, q, le-ltb _ _ c.if-string_ends-facts.false, lt-ltb _ _ c.if-contig_ends-facts.true);
    }

pub returns-then-is_printable : goal.returns-then-is_printable
unfolding line_answer after_line printed
returns-then-is_printable c =
    let a = c.args in
    let h = sym c.read.ensures.value ∙ c.in_ok-site.was in
    let q = sym c.is_printable.ensures ∙ c.if-is_printable.true in
    let string = name_of a.strings.now a.string_ends.now in
    let contig = name_of a.contigs.now a.contig_ends.now in
    let p = rw (line_shown a.facts a.s.now c.in_ok-site.field-0.site c.in_ok-site.field-0.gt string contig h) at c.put_measured.ensures in
    rw (h, q, le-ltb _ _ c.if-string_ends-facts.false, le-ltb _ _ c.if-contig_ends-facts.false) (record {
      told = p.told;
      written = p.written;
    })

pub returns : goal.returns
unfolding line_answer after_line printed
returns c =
    let h = sym c.read.ensures.value ∙ c.in_ok-site.was in
    let q = sym c.is_printable.ensures ∙ c.if-is_printable.false in
    record { told = rw (h, q) c.refused-2.ensures; written = rw (h, q) }
