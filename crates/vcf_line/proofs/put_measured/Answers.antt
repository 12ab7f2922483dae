-- `vcf_line::put_measured` meets its contract.
use mathlib.Core.Path.{◌∙◌}
use Prim.Native.Nat.{◌<◌}
use native.Mathlib.Omega.{arith}
use native.Mathlib.Nat.{zero-add}
use lib.ListN.{length}
use borrow.Author.Tests.{lt-ltb, le-ltb}
use Rattle.stores.specs.Stores.{filled}
use Rattle.names.specs.Names.{name_of}
use Rattle.vcf_line.specs.Engine.{line_text}
use Rattle.vcf_line.proofs.Measured.{no_room, has_room}
use Rattle.vcf_line.proofs.put_measured.Goals as goal

pub returns-then-buf-size : goal.returns-then-buf-size
unfolding filled
returns-then-buf-size c =
    let a = c.args in
    let text = line_text (name_of a.strings.text.now a.strings.ends.now) (name_of a.contigs.text.now a.contigs.ends.now) a.site a.gt a.s.now in
    let k : length a.buf.now < length text = no_room (length a.buf.now) (length text) (omega (arith, c.well_formed)) (rw c.put_line-size.ensures.next at c.if-buf-size.true) in
    record {
      told = rw (lt-ltb (length a.buf.now) (length text) k) c.refused.ensures;
      written = rw (zero-add (length text), lt-ltb (length a.buf.now) (length text) k);
    }

pub returns : goal.returns
unfolding filled
returns c =
    let a = c.args in
    let text = line_text (name_of a.strings.text.now a.strings.ends.now) (name_of a.contigs.text.now a.contigs.ends.now) a.site a.gt a.s.now in
    let e = c.put_line-size.ensures.next in
    let k = has_room (length a.buf.now) (length text) (omega (arith, c.well_formed)) (rw e at c.if-buf-size.false) in
    record {
      told = rw (e, k.1, le-ltb (length a.buf.now) (length text) k.0);
      written = c.put_line.ensures.written ∙ rw (zero-add (length text), le-ltb (length a.buf.now) (length text) k.0);
    }
