-- `cuts::release_line` meets its contract.
use Rattle.std.proofs.Common.{Some, ap, sym, arith}
use borrow.Author.Tests.{le-ltb}
use Rattle.cuts.specs.Release.{release_said, release_said_in}
use Rattle.cuts.proofs.Releases.{length_release, release_stored}
use Rattle.cuts.proofs.release_line.Goals as goal

pub returns : goal.returns
unfolding release_said release_said_in
returns c =
    let a = c.args in
    let h = le-ltb _ _ c.if-out-lt33.false in
    let e = release_stored a.out.now a.facts a.people c.if-out-lt33.false in record {
      told = rw h (ap Some (sym (length_release a.facts a.people)));
      inside = omega arith;
      written = rw (h, c.put_eight-4.ensures.written, c.put_eight-3.ensures.written, c.put_eight-2.ensures.written, c.put_eight.ensures.written) e;
    }
