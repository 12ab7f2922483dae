-- `genotypes::is_repeated` meets its contract. The loop's invariant: the key is among all earlier ones as it is among those left, which are whole rows.
use Rattle.std.proofs.Common.{◌≡◌, ◌∙◌, sym, arith, rules}
use Rattle.std.specs.Slice.Exact.{rchunks_exact_rest}
use Rattle.vectors.proofs.Lots.{length_cut}
use Rattle.genotypes.proofs.Earlier.{among_cut, among_split, rows_whole}
use Rattle.genotypes.proofs.is_repeated.Goals as goal

pub returns-then-few_have : goal.returns-then-few_have
returns-then-few_have c =
    let a = c.args in
    rw (among_split a.earlier.now a.key c.near_from.result, ← c.split_at.ensures.back, ← c.few_have.ensures, c.if-few_have.true)

pub loop-row-init : goal.loop-row-init
loop-row-init c =
    let a = c.args in
    let r = c.rchunks_exact-row-items in
    let whole : rchunks_exact_rest r.result ≡ c.split_at.result.0.now = rows_whole _ _ _ r.ensures.parts r.ensures.remainder_len (omega arith) in
    let near = rw (← c.split_at.ensures.back, ← c.few_have.ensures, c.if-few_have.false) at (among_split a.earlier.now a.key c.near_from.result) in
    rw (c.into_iter-row-iterator.ensures.into_iter_gives, whole) (search rules, tt, r.ensures.size, omega arith, rw c.split_at.ensures.front (sym near))

pub returns-then-row_has : goal.returns-then-row_has
returns-then-row_has c =
    let l = c.loop-row.invariant in
    let s = c.in-Some.ensures.steps in
    rw (← l.4, among_cut c.args.key _ (rchunks_exact_rest c.next.new.self) c.in-Some.row.now s.2.0, ← c.row_has.ensures, c.if-row_has.true)

pub loop-row-preserved : goal.loop-row-preserved
loop-row-preserved c =
    let l = c.loop-row.invariant in
    let s = c.in-Some.ensures.steps in
    let n = length_cut _ (rchunks_exact_rest c.next.new.self) c.in-Some.row.now s.2.0 in (
      search rules,
      tt,
      s.0 ∙ l.2,
      omega arith,
      rw (← l.4, among_cut c.args.key _ (rchunks_exact_rest c.next.new.self) c.in-Some.row.now s.2.0, ← c.row_has.ensures, c.if-row_has.false),
    )
